use Rattle.conf.proofs.Walks.{one_fault}
use Rattle.conf.proofs.laws.a_refused_text_has_one_fault.Goals as goal

pub returns : goal.returns
returns c = one_fault c.a_text_has_one_list_of_items.ensures
