use Rattle.conf_text.proofs.Unique.{one_list}
use Rattle.conf_text.proofs.laws.a_text_has_one_list_of_items.Goals as goal

pub returns : goal.returns
returns c = one_list
