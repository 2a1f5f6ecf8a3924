use Rattle.conf.proofs.Walks.{one_conf}
use Rattle.conf.proofs.laws.a_text_has_one_configuration.Goals as goal

pub returns : goal.returns
returns c = one_conf c.a_text_has_one_list_of_items.ensures
