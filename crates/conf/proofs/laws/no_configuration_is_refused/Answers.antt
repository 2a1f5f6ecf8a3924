use Rattle.conf.proofs.Walks.{none_refused}
use Rattle.conf.proofs.laws.no_configuration_is_refused.Goals as goal

pub returns : goal.returns
returns c = none_refused c.a_text_has_one_list_of_items.ensures
