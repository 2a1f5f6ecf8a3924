use Rattle.site_check.proofs.Apart.{apart}
use Rattle.site_check.proofs.laws.no_site_is_refused.Goals as goal

pub returns : goal.returns
returns c = apart c.a_text_has_one_configuration.ensures c.no_configuration_is_refused.ensures c.one_reading.ensures
