use Rattle.commands.proofs.OneStatus.{one_status}
use Rattle.commands.proofs.laws.one_status.Goals as goal

pub returns : goal.returns
returns c =
    one_status c.sites_are_known.ensures.one c.sites_are_known.ensures.none c.sites_are_known.ensures.alike c.no_schedule_is_refused.ensures
    c.a_schedule_is_known_by_its_text.ensures
