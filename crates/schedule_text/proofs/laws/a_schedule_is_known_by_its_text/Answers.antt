use Rattle.schedule_text.proofs.OneWay.{schedule-alone}
use Rattle.schedule_text.proofs.laws.a_schedule_is_known_by_its_text.Goals as goal

pub returns : goal.returns
returns c = schedule-alone
