use Rattle.schedule_text.proofs.OneWay.{never-refused}
use Rattle.schedule_text.proofs.laws.no_schedule_is_refused.Goals as goal

pub returns : goal.returns
returns c = never-refused
