use Rattle.std.proofs.Common.{rules}
use Rattle.schedule_text.proofs.ranges.is_event.Goals as goal

pub returns-in-Moment : goal.returns-in-Moment
returns-in-Moment c = search rules
