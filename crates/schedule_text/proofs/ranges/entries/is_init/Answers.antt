use Rattle.std.proofs.Common.{rules}
use Rattle.schedule_text.proofs.ranges.entries.is_init.Goals as goal

pub returns-in-None : goal.returns-in-None
returns-in-None c = search rules
