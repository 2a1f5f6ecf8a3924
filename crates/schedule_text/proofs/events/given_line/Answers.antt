use Rattle.std.proofs.Common.{rules}
use Rattle.schedule_text.proofs.events.given_line.Goals as goal

pub returns : goal.returns
returns c = search rules
