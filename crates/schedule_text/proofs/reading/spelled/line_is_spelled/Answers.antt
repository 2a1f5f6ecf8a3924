use Rattle.std.proofs.Common.{rules}
use Rattle.schedule_text.proofs.reading.spelled.line_is_spelled.Goals as goal

pub returns : goal.returns
returns c = search rules
