use Rattle.std.proofs.Common.{rules}
use Rattle.schedule_text.proofs.reading.reader.Reader.is_next.Goals as goal

pub returns-then-number-gt0 : goal.returns-then-number-gt0
returns-then-number-gt0 c = search rules
