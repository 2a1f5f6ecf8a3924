use Rattle.std.proofs.Common.{rules}
use Rattle.schedule_text.proofs.text.words.put_quoted_byte.Goals as goal

pub returns-in-92 : goal.returns-in-92
returns-in-92 c = search rules
