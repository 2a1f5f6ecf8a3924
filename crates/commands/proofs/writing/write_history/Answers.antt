use Rattle.std.proofs.Common.{rules}
use Rattle.commands.proofs.writing.write_history.Goals as goal

pub returns-then-is_err : goal.returns-then-is_err
returns-then-is_err g c = search rules
