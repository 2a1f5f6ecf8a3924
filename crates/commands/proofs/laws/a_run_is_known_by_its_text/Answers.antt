use Rattle.std.proofs.Common.{sym}
use Rattle.commands.proofs.laws.a_run_is_known_by_its_text.Goals as goal

pub returns : goal.returns
returns g c = λ b lines h run other read. c.a_history_is_known_by_its_text.ensures other h read.made run.ranged (sym read.whole)
