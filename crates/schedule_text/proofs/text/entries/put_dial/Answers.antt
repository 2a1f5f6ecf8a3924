use Rattle.std.proofs.Common.{arith}
use Rattle.std.proofs.lemmas.Grind.{common_steps}
use Rattle.schedule_text.proofs.text.entries.put_dial.Goals as goal

pub returns : goal.returns
returns c = grind (arith, common_steps)
