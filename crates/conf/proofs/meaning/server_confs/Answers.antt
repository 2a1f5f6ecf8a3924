-- One more server is made.
use Rattle.std.proofs.Common.{arith}
use Rattle.std.proofs.lemmas.Grind.{common_steps}
use Rattle.conf.proofs.meaning.server_confs.Goals as goal

pub loop-server-init : goal.loop-server-init
loop-server-init c = grind (arith, common_steps)

pub loop-server-preserved : goal.loop-server-preserved
loop-server-preserved c = grind (arith, common_steps)
