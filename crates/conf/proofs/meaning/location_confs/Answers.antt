-- One more location is made.
use Rattle.std.proofs.Common.{arith}
use Rattle.std.proofs.lemmas.Grind.{common_steps}
use Rattle.conf.proofs.meaning.location_confs.Goals as goal

pub loop-location-init : goal.loop-location-init
loop-location-init c = grind (arith, common_steps)

pub loop-location-preserved : goal.loop-location-preserved
loop-location-preserved c = grind (arith, common_steps)
