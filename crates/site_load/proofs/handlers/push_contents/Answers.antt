-- One more location's content handler is added, if it has one.
use Rattle.std.proofs.Common.{arith}
use Rattle.std.proofs.lemmas.Grind.{common_steps}
use Rattle.site_load.proofs.handlers.push_contents.Goals as goal

pub loop-location-init : goal.loop-location-init
loop-location-init c = grind (arith, common_steps)

pub loop-location-preserved : goal.loop-location-preserved
loop-location-preserved c = grind (arith, common_steps)

pub returns : goal.returns
returns c = grind (arith, common_steps)
