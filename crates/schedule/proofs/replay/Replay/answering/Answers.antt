use Rattle.std.proofs.Common.{arith}
use Rattle.std.proofs.lemmas.Grind.{common_steps}
use Rattle.schedule.proofs.replay.Replay.answering.Goals as goal

pub loop-index-init : goal.loop-index-init
loop-index-init c = grind (arith, common_steps)

pub loop-index-preserved : goal.loop-index-preserved
loop-index-preserved c = grind (arith, common_steps)

pub returns-clause-below : goal.returns-clause-below
returns-clause-below c = grind (arith, common_steps)

pub returns-clause-quiet : goal.returns-clause-quiet
returns-clause-quiet c = grind (arith, common_steps)

pub returns-clause-loud : goal.returns-clause-loud
returns-clause-loud c = grind (arith, common_steps)
