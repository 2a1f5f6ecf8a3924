use Rattle.std.proofs.Common.{arith}
use Rattle.lua_frames.specs.declared.flow.Flow.TheVariants as flow
use Rattle.lua_threads.specs.Steps.{RaisesSteps}
use Rattle.lua_threads.proofs.turns.run.Goals as goal

pub loop-flow-smaller : goal.loop-flow-smaller
loop-flow-smaller g c =
    let rises : RaisesSteps c.loop-flow.store c.step.new.store flow.Went = rw c.in-Went.is at c.in_ok-flow.ensures.counts in
    omega (arith, rises.0, rises.1)
