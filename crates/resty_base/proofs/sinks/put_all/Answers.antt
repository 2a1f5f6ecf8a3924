use Rattle.resty_base.proofs.Taking.{puts_further}
use Rattle.resty_base.proofs.sinks.put_all.Goals as goal

pub loop-done-preserved : goal.loop-done-preserved
loop-done-preserved g c = puts_further _ _ _ _ _ _ c.loop-done.invariant.0 c.loop-done.invariant.1 c.in-Took.ensures
