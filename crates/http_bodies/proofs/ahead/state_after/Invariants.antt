use Rattle.std.proofs.Common.{length}
use Rattle.http_bodies.specs.declared.states.BodyState.{BodyState}
use Rattle.http_bodies.proofs.Looking.{LeadsTo}
use Rattle.http_bodies.proofs.ahead.state_after.Given as goal

-- what the rest leads to is what the whole piece leads to
abbrev pub invariant-loop-rest : goal.invariant-loop-rest
invariant-loop-rest l = (after : BodyState) → LeadsTo l.state l.left l.rest after → LeadsTo l.fn.state l.fn.room l.piece after

abbrev pub decreases-loop-rest : goal.decreases-loop-rest
decreases-loop-rest l = length l.rest
