use Rattle.std.proofs.Common.{subst}
use Rattle.lua_frames.specs.declared.flow.Flow.{Flow}
use Rattle.lua_frames.specs.Follows.{Follows}
use Rattle.lua_threads.specs.Steps.{RaisesSteps}
use Rattle.lua_threads.proofs.threads.slice_of.Goals as goal

pub returns-in-Asked-clause-comes : goal.returns-in-Asked-clause-comes
returns-in-Asked-clause-comes c = λ S o store f rs. c.parked.ensures.comes S o store (subst (λ (t : Flow). Follows S o store c.args.frames t) c.in-Asked.is f) rs

pub returns-in-Asked-clause-counts : goal.returns-in-Asked-clause-counts
returns-in-Asked-clause-counts c = λ old new h. c.parked.ensures.counts old new (subst (λ (t : Flow). RaisesSteps old new t) c.in-Asked.is h)
