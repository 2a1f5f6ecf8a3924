use Rattle.std.proofs.Common.{◌≡◌, List}
use Rattle.lua_meaning.specs.Evaluator.{Resume}
use Rattle.lua_frames.specs.Frames.{finish}
use Rattle.lua_threads.proofs.turns.step.Given as goal

abbrev pub invariant-loop : goal.invariant-loop
invariant-loop g l =
    (rs : List Resume) → finish (g.H.Host.setting l.fn.host) l.fn.frames (record { store = l.fn.store; resumes = rs }) ≡ finish (g.H.Host.setting l.fn.host) l.frames (record { store = l.store; resumes = rs })
