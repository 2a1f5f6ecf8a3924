use Rattle.std.proofs.Common.{◌≡◌, ◌≤◌, ◌-◌, List}
use Rattle.lua_values.specs.Heap.{step_limit}
use Rattle.lua_meaning.specs.Evaluator.{Resume}
use Rattle.lua_frames.specs.Frames.{finish}
use Rattle.lua_threads.proofs.turns.run.Given as goal

abbrev pub invariant-loop-flow : goal.invariant-loop-flow
invariant-loop-flow g l =
    ((rs : List Resume) → finish (g.H.Host.setting l.fn.host) l.fn.frames (record { store = l.fn.store; resumes = rs }) ≡ finish (g.H.Host.setting l.fn.host) l.frames (record { store = l.store; resumes = rs })) × (l.fn.store.steps ≤ l.store.steps)

abbrev pub decreases-loop-flow : goal.decreases-loop-flow
decreases-loop-flow g l = step_limit - l.store.steps
