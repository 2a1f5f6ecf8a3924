use Rattle.std.proofs.Common.{◌≡◌, ◌-◌, List}
use Rattle.lua_values.specs.Heap.{step_limit}
use Rattle.lua_meaning.specs.Works.{AValue}
use Rattle.lua_meaning.specs.Evaluator.{Resume}
use Rattle.lua_frames.specs.Frames.{entering}
use Rattle.lua_vm_expressions.proofs.expressions.enter_value.Given as goal

abbrev pub invariant-loop-next : goal.invariant-loop-next
invariant-loop-next g l =
    (rs : List Resume) → entering (g.H.Host.setting l.fn.host) (AValue l.fn.x) l.fn.frames l.fn.store rs ≡ entering (g.H.Host.setting l.fn.host) (AValue l.next) l.frames l.store rs

abbrev pub decreases-loop-next : goal.decreases-loop-next
decreases-loop-next g l = step_limit - l.store.steps
