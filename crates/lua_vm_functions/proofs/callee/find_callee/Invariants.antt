use Rattle.std.proofs.Common.{◌≡◌, List, [], ◌-◌}
use Rattle.lua_values.specs.Heap.{step_limit}
use Rattle.lua_meaning.specs.Works.{Places, ACall}
use Rattle.lua_meaning.specs.Evaluator.{Resume}
use Rattle.lua_meaning.specs.Setting.{Setting}
use Rattle.lua_meaning.specs.Nodes.{eval}
use Rattle.lua_vm_functions.proofs.callee.find_callee.Given as goal

abbrev pub invariant-loop-function : goal.invariant-loop-function
invariant-loop-function l =
    (S : Setting) (q : Places) (rs : List Resume)
    → eval S (ACall l.fn.function l.fn.args.items) q [] (record { store = l.fn.store; resumes = rs }) ≡ eval S (ACall l.function l.args.items) q [] (record { store = l.store; resumes = rs })

abbrev pub decreases-loop-function : goal.decreases-loop-function
decreases-loop-function l = step_limit - l.store.steps
