use Rattle.std.proofs.Common.{◌-◌}
use Rattle.lua_machine.specs.Finishes.{Finish}
use Rattle.lua_values.specs.Heap.{step_limit}
use Rattle.run_threads.specs.declared.handlers.Handled.{Handled}
use Rattle.run_threads.specs.Threads.{IsLeft}
use Rattle.run_threads.specs.Views.{answered_seen}
use Rattle.run_threads.proofs.handlers.go_on.Given as goal

-- what is left is of the same handler
abbrev pub invariant-loop-left : goal.invariant-loop-left
invariant-loop-left g l =
    (life : Finish) (came : Handled) → IsLeft life (g.M.Machine.finish l.fn.machine l.fn.thread) (answered_seen l.fn.answered) came → IsLeft life (g.M.Machine.finish l.machine l.thread) (answered_seen l.answered) came

abbrev pub decreases-loop-left : goal.decreases-loop-left
decreases-loop-left g l = step_limit - l.answered.running.store.steps
