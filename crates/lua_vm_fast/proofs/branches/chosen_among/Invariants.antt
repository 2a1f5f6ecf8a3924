use Rattle.std.proofs.Common.{◌-◌, ◌<◌, length}
use Rattle.lua_values.specs.Heap.{step_limit}
use Rattle.lua_vm_fast.proofs.BranchLemmas.{Trying}
use Rattle.lua_vm_fast.proofs.branches.chosen_among.Given as goal

abbrev pub invariant-loop-i : goal.invariant-loop-i
invariant-loop-i l = Trying l.arms l.last l.i l.slots l.store.heap l.steps × (l.steps < step_limit)

abbrev pub decreases-loop-i : goal.decreases-loop-i
decreases-loop-i l = length l.arms - l.i
