use Rattle.std.proofs.Common.{◌-◌, length}
use Rattle.lua_vm_fast.proofs.CallLemmas.{IsPadded}
use Rattle.lua_vm_fast.proofs.calls.pad.Given as goal

abbrev pub invariant-loop-slots : goal.invariant-loop-slots
invariant-loop-slots l = IsPadded l.fn.slots.items l.slots.items l.count

abbrev pub decreases-loop-slots : goal.decreases-loop-slots
decreases-loop-slots l = l.count - length l.slots.items
