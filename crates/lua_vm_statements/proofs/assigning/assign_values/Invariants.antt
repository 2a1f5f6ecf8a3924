use Rattle.std.proofs.Common.{length}
use Rattle.lua_frames.specs.Changes.{KeepsAllButSlots}
use Rattle.lua_vm_statements.proofs.AssignAllLemmas.{Fewer}
use Rattle.lua_vm_statements.proofs.assigning.assign_values.Given as goal

abbrev pub invariant-loop-target : goal.invariant-loop-target
invariant-loop-target g l =
    KeepsAllButSlots l.fn.frames l.frames × Fewer (g.H.Host.setting l.fn.host) l.fn.targets.items l.fn.values.items l.fn.frames l.fn.store l.targets.items l.values.items l.frames l.store

abbrev pub decreases-loop-target : goal.decreases-loop-target
decreases-loop-target g l = length l.targets.items
