use Rattle.std.proofs.Common.{◌≡◌, ◌-◌, length, map}
use Rattle.lua_frames.specs.Frames.{here, slots_of}
use Rattle.lua_frames.specs.Items.{target_of, targets_left}
use Rattle.lua_vm_statements.proofs.TargetLemmas.{TargetsLeft}
use Rattle.lua_vm_statements.proofs.targets.find_targets.Given as goal

abbrev pub invariant-loop-target : goal.invariant-loop-target
invariant-loop-target g l =
    (l.frames ≡ l.fn.frames)
    × TargetsLeft (g.H.Host.setting l.fn.host) (targets_left (g.H.Host.setting l.fn.host) l.fn.assignment (map target_of l.fn.assignment.found.items) (here l.fn.frames) (slots_of l.fn.frames))
    l.fn.assignment.targets.value.items l.fn.assignment.values.value.items l.next l.found.items l.frames l.fn.store l.store

abbrev pub decreases-loop-target : goal.decreases-loop-target
decreases-loop-target g l = length l.fn.assignment.targets.value.items - l.next
