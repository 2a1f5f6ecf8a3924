use Rattle.lua_frames.specs.Changes.{KeepsAllButSlots}
use Rattle.lua_vm_expressions.proofs.CaptureLemmas.{Left}
use Rattle.lua_vm_expressions.proofs.captures.share_variables.Given as goal

abbrev pub invariant-loop-capture : goal.invariant-loop-capture
invariant-loop-capture l =
    KeepsAllButSlots l.fn.frames l.frames × Left l.captures l.capture-index l.cells.items l.fn.frames l.fn.store l.frames l.store
