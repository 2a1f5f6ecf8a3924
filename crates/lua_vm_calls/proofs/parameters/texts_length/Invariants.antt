use Rattle.std.proofs.Common.{◌≡◌, ◌^◌, ◌-◌, min, take}
use Rattle.lua_meaning.specs.Natives.{texts_length}
use Rattle.lua_vm_calls.proofs.parameters.texts_length.Given as goal

abbrev pub invariant-loop-value : goal.invariant-loop-value
invariant-loop-value l = l.length ≡ min (texts_length (take l.value-index l.values)) (2 ^ 64 - 1)
