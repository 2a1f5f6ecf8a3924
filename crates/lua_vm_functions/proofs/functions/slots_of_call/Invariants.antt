use Rattle.std.proofs.Common.{◌≡◌, ◌++◌, ◌-◌}
use Rattle.lua_meaning.specs.Calls.{slots_from}
use Rattle.lua_vm_functions.proofs.functions.slots_of_call.Given as goal

abbrev pub invariant-loop-i : goal.invariant-loop-i
invariant-loop-i l = l.slots.items ++ slots_from (l.count - l.i) l.i l.params l.args ≡ slots_from l.count 0 l.params l.args
