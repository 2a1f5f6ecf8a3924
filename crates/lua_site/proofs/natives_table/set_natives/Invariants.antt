use Rattle.std.proofs.Common.{◌≡◌, ◌-◌}
use Rattle.std.specs.List.{range_with_len}
use Rattle.lua_site.specs.Making.{for_each}
use Rattle.lua_site.specs.Loading.{native_set, natives_set}
use Rattle.lua_site.proofs.natives_table.set_natives.Given as goal

-- what is left to be set
abbrev pub invariant-loop-native : goal.invariant-loop-native
invariant-loop-native l = natives_set l.initial.store.heap l.natives ≡ for_each native_set l.store.heap (range_with_len l.native (l.natives - l.native))
