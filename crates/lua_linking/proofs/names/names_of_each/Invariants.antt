use Rattle.std.proofs.Common.{◌≡◌, take}
use Rattle.std.specs.Prelude.{flat_map}
use Rattle.lua_linking.specs.Names.{names_of}
use Rattle.lua_linking.proofs.names.names_of_each.Given as goal

abbrev pub invariant-loop-number : goal.invariant-loop-number
invariant-loop-number l = l.names.items ≡ flat_map (names_of l.program.functions.items) (take l.number-index l.numbers)
