use Rattle.std.proofs.Common.{◌≡◌, ◌≤◌, drop}
use Rattle.lua_linking.specs.Names.{names_in_each}
use Rattle.lua_linking.proofs.names.names_in_each.Given as goal

abbrev pub invariant-loop-n : goal.invariant-loop-n
invariant-loop-n l = (l.number ≤ l.n) × (l.known.items ≡ names_in_each l.n (drop l.n l.functions))
