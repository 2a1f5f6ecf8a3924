use Rattle.std.proofs.Common.{◌≡◌}
use Rattle.lua_values.specs.Shifts.{shifted_first}
use Rattle.lua_values.proofs.tables.Table.shifted.Given as goal

abbrev pub invariant-loop-i : goal.invariant-loop-i
invariant-loop-i l = l.table ≡ record { pairs = shifted_first l.self.pairs l.shift l.i; meta = l.self.meta }
