use Rattle.std.proofs.Common.{◌≡◌, ◌≤◌}
use Rattle.lua_values.specs.Shifts.{entries_first}
use Rattle.lua_values.proofs.tables.Table.new_entries.Given as goal

abbrev pub invariant-loop-i : goal.invariant-loop-i
invariant-loop-i l = (l.count ≡ entries_first l.self.pairs l.shift l.i) × (l.count ≤ l.i)
