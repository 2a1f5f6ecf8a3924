use Rattle.std.proofs.Common.{◌≡◌, ◌-◌}
use Rattle.lua_values.specs.Shifts.{moved}
use Rattle.lua_values.proofs.ShiftLemmas.{Carries}
use Rattle.lua_values.proofs.tables.Table.shift_in_place.Given as goal

abbrev pub invariant-loop-written : goal.invariant-loop-written
invariant-loop-written l =
    Carries l.fn.self.pairs l.self.pairs l.shift (l.moves - l.written) × (l.carried ≡ moved l.fn.self.pairs l.shift (l.moves - l.written)) × (l.self.meta ≡ l.fn.self.meta)
