use Rattle.std.proofs.Common.{◌≡◌, ◌+◌, ◌-◌, arith, sym, ap, ◌∙◌}
use Rattle.lua_values.specs.Shifts.{moves, entries_first}
use Rattle.lua_values.proofs.ShiftLemmas.{entries-one}
use Rattle.lua_values.proofs.tables.Table.may_need_entry.Goals as goal

pub returns-then-has_sources-clause-entries : goal.returns-then-has_sources-clause-entries
returns-then-has_sources-clause-entries c =
    let ps = c.args.self.now.pairs in
    let shift = c.args.shift in
    let some = c.requires.some in
    let all : moves shift - 1 + 1 ≡ moves shift = omega arith in
    sym (entries-one ps shift (moves shift - 1) (c.has_sources.ensures c.if-has_sources.true) (omega arith)) ∙ ap (entries_first ps shift) all
