use Rattle.std.proofs.Common.{sym, ap, ◌∙◌}
use Rattle.lua_values.proofs.PairLemmas.{nil-absent}
use Rattle.lua_values.specs.Values.{number}
use Rattle.lua_values.specs.Pairs.{value_at, needs_entry}
use Rattle.lua_values.specs.Shifts.{place}
use Rattle.lua_values.proofs.tables.Table.needs_entry_at.Goals as goal

pub returns : goal.returns
returns c =
    let ps = c.args.self.now.pairs in
    ap (needs_entry ps (number (place c.args.shift c.args.i))) (nil-absent ps c.key.result (sym c.in-None.ensures.entry) ∙ ap (value_at ps) c.key.ensures)
