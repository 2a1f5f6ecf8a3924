use Rattle.std.proofs.Common.{ap, ◌∙◌, add-one}
use Rattle.lua_values.specs.Heap.{TableView}
use Rattle.lua_values.specs.Values.{number}
use Rattle.lua_values.specs.Pairs.{with_value}
use Rattle.lua_values.specs.Shifts.{place, moved}
use Rattle.lua_values.proofs.tables.Table.shifted.Goals as goal

pub loop-i-preserved : goal.loop-i-preserved
loop-i-preserved c =
    let ps = c.args.self.now.pairs in
    let shift = c.args.shift in
    rw add-one (c.in_ok-put_moved.ensures
    ∙ ap (λ (t : TableView). record { pairs = with_value t.pairs (number (place shift c.loop-i.i)) (moved ps shift c.loop-i.i); meta = t.meta }) c.loop-i.invariant)
