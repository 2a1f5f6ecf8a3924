use Rattle.std.proofs.Common.{◌≡◌, ◌<◌, ◌≤◌, length, slice_get, Some, sym, ◌∙◌, arith}
use Rattle.lua_values.proofs.NumberedLemmas.{counted, got, pair-numbered, pair-other}
use Rattle.lua_values.proofs.pairs.Pairs.pair.Goals as goal

pub returns-in_ok-value : goal.returns-in_ok-value
returns-in_ok-value c =
    let within : c.args.index < length c.self.inside.numbered.items = omega (arith, counted c.len-count.result c.self.inside.numbered c.len-count.ensures, c.if-index-count.true) in
    let there : slice_get c.self.inside.numbered.items c.args.index ≡ Some c.in_ok-value.value =
    got c.self.inside.numbered.items c.args.index _ c.in_ok-value.value within (c.in_ok-value.ensures.cases ∙ c.index.ensures) in
    rw (← c.self.view_is, c.numbered.ensures) (sym (pair-numbered c.self.inside.numbered.items c.self.inside.others.entries c.args.index c.in_ok-value.value there))

pub returns-else-index-count : goal.returns-else-index-count
returns-else-index-count c =
    let after : length c.self.inside.numbered.items ≤ c.args.index = omega (arith, counted c.len-count.result c.self.inside.numbered c.len-count.ensures, c.if-index-count.false) in
    rw (← c.self.view_is, pair-other c.self.inside.numbered.items c.self.inside.others.entries c.args.index after, ← counted c.len-count.result c.self.inside.numbered c.len-count.ensures) c.pair_of.ensures
