use Rattle.std.proofs.Common.{◌<◌, ◌≤◌, length, ap, arith}
use Rattle.lua_values.proofs.NumberedLemmas.{counted, length-all, got, value-numbered, value-other}
use Rattle.lua_values.proofs.pairs.Pairs.value.Goals as goal

pub index-requires-else-index-count : goal.index-requires-else-index-count
index-requires-else-index-count c =
    omega (arith, length-all c.self.inside.numbered.items c.self.inside.others.entries, ap length c.self.view_is, c.requires, counted c.len-count.result c.self.inside.numbered c.len-count.ensures, c.if-index-count.false)

pub returns-then-index-count : goal.returns-then-index-count
returns-then-index-count c =
    let within : c.args.index < length c.self.inside.numbered.items = omega (arith, counted c.len-count.result c.self.inside.numbered c.len-count.ensures, c.if-index-count.true) in
    rw (← c.self.view_is) (value-numbered c.self.inside.numbered.items c.self.inside.others.entries c.args.index c.index.result.now
    (got c.self.inside.numbered.items c.args.index _ c.index.result.now within c.index.ensures))

pub returns-else-index-count : goal.returns-else-index-count
returns-else-index-count c =
    let after : length c.self.inside.numbered.items ≤ c.args.index = omega (arith, counted c.len-count.result c.self.inside.numbered c.len-count.ensures, c.if-index-count.false) in
    rw (← c.self.view_is)
    (value-other c.self.inside.numbered.items c.self.inside.others.entries c.args.index c.index-else-index-count.result.now after (rw (← counted c.len-count.result c.self.inside.numbered c.len-count.ensures) c.index-else-index-count.ensures))
