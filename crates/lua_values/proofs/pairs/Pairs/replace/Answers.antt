use Rattle.std.proofs.Common.{◌-◌, ◌<◌, ◌≤◌, length, sym, ap, ◌∙◌, arith}
use Rattle.lua_values.proofs.NumberedLemmas.{counted, length-all, few-set, link-set, got, set-numbered, set-other, value-numbered, value-other}
use Rattle.lua_values.proofs.pairs.Pairs.replace.Goals as goal

pub index_mut-requires-else-index-count : goal.index_mut-requires-else-index-count
index_mut-requires-else-index-count c =
    omega (arith, length-all c.self.inside.numbered.items c.self.inside.others.entries, ap length c.self.view_is, c.requires, counted c.len-count.result c.self.inside.numbered c.len-count.ensures, c.if-index-count.false)

pub invariant_of-self-else-index-count : goal.invariant_of-self-else-index-count
invariant_of-self-else-index-count c = (
  few-set (length c.self.inside.numbered.items) c.self.inside.others.entries (c.args.index - c.len-count.result) c.replace-else-index-count.new.dest c.self.invariant.0,
  c.self.invariant.1 ∙ sym (link-set c.self.inside.others.entries (c.args.index - c.len-count.result) c.replace-else-index-count.new.dest),
)

pub returns-then-index-count-clause-done : goal.returns-then-index-count-clause-done
returns-then-index-count-clause-done c =
    let within : c.args.index < length c.self.inside.numbered.items = omega (arith, counted c.len-count.result c.self.inside.numbered c.len-count.ensures, c.if-index-count.true) in
    rw (← c.self.view_is, c.replace.ensures.after) (set-numbered c.self.inside.numbered.items c.self.inside.others.entries c.args.index c.args.value within)

pub returns-then-index-count-clause-before : goal.returns-then-index-count-clause-before
returns-then-index-count-clause-before c =
    let within : c.args.index < length c.self.inside.numbered.items = omega (arith, counted c.len-count.result c.self.inside.numbered c.len-count.ensures, c.if-index-count.true) in
    rw (← c.self.view_is) (value-numbered c.self.inside.numbered.items c.self.inside.others.entries c.args.index c.replace.result
    (got c.self.inside.numbered.items c.args.index _ c.replace.result within (c.replace.ensures.value ∙ c.index_mut.ensures.value)))

pub returns-else-index-count-clause-done : goal.returns-else-index-count-clause-done
returns-else-index-count-clause-done c =
    let after : length c.self.inside.numbered.items ≤ c.args.index = omega (arith, counted c.len-count.result c.self.inside.numbered c.len-count.ensures, c.if-index-count.false) in
    rw (← c.self.view_is, c.replace-else-index-count.ensures.after, counted c.len-count.result c.self.inside.numbered c.len-count.ensures)
    (set-other c.self.inside.numbered.items c.self.inside.others.entries c.args.index c.args.value after)

pub returns-else-index-count-clause-before : goal.returns-else-index-count-clause-before
returns-else-index-count-clause-before c =
    let after : length c.self.inside.numbered.items ≤ c.args.index = omega (arith, counted c.len-count.result c.self.inside.numbered c.len-count.ensures, c.if-index-count.false) in
    rw (← c.self.view_is, c.replace-else-index-count.ensures.value)
    (value-other c.self.inside.numbered.items c.self.inside.others.entries c.args.index c.index_mut-else-index-count.result.now after (rw (← counted c.len-count.result c.self.inside.numbered c.len-count.ensures) c.index_mut-else-index-count.ensures.value))
