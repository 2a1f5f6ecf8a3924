use Rattle.std.proofs.Common.{◌∙◌, sym, refl}
use Rattle.lua_vm_functions.proofs.CalleeLemmas.{fewer_left}
use Rattle.lua_vm_tables.proofs.StoreLemmas.{present, unhandled, calls, goes_on, spends_steps}
use Rattle.lua_vm_tables.proofs.destinations.find_destination.Goals as goal

pub loop-value-init : goal.loop-value-init
loop-value-init c = λ x S line p s rs. refl

pub returns-then-not-lacks : goal.returns-then-not-lacks
returns-then-not-lacks c = λ x S line p s rs.
    c.loop-value.invariant x S line p s rs ∙ present S line c.loop-value.value c.args.key.now x p s c.loop-value.store c.lacks.result c.lacks.ensures c.if-not-lacks.true rs

pub returns-then-is_nil : goal.returns-then-is_nil
returns-then-is_nil c = λ x S line p s rs.
    c.loop-value.invariant x S line p s rs
    ∙ unhandled S line c.loop-value.value c.args.key.now x c.in_ok-by.by p s c.loop-value.store c.lacks.result c.lacks.ensures c.if-not-lacks.false c.in_ok-by.ensures (sym c.is_nil.ensures ∙ c.if-is_nil.true) rs

pub returns-then-is_function : goal.returns-then-is_function
returns-then-is_function c = λ x S line p s rs.
    c.loop-value.invariant x S line p s rs
    ∙ calls S line c.loop-value.value c.args.key.now x c.in_ok-by.by p s c.loop-value.store c.lacks.result c.lacks.ensures c.if-not-lacks.false c.in_ok-by.ensures (sym c.is_nil.ensures ∙ c.if-is_nil.false) (sym c.is_function.ensures ∙ c.if-is_function.true) rs

pub returns-then-not-count : goal.returns-then-not-count
returns-then-not-count c = λ x S line p s rs.
    c.loop-value.invariant x S line p s rs
    ∙ spends_steps S line c.loop-value.value c.args.key.now x c.in_ok-by.by p s c.loop-value.store c.lacks.result c.count.result c.lacks.ensures c.if-not-lacks.false c.in_ok-by.ensures (sym c.is_nil.ensures ∙ c.if-is_nil.false) (sym c.is_function.ensures ∙ c.if-is_function.false) c.count.ensures.below c.if-not-count.true rs

pub loop-value-preserved : goal.loop-value-preserved
loop-value-preserved c = λ x S line p s rs.
    c.loop-value.invariant x S line p s rs
    ∙ goes_on S line c.loop-value.value c.args.key.now x c.in_ok-by.by p s c.loop-value.store c.count.new.self c.lacks.result c.count.result c.lacks.ensures c.if-not-lacks.false c.in_ok-by.ensures (sym c.is_nil.ensures ∙ c.if-is_nil.false) (sym c.is_function.ensures ∙ c.if-is_function.false) c.count.ensures.counted c.count.ensures.below c.if-not-count.false rs

pub loop-value-smaller : goal.loop-value-smaller
loop-value-smaller c = fewer_left c.loop-value.store c.count.new.self c.count.result c.count.ensures.counted c.count.ensures.below c.if-not-count.false
