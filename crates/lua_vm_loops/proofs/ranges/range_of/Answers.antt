use Rattle.std.proofs.Common.{sym, ◌∙◌}
use Rattle.lua_vm_loops.proofs.RangeForms.{no_initial, no_limit, no_step, zero_step, all_numbers}
use Rattle.lua_vm_loops.proofs.ranges.range_of.Goals as goal

pub returns-in_default : goal.returns-in_default
returns-in_default c = no_initial c.args.from.now c.args.to.now c.args.step.now (sym c.number_of.ensures ∙ c.in_default.is)

pub returns-in_default-number_of : goal.returns-in_default-number_of
returns-in_default-number_of c =
    no_limit c.args.from.now c.args.to.now c.args.step.now c.in-Some.from (sym c.number_of.ensures ∙ c.in-Some.is) (sym c.number_of-2.ensures ∙ c.in_default-number_of.is)

pub returns-in_default-number_of-2 : goal.returns-in_default-number_of-2
returns-in_default-number_of-2 c =
    no_step c.args.from.now c.args.to.now c.args.step.now c.in-Some.from c.in-Some-number_of.limit (sym c.number_of.ensures ∙ c.in-Some.is) (sym c.number_of-2.ensures ∙ c.in-Some-number_of.is) (sym c.number_of-3.ensures ∙ c.in_default-number_of-2.is)

pub returns-then-is_zero : goal.returns-then-is_zero
returns-then-is_zero c =
    zero_step c.args.from.now c.args.to.now c.args.step.now c.in-Some.from c.in-Some-number_of.limit c.in-Some-number_of-2.step (sym c.number_of.ensures ∙ c.in-Some.is) (sym c.number_of-2.ensures ∙ c.in-Some-number_of.is) (sym c.number_of-3.ensures ∙ c.in-Some-number_of-2.is)
    (sym c.is_zero.ensures ∙ c.if-is_zero.true)

pub returns : goal.returns
returns c =
    all_numbers c.args.from.now c.args.to.now c.args.step.now c.in-Some.from c.in-Some-number_of.limit c.in-Some-number_of-2.step (sym c.number_of.ensures ∙ c.in-Some.is) (sym c.number_of-2.ensures ∙ c.in-Some-number_of.is) (sym c.number_of-3.ensures ∙ c.in-Some-number_of-2.is)
    (sym c.is_zero.ensures ∙ c.if-is_zero.false)
