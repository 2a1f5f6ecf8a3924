use Rattle.std.proofs.Common.{◌∙◌, sym, refl, arith}
use Rattle.lua_meaning.specs.Works.{Values}
use Rattle.lua_frames.proofs.FollowLemmas.{ends_works}
use Rattle.lua_vm_calls.proofs.ErrorLemmas.{asserted, not_asserted, nothing_asserted, first_and_rest, rest_all, none_there}
use Rattle.lua_vm_calls.proofs.errors.assert_call.Goals as goal

pub returns-in-empty : goal.returns-in-empty
returns-in-empty c = λ S store e. nothing_asserted S _ c.args.args.items c.args.frames.now _ store _ (none_there _ _ c.as_slice.ensures.value (omega arith)) (c.raise_missing.ensures S store e)

pub returns-then-is_truthy : goal.returns-then-is_truthy
returns-then-is_truthy c = λ S store e.
    asserted S _ c.args.args.items c.value-item.result _ c.args.frames.now _ store _ (first_and_rest _ _ _ _ c.as_slice.ensures.value c.in-len1-up.len_at_least c.value-item.is refl) (sym c.is_truthy.ensures ∙ c.if-is_truthy.true)
    (ends_works S (Values c.args.args.items) c.args.frames.now _ store _ c.give_many.ensures)

pub returns-else-is_truthy : goal.returns-else-is_truthy
returns-else-is_truthy c = λ S store e.
    not_asserted S _ c.args.args.items c.value-item.result _ c.args.frames.now _ store _ (first_and_rest _ _ _ _ c.as_slice.ensures.value c.in-len1-up.len_at_least c.value-item.is (rest_all c.as_slice.result.now)) (sym c.is_truthy.ensures ∙ c.if-is_truthy.false)
    (c.assertion_failed.ensures S store e)
