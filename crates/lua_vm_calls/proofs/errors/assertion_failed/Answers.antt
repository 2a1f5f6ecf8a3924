use Rattle.std.proofs.Common.{◌∙◌, sym}
use Rattle.lua_vm_calls.proofs.ErrorLemmas.{assertion_text, assertion_message}
use Rattle.lua_vm_calls.proofs.errors.assertion_failed.Goals as goal

pub returns-then-is_nil : goal.returns-then-is_nil
returns-then-is_nil c = λ S store e.
    assertion_text S _ c.args.rest.now c.in_ok-message.message c.args.frames.now _ store _ c.in_ok-message.ensures (sym c.is_nil.ensures ∙ c.if-is_nil.true) (c.raise.ensures S store e)

pub returns-else-is_nil : goal.returns-else-is_nil
returns-else-is_nil c = λ S store e.
    assertion_message S _ c.args.rest.now c.in_ok-message.message c.args.frames.now _ store _ c.in_ok-message.ensures (sym c.is_nil.ensures ∙ c.if-is_nil.false) (c.raise_given.ensures S store e)
