use Rattle.lua_vm_calls.proofs.ErrorLemmas.{own_pcall, own_xpcall, own_error, own_assert}
use Rattle.lua_vm_calls.proofs.natives.call_own.Goals as goal

pub returns-then-number-eq-PCALL : goal.returns-then-number-eq-PCALL
returns-then-number-eq-PCALL c = λ S store e. own_pcall S c.args.number c.args.args.items _ c.args.frames.now _ store _ c.if-number-eq-PCALL.true (c.protected_call.ensures S store e)

pub returns-then-number-eq-XPCALL : goal.returns-then-number-eq-XPCALL
returns-then-number-eq-XPCALL c = λ S store e. own_xpcall S c.args.number c.args.args.items _ c.args.frames.now _ store _ c.if-number-eq-XPCALL.true (c.handled_call.ensures S store e)

pub returns-then-number-eq-ERROR : goal.returns-then-number-eq-ERROR
returns-then-number-eq-ERROR c = λ S store e. own_error S c.args.number c.args.args.items _ c.args.frames.now _ store _ c.if-number-eq-ERROR.true (c.error_call.ensures S store e)

pub returns-else-number-eq-ERROR : goal.returns-else-number-eq-ERROR
returns-else-number-eq-ERROR c = λ S store e. own_assert S c.args.number c.args.args.items _ c.args.frames.now _ store _ c.if-number-eq-PCALL.false c.if-number-eq-XPCALL.false c.if-number-eq-ERROR.false (c.assert_call.ensures S store e)
