use Rattle.lua_vm_calls.proofs.ErrorLemmas.{nothing_called}
use Rattle.lua_vm_calls.proofs.GuardLemmas.{guard_works, parted, no_items, some_items}
use Rattle.lua_vm_calls.proofs.protected.protected_call.Goals as goal

pub returns-then-is_empty : goal.returns-then-is_empty
returns-then-is_empty c = λ S store e. nothing_called S c.args.args.items _ c.args.frames.now _ store _ (no_items _ c.args.args c.is_empty.ensures c.if-is_empty.true) (c.raise_missing.ensures S store e)

pub returns : goal.returns
returns c = λ S store e.
    guard_works S c.args.line _ c.args.args.items _ c.args.frames.now _ _ store _ (parted _ _ _ (some_items _ c.args.args c.is_empty.ensures c.if-is_empty.false) c.take-function.ensures.value c.take-function.ensures.left) c.in_ok-push_guard.ensures c.give_nothing.ensures
