use Rattle.std.proofs.Common.{subst}
use Rattle.lua_values.specs.declared.values.Value.{Value}
use Rattle.lua_frames.specs.declared.frames.Kind.TheVariants.{Handled}
use Rattle.lua_vm_calls.specs.NativeParts.{Guards}
use Rattle.lua_vm_calls.proofs.ErrorLemmas.{nothing_handled, no_handler}
use Rattle.lua_vm_calls.proofs.GuardLemmas.{handled_works, parted, parted_twice, no_items, some_items}
use Rattle.lua_vm_calls.proofs.protected.handled_call.Goals as goal

pub returns-then-is_empty : goal.returns-then-is_empty
returns-then-is_empty c = λ S store e. nothing_handled S c.args.args.items _ c.args.frames.now _ store _ (no_items _ c.args.args c.is_empty.ensures c.if-is_empty.true) (c.raise_missing.ensures S store e)

pub returns-then-is_empty-2 : goal.returns-then-is_empty-2
returns-then-is_empty-2 c = λ S store e.
    no_handler S c.args.args.items c.take-function.result c.take-function.new.values.items _ c.args.frames.now _ store _
    (parted _ _ _ (some_items _ c.args.args c.is_empty.ensures c.if-is_empty.false) c.take-function.ensures.value c.take-function.ensures.left)
    (no_items _ c.take-function.new.values c.is_empty-2.ensures c.if-is_empty-2.true) (c.raise_missing-then-is_empty-2.ensures S store e)

pub returns : goal.returns
returns c = λ S store e.
    let guarded : Guards c.args.line c.args.frames.now (Handled c.take-handler.result) c.take-function.result c.clear.new.self.items c.push_guard.new.frames =
    subst (λ (v : Value). Guards c.args.line c.args.frames.now (Handled v) c.take-function.result c.clear.new.self.items c.push_guard.new.frames) c.in_ok-new.ensures c.in_ok-push_guard.ensures in
    handled_works S c.args.line c.take-function.result c.take-handler.result c.args.args.items c.take-handler.new.values.items c.clear.new.self.items c.args.frames.now c.push_guard.new.frames c.give_nothing.new.frames store c.give_nothing.result
    (parted_twice c.args.args.items c.take-function.result c.take-handler.result c.take-function.new.values.items c.take-handler.new.values.items
    (parted _ _ _ (some_items _ c.args.args c.is_empty.ensures c.if-is_empty.false) c.take-function.ensures.value c.take-function.ensures.left)
    (parted _ _ _ (some_items _ c.take-function.new.values c.is_empty-2.ensures c.if-is_empty-2.false) c.take-handler.ensures.value c.take-handler.ensures.left))
    c.clear.ensures.items guarded c.give_nothing.ensures
