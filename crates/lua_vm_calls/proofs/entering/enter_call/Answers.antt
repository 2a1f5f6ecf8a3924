use Rattle.std.proofs.Common.{sym}
use Rattle.lua_vm_calls.proofs.EnterLemmas.{calls_closure, calls_native, calls_uncallable, calls_spent}
use Rattle.lua_vm_calls.proofs.entering.enter_call.Goals as goal

pub returns-in-Closure : goal.returns-in-Closure
returns-in-Closure g c =
    calls_closure _ c.args.function c.args.args.items c.find_callee.new.args.items _ c.in-Closure.c c.args.frames.now _ c.args.store.now _ _ (rw c.in-Closure.is at c.in_ok-c.ensures) (c.call_closure.ensures _ (sym c.program.ensures))

pub returns-in-Native : goal.returns-in-Native
returns-in-Native g c = calls_native _ c.args.function c.args.args.items c.find_callee.new.args.items _ c.in-Native.n c.args.frames.now _ c.args.store.now _ _ _ (rw c.in-Native.is at c.in_ok-c.ensures) c.call_native.ensures

pub returns-in-Uncallable : goal.returns-in-Uncallable
returns-in-Uncallable g c =
    calls_uncallable _ c.args.function c.args.args.items c.find_callee.new.args.items _ c.in-Uncallable.found c.args.frames.now _ c.args.store.now _ _ (rw c.in-Uncallable.is at c.in_ok-c.ensures) (c.raise_operand.ensures _ _ (sym c.program-in-Uncallable.ensures))

pub returns-in-Spent : goal.returns-in-Spent
returns-in-Spent g c = calls_spent _ c.args.function c.args.args.items c.find_callee.new.args.items _ c.args.frames.now _ c.args.store.now _ (rw c.in-Spent.is at c.in_ok-c.ensures)
