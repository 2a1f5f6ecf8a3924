use Rattle.lua_vm_statements.proofs.AssignLemmas.{function_put, function_refused}
use Rattle.lua_vm_statements.proofs.functions.local_function.Goals as goal

pub returns-in-Some : goal.returns-in-Some
returns-in-Some c = λ S e.
    function_put S c.args.program.now c.args.line c.args.i c.args.function c.in-Some.c c.args.frames.now c.put_plain.new.frames c.make_closure.new.frames c.assign_slot.new.frames c.args.store.now c.make_closure.new.store c.assign_slot.new.store c.assign_slot.result
    e c.put_plain.ensures (rw c.in-Some.is at c.in_ok-c.ensures) (c.assign_slot.ensures S e)

pub returns-in-None : goal.returns-in-None
returns-in-None c = λ S e.
    function_refused S c.args.program.now c.args.line c.args.i c.args.function c.args.frames.now c.put_plain.new.frames c.make_closure.new.frames c.raise_fault.new.frames c.args.store.now c.make_closure.new.store c.make_closure.new.store c.raise_fault.result
    e c.put_plain.ensures (rw c.in-None.is at c.in_ok-c.ensures) (c.raise_fault.ensures S c.make_closure.new.store e)
