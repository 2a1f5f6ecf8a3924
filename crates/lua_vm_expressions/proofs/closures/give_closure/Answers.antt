use Rattle.lua_meaning.specs.Signs.{give_one}
use Rattle.lua_vm_expressions.proofs.CaptureLemmas.{closure_given, closure_refused}
use Rattle.lua_vm_expressions.proofs.closures.give_closure.Goals as goal

pub returns-in-Some : goal.returns-in-Some
returns-in-Some c = λ S e.
    closure_given S c.args.program.now c.args.line c.args.function c.in-Some.c c.args.frames.now c.make_closure.new.frames c.give_one.new.frames c.args.store.now c.make_closure.new.store c.give_one.result e (rw c.in-Some.is at c.in_ok-c.ensures) c.give_one.ensures

pub returns-in-None : goal.returns-in-None
returns-in-None c = λ S e.
    closure_refused S c.args.program.now c.args.line c.args.function give_one c.args.frames.now c.make_closure.new.frames c.raise_fault.new.frames c.args.store.now c.make_closure.new.store c.make_closure.new.store c.raise_fault.result
    e (rw c.in-None.is at c.in_ok-c.ensures) (c.raise_fault.ensures S c.make_closure.new.store e)
