use Rattle.lua_vm_functions.proofs.BodyLemmas.{closure_missing, closure_found}
use Rattle.lua_vm_functions.proofs.functions.call_closure.Goals as goal

pub returns-in-None : goal.returns-in-None
returns-in-None c = λ S e. closure_missing S _ c.args.args.items _ c.args.tail c.args.frames.now _ c.args.store.now _ c.in-None.ensures (c.raise_operand.ensures S c.args.store.now e)

pub returns-in-Some : goal.returns-in-Some
returns-in-Some c = λ S e.
    closure_found S _ c.in-Some.number c.in-Some.cells.now c.args.args.items _ c.args.tail c.args.frames.now _ c.args.store.now _ c.in-Some.ensures (c.call_function.ensures S c.args.store.now e)
