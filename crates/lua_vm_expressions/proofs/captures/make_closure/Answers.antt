use Rattle.lua_vm_expressions.proofs.CaptureLemmas.{makes_full, makes_closed_ok}
use Rattle.lua_vm_expressions.proofs.captures.make_closure.Goals as goal

pub returns-in-None : goal.returns-in-None
returns-in-None c =
    makes_full c.args.program.now c.args.function c.captures_of.result.now c.args.frames.now c.share_variables.new.frames c.args.store.now c.share_variables.new.store c.captures_of.ensures (rw c.in-None.is at c.in_ok-share_variables.ensures)

pub returns-in-Some : goal.returns-in-Some
returns-in-Some c =
    makes_closed_ok c.args.program.now c.args.function c.in-Some.cells.items c.captures_of.result.now c.args.frames.now c.share_variables.new.frames c.close.new.frames c.args.store.now c.share_variables.new.store c.close.new.store c.close.result
    c.captures_of.ensures (rw c.in-Some.is at c.in_ok-share_variables.ensures) c.close.ensures
