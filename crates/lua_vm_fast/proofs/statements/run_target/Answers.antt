use Rattle.lua_vm_fast.proofs.RunLemmas.{slot_target}
use Rattle.lua_vm_fast.proofs.EntryLemmas.{index_target, global_target}
use Rattle.lua_vm_fast.proofs.statements.run_target.Goals as goal

pub returns-in-Slot : goal.returns-in-Slot
returns-in-Slot c = λ st is. c.run_assignment.ensures st (slot_target c.args.target.now c.args.x.now c.in-Slot.i st c.in-Slot.is is)

pub returns-in-Index : goal.returns-in-Index
returns-in-Index c = λ st is.
    c.run_store.ensures st (index_target c.args.target.now c.args.x.now c.in-Index.a c.in-Index.b c.deref.result.now c.deref-in-Index.result.now st c.in-Index.is c.deref.ensures c.deref-in-Index.ensures is)

pub returns-in-Global : goal.returns-in-Global
returns-in-Global c = λ st is. c.run_global.ensures st (global_target c.args.target.now c.args.x.now c.in-Global.name st c.in-Global.is is)
