use Rattle.lua_vm_expressions.proofs.TableForms.{table_made, table_refused}
use Rattle.lua_vm_expressions.proofs.constructors.begin_table.Goals as goal

pub returns-in_ok-wait-in-Ok : goal.returns-in_ok-wait-in-Ok
returns-in_ok-wait-in-Ok c = λ S is.
    table_made S c.args.line c.in-Ok.table c.args.items.now c.in_ok-items-in-Ok.items c.args.frames.now c.wait.new.frames c.give_nothing.new.frames c.args.store.now c.make_table.new.self c.give_nothing.result
    c.in-Ok.ensures.number c.in-Ok.ensures.allowed c.in-Ok.ensures.done c.in_ok-items-in-Ok.ensures c.in_ok-wait-in-Ok.ensures c.give_nothing.ensures

pub returns-in-Err-Full : goal.returns-in-Err-Full
returns-in-Err-Full c = λ S is.
    table_refused S c.args.line c.args.items.now.value.items c.args.frames.now c.raise_fault.new.frames c.args.store.now c.make_table.new.self c.make_table.new.self c.raise_fault.result
    (rw c.in-Err-Full.field-0-is at c.in-Err-Full.ensures.cause) c.in-Err-Full.ensures.kept (c.raise_fault.ensures S c.make_table.new.self is)
