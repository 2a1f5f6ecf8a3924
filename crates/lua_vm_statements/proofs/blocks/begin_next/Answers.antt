use Rattle.lua_vm_statements.proofs.ItemForms.{next_runs}
use Rattle.lua_vm_statements.proofs.ReturnLemmas.{next_returns}
use Rattle.lua_vm_statements.proofs.blocks.begin_next.Goals as goal

pub returns : goal.returns
returns g c =
    next_runs (g.H.Host.setting c.args.host.now) c.args.stmts c.in_ok-share-in_default.field-0 c.in-Some.stmt.now c.args.next c.args.frames.now c.wait.new.frames c.enter_stmt-in_default.new.frames c.args.store.now c.enter_stmt-in_default.new.store c.enter_stmt-in_default.result
    (rw c.in-Some.is at c.element.ensures) c.in_ok-share-in_default.ensures c.in_ok-wait-in_default.ensures c.enter_stmt-in_default.ensures

pub returns-in-Return : goal.returns-in-Return
returns-in-Return g c =
    next_returns (g.H.Host.setting c.args.host.now) c.args.stmts.value.items c.in-Some.stmt.now _ c.args.next c.args.frames.now c.enter_stmt.new.frames c.args.store.now c.enter_stmt.new.store c.enter_stmt.result
    (rw c.in-Some.is at c.element.ensures) c.in-Return.is c.enter_stmt.ensures
