use Rattle.lua_vm_fast.proofs.CallLemmas.{runs_anywhere, runs_after}
use Rattle.lua_vm_fast.proofs.statements.run_stmt.Goals as goal

pub returns-then-run_one : goal.returns-then-run_one
returns-then-run_one c =
    runs_anywhere c.args.site.now c.args.site.now.levels c.args.stmt.now c.args.slots.now.items c.run_one.new.slots.items c.args.store.now c.run_one.new.store (rw c.if-run_one.true at c.run_one.ensures)

pub returns : goal.returns
returns c =
    runs_after c.args.site.now c.args.site.now.levels c.run_with_calls.result c.args.stmt.now c.args.slots.now.items c.run_one.new.slots.items c.run_with_calls.new.slots.items c.args.store.now c.run_one.new.store c.run_with_calls.new.store (rw c.if-run_one.false at c.run_one.ensures) c.run_with_calls.ensures
