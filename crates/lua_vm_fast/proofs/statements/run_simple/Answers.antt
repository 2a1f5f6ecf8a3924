use Rattle.std.proofs.Common.{drop}
use Rattle.lua_meaning.specs.Blocks.{block}
use Rattle.lua_vm_fast.proofs.RunLemmas.{block_goes, block_stays}
use Rattle.lua_vm_fast.proofs.statements.run_simple.Goals as goal

pub returns-then-not-run_stmt : goal.returns-then-not-run_stmt
returns-then-not-run_stmt c = λ S p a.
    block_stays c.args.site.now c.args.site.now.levels S p (block (drop c.args.from c.args.stmts.now) p c.args.slots.now.items) c.in-Some.stmt.now c.args.stmts.now c.loop-next.next c.loop-next.slots.items c.run_stmt.new.slots.items c.args.store.now c.loop-next.store c.run_stmt.new.store
    (c.loop-next.invariant S p a) (rw c.if-not-run_stmt.true at c.run_stmt.ensures)

pub loop-next-preserved : goal.loop-next-preserved
loop-next-preserved c = λ S p a.
    block_goes c.args.site.now c.args.site.now.levels S p (block (drop c.args.from c.args.stmts.now) p c.args.slots.now.items) c.in-Some.stmt.now c.args.stmts.now c.loop-next.next c.loop-next.slots.items c.run_stmt.new.slots.items c.args.store.now c.loop-next.store c.run_stmt.new.store
    (rw c.in-Some.is at c.stmt_at.ensures) a (c.loop-next.invariant S p a) (rw c.if-not-run_stmt.false at c.run_stmt.ensures)
