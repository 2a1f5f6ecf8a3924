use Rattle.std.proofs.Common.{drop}
use Rattle.lua_meaning.specs.Blocks.{block}
use Rattle.lua_frames.proofs.TakeForms.{takes_one}
use Rattle.lua_vm_statements.proofs.blocks.rest.Goals as goal

pub returns-in-Some : goal.returns-in-Some
returns-in-Some g c =
    takes_one (g.H.Host.setting c.args.host.now) (λ p v s. block (drop c.args.next c.args.stmts.value.items) p s) _
    c.args.frames.now c.take_first.new.frames c.next_stmt.new.frames c.args.store.now c.next_stmt.new.store c.next_stmt.result
    (rw c.in-Some.is at c.take_first.ensures.value) c.take_first.ensures.below c.take_first.ensures.top c.next_stmt.ensures
