use Rattle.lua_vm_loops.proofs.RunForms.{rest_works}
use Rattle.lua_vm_loops.proofs.runs.begin_rest.Goals as goal

pub returns : goal.returns
returns c = λ S store. rest_works S c.args.stmts c.args.next c.args.frames.now c.wait.new.frames c.give_nothing.new.frames store c.give_nothing.result c.in_ok-wait.ensures c.give_nothing.ensures
