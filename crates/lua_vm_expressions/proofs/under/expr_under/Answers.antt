use Rattle.lua_frames.proofs.FollowLemmas.{step_under}
use Rattle.lua_vm_expressions.proofs.under.expr_under.Goals as goal

pub returns : goal.returns
returns g c = step_under _ c.args.frames.now c.wait.new.frames c.enter_expr.new.frames c.args.item _ c.args.store.now c.enter_expr.new.store c.enter_expr.result c.in_ok-wait.ensures c.enter_expr.ensures
