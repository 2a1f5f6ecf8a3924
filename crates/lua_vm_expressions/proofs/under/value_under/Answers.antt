use Rattle.lua_frames.proofs.FollowLemmas.{step_under}
use Rattle.lua_vm_expressions.proofs.under.value_under.Goals as goal

pub returns : goal.returns
returns g c = step_under _ c.args.frames.now c.wait.new.frames c.enter_value.new.frames c.args.item _ c.args.store.now c.enter_value.new.store c.enter_value.result c.in_ok-wait.ensures c.enter_value.ensures
