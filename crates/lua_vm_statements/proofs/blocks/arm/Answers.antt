use Rattle.std.proofs.Common.{drop}
use Rattle.lua_frames.specs.Items.{arm_work}
use Rattle.lua_frames.proofs.TakeForms.{takes_one}
use Rattle.lua_vm_statements.proofs.blocks.arm.Goals as goal

pub returns : goal.returns
returns g c =
    takes_one (g.H.Host.setting c.args.host.now) (λ p v s. arm_work (drop c.args.next c.args.arms.value.items) c.args.last.value.items p v s) c.in-Some.test
    c.args.frames.now c.take_first.new.frames c.choose_arm.new.frames c.args.store.now c.choose_arm.new.store c.choose_arm.result
    (rw c.in-Some.is at c.take_first.ensures.value) c.take_first.ensures.below c.take_first.ensures.top c.choose_arm.ensures
