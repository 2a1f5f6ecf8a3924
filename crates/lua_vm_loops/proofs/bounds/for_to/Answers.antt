use Rattle.lua_frames.specs.Items.{with_step}
use Rattle.lua_frames.proofs.TakeForms.{takes_one}
use Rattle.lua_vm_loops.proofs.bounds.for_to.Goals as goal

pub returns-in-Some : goal.returns-in-Some
returns-in-Some g c =
    takes_one (g.H.Host.setting c.args.host.now) (λ p to s. with_step (g.H.Host.setting c.args.host.now) c.args.bounds p c.args.from to s) c.in-Some.to
    c.args.frames.now c.take_first.new.frames c.begin_step.new.frames c.args.store.now c.begin_step.new.store c.begin_step.result
    (rw c.in-Some.is at c.take_first.ensures.value) c.take_first.ensures.below c.take_first.ensures.top c.begin_step.ensures
