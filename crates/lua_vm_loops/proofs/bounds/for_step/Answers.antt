use Rattle.std.proofs.Common.{sym}
use Rattle.lua_frames.specs.Items.{counting}
use Rattle.lua_frames.proofs.TakeForms.{takes_one}
use Rattle.lua_vm_loops.proofs.bounds.for_step.Goals as goal

pub returns-in-Some : goal.returns-in-Some
returns-in-Some g c =
    takes_one (g.H.Host.setting c.args.host.now) (λ p by s. counting (g.H.Host.setting c.args.host.now) c.args.bounds p c.args.from c.args.to by s) c.in-Some.step
    c.args.frames.now c.take_first.new.frames c.begin_counting.new.frames c.args.store.now c.begin_counting.new.store c.begin_counting.result
    (rw c.in-Some.is at c.take_first.ensures.value) c.take_first.ensures.below c.take_first.ensures.top
    (rw (c.get.ensures, c.get-in-Some.ensures) at (c.begin_counting.ensures (g.H.Host.setting c.args.host.now) (sym c.program.ensures)))
