use Rattle.lua_frames.specs.Items.{passing}
use Rattle.lua_frames.proofs.TakeForms.{takes_all}
use Rattle.lua_vm_loops.proofs.iterating.iterated.Goals as goal

pub returns-in-Some : goal.returns-in-Some
returns-in-Some c = λ S.
    takes_all S (λ p vs s. passing c.args.iteration p vs s) c.in-Some.values.items
    c.args.frames.now c.take_values.new.frames c.pass.new.frames c.args.store.now c.pass.new.store c.pass.result
    (rw c.in-Some.is at c.in_ok-take_values.ensures.values) c.in_ok-take_values.ensures.below c.in_ok-take_values.ensures.top (c.pass.ensures S)
