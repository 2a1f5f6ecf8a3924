use Rattle.std.proofs.Common.{map}
use Rattle.lua_frames.specs.Items.{target_of, assign_values}
use Rattle.lua_frames.proofs.TakeForms.{takes_one}
use Rattle.lua_vm_statements.proofs.assigning.stores.Goals as goal

pub returns-in-Some : goal.returns-in-Some
returns-in-Some g c =
    takes_one (g.H.Host.setting c.args.host.now) (λ p v s. assign_values (g.H.Host.setting c.args.host.now) (map target_of c.args.targets.items) c.args.values.items p s) _
    c.args.frames.now c.take_first.new.frames c.assign_values.new.frames c.args.store.now c.assign_values.new.store c.assign_values.result
    (rw c.in-Some.is at c.take_first.ensures.value) c.take_first.ensures.below c.take_first.ensures.top c.assign_values.ensures
