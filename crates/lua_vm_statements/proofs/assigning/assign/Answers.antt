use Rattle.std.proofs.Common.{map}
use Rattle.lua_frames.specs.Items.{target_of, assign_values}
use Rattle.lua_frames.proofs.TakeForms.{takes_all}
use Rattle.lua_vm_statements.proofs.assigning.assign.Goals as goal

pub returns-in-Some : goal.returns-in-Some
returns-in-Some g c =
    takes_all (g.H.Host.setting c.args.host.now) (λ p vs s. assign_values (g.H.Host.setting c.args.host.now) (map target_of c.args.targets.items) vs p s) c.in-Some.values.items
    c.args.frames.now c.take_values.new.frames c.assign_values.new.frames c.args.store.now c.assign_values.new.store c.assign_values.result
    (rw c.in-Some.is at c.in_ok-take_values.ensures.values) c.in_ok-take_values.ensures.below c.in_ok-take_values.ensures.top c.assign_values.ensures
