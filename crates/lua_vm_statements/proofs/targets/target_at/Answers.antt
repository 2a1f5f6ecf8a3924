use Rattle.lua_frames.specs.Items.{found_at}
use Rattle.lua_frames.proofs.TakeForms.{takes_one}
use Rattle.lua_vm_statements.proofs.ItemForms.{target_found}
use Rattle.lua_vm_statements.proofs.targets.target_at.Goals as goal

pub returns-in_ok-push-in-Some : goal.returns-in_ok-push-in-Some
returns-in_ok-push-in-Some g c =
    takes_one (g.H.Host.setting c.args.host.now) (λ p key s. found_at (g.H.Host.setting c.args.host.now) c.args.line c.args.object key c.args.left p s) c.in-Some.key
    c.args.frames.now c.take_first.new.frames c.find_targets.new.frames c.args.store.now c.find_targets.new.store c.find_targets.result
    (rw c.in-Some.is at c.take_first.ensures.value) c.take_first.ensures.below c.take_first.ensures.top
    (target_found (g.H.Host.setting c.args.host.now) c.args.line c.args.object c.in-Some.key c.args.left c.push.new.self c.take_first.new.frames c.find_targets.new.frames c.args.store.now c.find_targets.new.store c.find_targets.result
    c.in_ok-push-in-Some.ensures.items c.find_targets.ensures)
