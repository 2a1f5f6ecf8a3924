use Rattle.std.proofs.Common.{ap, sym}
use Rattle.lua_values.specs.declared.values.Value.{Value}
use Rattle.lua_meaning.specs.Signs.{value}
use Rattle.lua_frames.specs.declared.items.Item.TheVariants as i
use Rattle.lua_frames.specs.Items.{found_at}
use Rattle.lua_frames.proofs.TakeForms.{takes_value}
use Rattle.lua_vm_statements.proofs.targets.target_key.Goals as goal

pub returns : goal.returns
returns g c =
    takes_value (g.H.Host.setting c.args.host.now) c.deref.result.now c.args.b.value (i.TargetAt c.args.line c.in_ok-object-in-Some.object c.args.left)
    (λ p v s. value c.args.b.value p s (λ key s'. found_at (g.H.Host.setting c.args.host.now) c.args.line v key c.args.left p s')) c.in-Some.object
    c.args.frames.now c.take_first.new.frames c.value_under.new.frames c.args.store.now c.value_under.new.store c.value_under.result
    (rw c.in-Some.is at c.take_first.ensures.value) c.take_first.ensures.below c.take_first.ensures.top c.deref.ensures
    (λ p s. ap (λ (o : Value). value c.args.b.value p s (λ key s'. found_at (g.H.Host.setting c.args.host.now) c.args.line o key c.args.left p s')) (sym c.in_ok-object-in-Some.ensures)) c.value_under.ensures
