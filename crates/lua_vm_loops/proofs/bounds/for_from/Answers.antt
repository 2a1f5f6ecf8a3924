use Rattle.std.proofs.Common.{ap, sym, ◌∙◌}
use Rattle.lua_values.specs.declared.values.Value.{Value}
use Rattle.lua_meaning.specs.Signs.{value}
use Rattle.lua_frames.specs.declared.items.Item.TheVariants as i
use Rattle.lua_frames.specs.Items.{with_step}
use Rattle.lua_frames.proofs.TakeForms.{takes_value}
use Rattle.lua_vm_loops.proofs.bounds.for_from.Goals as goal

pub returns-in_ok-to-in-Some : goal.returns-in_ok-to-in-Some
returns-in_ok-to-in-Some g c =
    takes_value (g.H.Host.setting c.args.host.now) c.deref.result.now c.args.bounds.to.value (i.ForTo c.args.bounds c.in_ok-from-in-Some.from)
    (λ p v s. value c.args.bounds.to.value p s (λ to s'. with_step (g.H.Host.setting c.args.host.now) c.args.bounds p v to s')) c.in-Some.from
    c.args.frames.now c.take_first.new.frames c.value_under.new.frames c.args.store.now c.value_under.new.store c.value_under.result
    (rw c.in-Some.is at c.take_first.ensures.value) c.take_first.ensures.below c.take_first.ensures.top (c.deref.ensures ∙ c.in_ok-to-in-Some.ensures)
    (λ p s. ap (λ (v : Value). value c.args.bounds.to.value p s (λ to s'. with_step (g.H.Host.setting c.args.host.now) c.args.bounds p v to s')) (sym c.in_ok-from-in-Some.ensures)) c.value_under.ensures
