use Rattle.std.proofs.Common.{refl}
use Rattle.lua_meaning.specs.Signs.{value}
use Rattle.lua_meaning.specs.Indexing.{index_work}
use Rattle.lua_frames.specs.declared.items.Item.TheVariants as i
use Rattle.lua_frames.proofs.TakeForms.{takes_value}
use Rattle.lua_vm_operators.proofs.operands.key.Goals as goal

pub returns : goal.returns
returns g c =
    takes_value (g.H.Host.setting c.args.host.now) c.deref.result.now c.args.b.value (i.At c.args.line c.in-Some.value)
    (λ p v s. value c.args.b.value p s (λ x s'. index_work (g.H.Host.setting c.args.host.now) c.args.line v x p s')) c.in-Some.value
    c.args.frames.now c.take_first.new.frames c.value_under.new.frames c.args.store.now c.value_under.new.store c.value_under.result
    (rw c.in-Some.is at c.take_first.ensures.value) c.take_first.ensures.below c.take_first.ensures.top c.deref.ensures (λ p s. refl) c.value_under.ensures
