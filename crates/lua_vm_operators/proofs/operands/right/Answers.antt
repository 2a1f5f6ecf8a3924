use Rattle.std.proofs.Common.{refl}
use Rattle.lua_meaning.specs.Signs.{value}
use Rattle.lua_meaning.specs.Positions.{callers_at}
use Rattle.lua_meaning.specs.Operators.{binary_work}
use Rattle.lua_frames.specs.declared.items.Item.TheVariants as i
use Rattle.lua_frames.proofs.TakeForms.{takes_value}
use Rattle.lua_vm_operators.proofs.operands.right.Goals as goal

pub returns : goal.returns
returns g c =
    takes_value (g.H.Host.setting c.args.host.now) c.deref.result.now c.args.b.value (i.Operate c.args.line c.args.operator c.in-Some.value)
    (λ p v s. value c.args.b.value p s (λ x s'. binary_work (g.H.Host.setting c.args.host.now) (callers_at p c.args.line) c.args.operator v x s')) c.in-Some.value
    c.args.frames.now c.take_first.new.frames c.value_under.new.frames c.args.store.now c.value_under.new.store c.value_under.result
    (rw c.in-Some.is at c.take_first.ensures.value) c.take_first.ensures.below c.take_first.ensures.top c.deref.ensures (λ p s. refl) c.value_under.ensures
