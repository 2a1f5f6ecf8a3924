use Rattle.std.proofs.Common.{sym, ◌∙◌, ap, if◌then◌else◌, Bool}
use Rattle.lua_operators.specs.Types.{is_truthy}
use Rattle.lua_meaning.specs.Signs.{value, give_one}
use Rattle.lua_frames.specs.declared.items.Item.TheVariants as i
use Rattle.lua_frames.proofs.TakeForms.{takes_value}
use Rattle.lua_vm_operators.proofs.operands.and_then.Goals as goal

pub returns-then-is_truthy : goal.returns-then-is_truthy
returns-then-is_truthy g c =
    takes_value (g.H.Host.setting c.args.host.now) c.deref.result.now c.args.b.value i.First
    (λ p v s. if is_truthy v then value c.args.b.value p s give_one else give_one v s) c.in-Some.value
    c.args.frames.now c.take_first.new.frames c.value_under.new.frames c.args.store.now c.value_under.new.store c.value_under.result
    (rw c.in-Some.is at c.take_first.ensures.value) c.take_first.ensures.below c.take_first.ensures.top c.deref.ensures
    (λ p s. ap (λ (t : Bool). if t then value c.args.b.value p s give_one else give_one c.in-Some.value s) (sym c.is_truthy.ensures ∙ c.if-is_truthy.true)) c.value_under.ensures
