use Rattle.lua_meaning.specs.Positions.{callers_at}
use Rattle.lua_meaning.specs.Operators.{binary_work}
use Rattle.lua_frames.proofs.TakeForms.{takes_one}
use Rattle.lua_vm_operators.proofs.operands.binary.Goals as goal

pub returns-in-Some : goal.returns-in-Some
returns-in-Some g c =
    takes_one (g.H.Host.setting c.args.host.now) (λ p x s. binary_work (g.H.Host.setting c.args.host.now) (callers_at p c.args.line) c.args.operator c.args.a x s) c.in-Some.b
    c.args.frames.now c.take_first.new.frames c.operate.new.frames c.args.store.now c.operate.new.store c.operate.result
    (rw c.in-Some.is at c.take_first.ensures.value) c.take_first.ensures.below c.take_first.ensures.top c.operate.ensures
