use Rattle.lua_meaning.specs.Positions.{callers_at}
use Rattle.lua_meaning.specs.Operators.{unary_work}
use Rattle.lua_frames.proofs.TakeForms.{takes_one}
use Rattle.lua_vm_operators.proofs.operands.unary.Goals as goal

pub returns-in-Some : goal.returns-in-Some
returns-in-Some g c =
    takes_one (g.H.Host.setting c.args.host.now) (λ p x s. unary_work (g.H.Host.setting c.args.host.now) (callers_at p c.args.line) c.args.operator x s) c.in-Some.a
    c.args.frames.now c.take_first.new.frames c.operate_one.new.frames c.args.store.now c.operate_one.new.store c.operate_one.result
    (rw c.in-Some.is at c.take_first.ensures.value) c.take_first.ensures.below c.take_first.ensures.top c.operate_one.ensures
