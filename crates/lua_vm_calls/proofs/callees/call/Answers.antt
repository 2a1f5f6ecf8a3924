use Rattle.lua_meaning.specs.Positions.{callers_at}
use Rattle.lua_meaning.specs.Calls.{call}
use Rattle.lua_frames.proofs.TakeForms.{takes_one}
use Rattle.lua_vm_calls.proofs.callees.call.Goals as goal

pub returns-in-Some : goal.returns-in-Some
returns-in-Some g c =
    takes_one (g.H.Host.setting c.args.host.now) (λ p v s. call (callers_at p c.args.line) c.args.function c.args.args.items s) _
    c.args.frames.now c.take_first.new.frames c.enter_call.new.frames c.args.store.now c.enter_call.new.store c.enter_call.result
    (rw c.in-Some.is at c.take_first.ensures.value) c.take_first.ensures.below c.take_first.ensures.top c.enter_call.ensures
