use Rattle.lua_meaning.specs.Positions.{callers_at}
use Rattle.lua_meaning.specs.Calls.{tail_call}
use Rattle.lua_frames.proofs.TakeForms.{takes_all}
use Rattle.lua_vm_calls.proofs.callees.tail_arguments.Goals as goal

pub returns-in-Some : goal.returns-in-Some
returns-in-Some g c =
    takes_all (g.H.Host.setting c.args.host.now) (λ p vs s. tail_call (callers_at p c.args.line) c.args.function vs s) c.in-Some.args.items
    c.args.frames.now c.take_values.new.frames c.enter_tail_call.new.frames c.args.store.now c.enter_tail_call.new.store c.enter_tail_call.result
    (rw c.in-Some.is at c.in_ok-take_values.ensures.values) c.in_ok-take_values.ensures.below c.in_ok-take_values.ensures.top c.enter_tail_call.ensures
