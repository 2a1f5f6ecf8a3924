use Rattle.lua_meaning.specs.Expressions.{call_work}
use Rattle.lua_frames.proofs.TakeForms.{takes_one}
use Rattle.lua_vm_calls.proofs.callees.callee.Goals as goal

pub returns : goal.returns
returns g c =
    takes_one (g.H.Host.setting c.args.host.now) (λ p f s. call_work c.args.line f c.args.args.value.items p s) c.in-Some.function
    c.args.frames.now c.take_first.new.frames c.list_under.new.frames c.args.store.now c.list_under.new.store c.list_under.result
    (rw c.in-Some.is at c.take_first.ensures.value) c.take_first.ensures.below c.take_first.ensures.top c.list_under.ensures
