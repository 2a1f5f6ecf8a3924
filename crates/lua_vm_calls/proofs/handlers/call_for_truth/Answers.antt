use Rattle.std.proofs.Common.{refl}
use Rattle.lua_vm_calls.proofs.HandlerLemmas.{truth_wanted}
use Rattle.lua_vm_calls.proofs.handlers.call_for_truth.Goals as goal

pub returns : goal.returns
returns g c =
    truth_wanted (g.H.Host.setting c.args.host.now) c.args.line c.args.wanted c.args.by c.args.a c.args.b c.in_ok-args.args.items c.args.frames.now _ c.wait.new.frames c.enter_call.new.frames c.args.store.now c.enter_call.new.store c.enter_call.result
    refl refl c.in_ok-args.ensures c.in_ok-wait.ensures c.enter_call.ensures
