use Rattle.lua_vm_tables.proofs.CallLemmas.{none_wanted}
use Rattle.lua_vm_tables.proofs.indexing.call_for_none.Goals as goal

pub returns : goal.returns
returns g c =
    none_wanted (g.H.Host.setting c.args.host.now) c.args.line c.args.by c.args.args.items c.args.frames.now c.wait.new.frames c.enter_call.new.frames c.args.store.now c.enter_call.new.store c.enter_call.result
    c.in_ok-wait.ensures c.enter_call.ensures
