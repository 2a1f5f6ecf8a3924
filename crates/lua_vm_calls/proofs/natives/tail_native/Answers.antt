use Rattle.lua_vm_calls.proofs.EnterLemmas.{native_tails}
use Rattle.lua_vm_calls.proofs.natives.tail_native.Goals as goal

pub returns : goal.returns
returns g c = native_tails _ c.args.number c.args.args.items c.args.line c.args.frames.now _ _ c.args.store.now _ _ c.in_ok-wait.ensures c.call_native.ensures
