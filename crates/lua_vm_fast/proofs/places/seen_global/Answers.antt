use Rattle.lua_vm_fast.proofs.PlaceLemmas.{global_found}
use Rattle.lua_vm_fast.proofs.places.seen_global.Goals as goal

pub returns-clause-gives : goal.returns-clause-gives
returns-clause-gives c = global_found c.args.store.now.heap c.args.name.now c.globals.result c.named.result c.globals.ensures c.named.ensures.has
