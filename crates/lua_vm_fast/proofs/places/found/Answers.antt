use Rattle.std.proofs.Common.{rules}
use Rattle.lua_vm_fast.proofs.PlaceLemmas.{linked_found}
use Rattle.lua_vm_fast.proofs.places.found.Goals as goal

pub returns-in_ok-other-clause-has : goal.returns-in_ok-other-clause-has
returns-in_ok-other-clause-has c =
    linked_found c.args.store.now.heap c.args.t c.in_ok-other.other c.args.key.now c.get-own.result.now c.get.result.now c.args.steps c.there.result
    c.get-own.ensures (search rules) c.in_ok-other.ensures c.get.ensures c.there.ensures.value c.there.ensures.there c.there.ensures.steps
