use Rattle.std.proofs.Common.{rules}
use Rattle.lua_values.specs.declared.values.Value.TheVariants.{Text}
use Rattle.lua_vm_fast.proofs.PlaceLemmas.{linked_found}
use Rattle.lua_vm_fast.proofs.places.named.Goals as goal

pub returns-in_ok-other-clause-has : goal.returns-in_ok-other-clause-has
returns-in_ok-other-clause-has c =
    linked_found c.args.store.now.heap c.args.t c.in_ok-other.other (Text c.args.name.now) c.get_text-own.result.now c.get_text.result.now c.args.steps c.there.result
    (rw c.as_slice-text.ensures at c.get_text-own.ensures) (search rules) c.in_ok-other.ensures (rw c.as_slice-text.ensures at c.get_text.ensures) c.there.ensures.value c.there.ensures.there c.there.ensures.steps
