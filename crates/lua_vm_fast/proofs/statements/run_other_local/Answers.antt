use Rattle.lua_vm_fast.proofs.RunLemmas.{local_sets}
use Rattle.lua_vm_fast.proofs.statements.run_other_local.Goals as goal

pub returns-in-Some : goal.returns-in-Some
returns-in-Some c = λ st is.
    local_sets st c.args.x.now c.args.i c.in-Some.v.steps c.in-Some.v.value c.take_value.result c.args.slots.now.items c.take_value.new.slots.items c.args.store.now c.take_value.new.store
    is (rw (c.in-Some.is, c.deref.ensures.value) at c.other_value_of.ensures.gives) c.take_value.ensures
