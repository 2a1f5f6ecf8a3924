use Rattle.lua_vm_fast.proofs.JoiningLemmas.{local_takes}
use Rattle.lua_vm_fast.proofs.concatenation.run_joined_local.Goals as goal

pub returns-in-Some : goal.returns-in-Some
returns-in-Some c =
    local_takes c.args.x.now c.args.i c.in-Some.made c.take_made.result c.args.slots.now.items c.take_made.new.slots.items c.args.store.now c.take_made.new.store
    (rw (c.in-Some.is, c.deref.ensures.value) at c.made_of.ensures.makes) c.take_made.ensures
