use Rattle.lua_vm_fast.proofs.EntryLemmas.{key_runs}
use Rattle.lua_vm_fast.proofs.entries.run_store.Goals as goal

pub returns-in-Some : goal.returns-in-Some
returns-in-Some c =
    key_runs c.args.a.now c.args.b.now c.args.x.now c.in-Some.object c.args.slots.now.items c.store_in.result c.args.store.now c.store_in.new.store
    (rw c.deref.ensures.value at c.in-Some.ensures.gives) (rw c.deref-in-Some.ensures.value at c.store_in.ensures)
