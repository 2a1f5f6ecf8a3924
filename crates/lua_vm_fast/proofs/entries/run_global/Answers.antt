use Rattle.std.proofs.Common.{refl}
use Rattle.lua_values.specs.declared.values.Value.TheVariants.{Text}
use Rattle.lua_vm_fast.proofs.EntryLemmas.{name_runs}
use Rattle.lua_vm_fast.proofs.entries.run_global.Goals as goal

pub returns : goal.returns
returns c =
    name_runs c.args.name.now c.args.x.now (record { table = c.globals-table.result; key = Text c.args.name.now; steps = 0 }) c.args.slots.now.items c.store_named.result c.args.store.now c.store_named.new.store
    c.globals-table.ensures refl refl (rw c.deref.ensures.value at c.store_named.ensures)
