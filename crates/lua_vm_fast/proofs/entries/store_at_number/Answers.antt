use Rattle.std.proofs.Common.{◌+◌, refl}
use Rattle.lua_values.specs.declared.values.Value.TheVariants.{Number}
use Rattle.lua_vm_fast.proofs.EntryLemmas.{entry_stores}
use Rattle.lua_vm_fast.proofs.entries.store_at_number.Goals as goal

pub returns-in-Some : goal.returns-in-Some
returns-in-Some c =
    entry_stores (record { table = c.args.object.table; key = Number c.args.n.number; steps = c.args.object.steps + c.args.n.steps }) c.args.x.now c.args.slots.now
    (record { table = c.args.object.table; key = Number c.args.n.number; value = Number c.in-Some.m.number; steps = c.args.object.steps + c.args.n.steps + c.in-Some.m.steps }) c.in-Some.m.steps
    c.put_number.result c.args.store.now c.put_number.new.store refl refl c.in-Some.ensures.gives refl c.put_number.ensures
