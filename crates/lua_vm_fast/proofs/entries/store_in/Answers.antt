use Rattle.std.proofs.Common.{◌+◌, refl}
use Rattle.lua_values.specs.declared.values.Value.TheVariants.{Number, Text}
use Rattle.lua_vm_fast.proofs.ValueLemmas.{text_gives}
use Rattle.lua_vm_fast.proofs.EntryLemmas.{spot_stores}
use Rattle.lua_vm_fast.proofs.entries.store_in.Goals as goal

pub returns-in-Some : goal.returns-in-Some
returns-in-Some c =
    spot_stores c.args.object c.args.b.now c.args.x.now c.args.slots.now (record { table = c.args.object.table; key = Number c.in-Some.n.number; steps = c.args.object.steps + c.in-Some.n.steps }) c.in-Some.n.steps
    c.store_at_number.result c.args.store.now c.store_at_number.new.store refl c.in-Some.ensures.gives refl c.store_at_number.ensures

pub returns-in-Text : goal.returns-in-Text
returns-in-Text c =
    spot_stores c.args.object c.args.b.now c.args.x.now c.args.slots.now (record { table = c.args.object.table; key = Text c.in-Text.name; steps = c.args.object.steps + 1 }) 1 c.store_named.result c.args.store.now c.store_named.new.store
    refl (text_gives c.args.b.now c.args.slots.now c.args.store.now.heap c.in-Text.name c.in-Text.is) refl c.store_named.ensures
