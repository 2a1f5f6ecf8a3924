use Rattle.std.proofs.Common.{sym, ◌∙◌}
use Rattle.lua_values.specs.declared.values.Value.TheVariants.{Number}
use Rattle.lua_vm_fast.proofs.RunLemmas.{sets}
use Rattle.lua_vm_fast.proofs.statements.take_number.Goals as goal

pub returns : goal.returns
returns c =
    sets c.args.i c.args.steps (Number c.args.number) c.args.slots.now.items c.put.new.slots.items c.args.store.now c.count.new.self (sym c.affords.ensures ∙ c.if-not-affords.false) c.count.ensures.counted c.put.ensures
