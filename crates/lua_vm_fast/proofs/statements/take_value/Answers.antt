use Rattle.std.proofs.Common.{sym, ◌∙◌, ◌+◌}
use Rattle.lua_vm_fast.proofs.RunLemmas.{sets}
use Rattle.lua_vm_fast.proofs.statements.take_value.Goals as goal

pub returns : goal.returns
returns c =
    sets c.args.i (c.args.valued.steps + c.args.more) c.args.valued.value c.args.slots.now.items c.put_value.new.slots.items c.args.store.now c.count.new.self (sym c.affords.ensures ∙ c.if-not-affords.false) c.count.ensures.counted c.put_value.ensures
