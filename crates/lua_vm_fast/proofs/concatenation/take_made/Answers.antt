use Rattle.std.proofs.Common.{sym, ◌∙◌}
use Rattle.lua_vm_fast.proofs.JoiningLemmas.{took}
use Rattle.lua_vm_fast.proofs.concatenation.take_made.Goals as goal

pub returns-in-Ok : goal.returns-in-Ok
returns-in-Ok c =
    took c.args.i c.args.made c.args.more c.args.slots.now.items c.put_value.new.slots.items c.args.store.now c.add_units.new.self c.count.new.self
    (sym c.affords.ensures ∙ c.if-not-affords.false) (rw c.in-Ok.is at c.add_units.ensures.allowed) (rw c.in-Ok.is at c.add_units.ensures.done) c.count.ensures.counted c.put_value.ensures
