use Rattle.std.proofs.Common.{sym}
use Rattle.lua_vm_statements.proofs.ItemForms.{slot_assigned}
use Rattle.lua_vm_statements.proofs.assigning.assign_to_slot.Goals as goal

pub returns-in-Some : goal.returns-in-Some
returns-in-Some g c =
    slot_assigned (g.H.Host.setting c.args.host.now) c.args.line c.args.i c.in-Some.value c.args.frames.now c.take_first.new.frames c.assign_slot.new.frames c.args.store.now c.assign_slot.new.store c.assign_slot.result
    (rw c.in-Some.is at c.take_first.ensures.value) c.take_first.ensures.below c.take_first.ensures.top (c.assign_slot.ensures (g.H.Host.setting c.args.host.now) (sym c.program.ensures))
