use Rattle.lua_vm_fast.proofs.PlaceLemmas.{slot_seen}
use Rattle.lua_vm_fast.proofs.places.found_of.Goals as goal

pub returns-in-Slot-clause-gives : goal.returns-in-Slot-clause-gives
returns-in-Slot-clause-gives c = slot_seen c.args.x.now c.args.slots.now c.args.store.now.heap c.in-Slot.i c.seen_in_slot.result c.in-Slot.is c.seen_in_slot.ensures.value c.seen_in_slot.ensures.steps
