use Rattle.std.proofs.Common.{List, Some, slice_get, refl, sym, ap, ◌∙◌}
use Rattle.std.proofs.lemmas.Option.{slice_get_read}
use Rattle.lua_meaning.specs.declared.slots.Slot.{Slot}
use Rattle.lua_meaning.specs.Positions.{callers_at}
use Rattle.lua_frames.specs.Frames.{here}
use Rattle.lua_vm_statements.proofs.AssignLemmas.{slot_shared, slot_plain}
use Rattle.lua_vm_statements.proofs.assigning.assign_slot.Goals as goal

pub returns-in-Some-Shared : goal.returns-in-Some-Shared
returns-in-Some-Shared c = λ S e.
    slot_shared S (callers_at (here c.args.frames.now) c.args.line) c.args.i c.in-Some-Shared.c c.args.value c.args.frames.now c.write_cell.new.frames c.args.store.now c.write_cell.new.store c.write_cell.result
    (ap (λ (xs : List Slot). slice_get xs c.args.i) (sym c.deref.ensures.value) ∙ slice_get_read _ _ _ _ refl c.in-Some-Shared.ensures.lookup.3.0 c.in-Some-Shared.ensures.lookup.1 ∙ ap (λ (x : Slot). Some x) c.in-Some-Shared.field-0-is) (c.write_cell.ensures S e)

pub returns-in-Some-Plain : goal.returns-in-Some-Plain
returns-in-Some-Plain c = λ S e.
    slot_plain S (callers_at (here c.args.frames.now) c.args.line) c.args.i c.args.value c.in-Some-Plain.field-0-0 c.args.frames.now c.put_plain.new.frames c.give_nothing-in-Some-Plain.new.frames c.args.store.now c.give_nothing-in-Some-Plain.result
    (ap (λ (xs : List Slot). slice_get xs c.args.i) (sym c.deref.ensures.value) ∙ slice_get_read _ _ _ _ refl c.in-Some-Plain.ensures.lookup.3.0 c.in-Some-Plain.ensures.lookup.1 ∙ ap (λ (x : Slot). Some x) c.in-Some-Plain.field-0-is) c.put_plain.ensures c.give_nothing-in-Some-Plain.ensures
