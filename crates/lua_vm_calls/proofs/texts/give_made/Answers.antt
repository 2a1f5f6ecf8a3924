use Rattle.lua_operators.specs.declared.faults.Fault.TheVariants.{StorageLimit}
use Rattle.lua_meaning.specs.Positions.{callers_at, raise_fault}
use Rattle.lua_frames.specs.Frames.{here, slots_of}
use Rattle.lua_vm_calls.proofs.TextLemmas.{made_spent, made_refused, told_more, told_goes, told_spent, length_told}
use Rattle.lua_vm_calls.proofs.texts.give_made.Goals as goal

pub returns-in-Ok : goal.returns-in-Ok
returns-in-Ok c = λ S bytes e t.
    made_spent S (callers_at (here c.args.frames.now) c.args.line) bytes c.saturating_add.result _ c.args.text c.count.result c.args.frames.now _ c.args.store.now c.add_units.new.self _
    (length_told _ _ c.as_slice.ensures) c.in-Ok.ensures.allowed c.in-Ok.ensures.done (told_more _ _ _ _ _ t (length_told _ _ c.as_slice.ensures) c.saturating_add.ensures) c.count.ensures.below c.if-count.false

pub returns-then-count-2 : goal.returns-then-count-2
returns-then-count-2 c = λ S bytes e t.
    made_refused S (callers_at (here c.args.frames.now) c.args.line) bytes _ c.args.text c.in-Err-Full.field-0 c.args.frames.now _ c.args.store.now c.add_units.new.self _ _
    (length_told _ _ c.as_slice.ensures) c.in-Err-Full.ensures.cause c.in-Err-Full.ensures.kept
    (told_goes S bytes c.args.taken (raise_fault S (callers_at (here c.args.frames.now) c.args.line) StorageLimit (slots_of c.args.frames.now)) c.count-in-Err-Full.result c.args.frames.now _ c.add_units.new.self _ _ _
    t c.count-in-Err-Full.ensures.counted c.count-in-Err-Full.ensures.below c.if-count-2.true (c.raise_fault.ensures S _ e))

pub returns-in-Err-Full : goal.returns-in-Err-Full
returns-in-Err-Full c = λ S bytes e t.
    made_refused S (callers_at (here c.args.frames.now) c.args.line) bytes _ c.args.text c.in-Err-Full.field-0 c.args.frames.now _ c.args.store.now c.add_units.new.self _ _
    (length_told _ _ c.as_slice.ensures) c.in-Err-Full.ensures.cause c.in-Err-Full.ensures.kept
    (told_spent S bytes c.args.taken (raise_fault S (callers_at (here c.args.frames.now) c.args.line) StorageLimit (slots_of c.args.frames.now)) c.count-in-Err-Full.result c.args.frames.now _ c.add_units.new.self _ t c.count-in-Err-Full.ensures.below c.if-count-2.false)
