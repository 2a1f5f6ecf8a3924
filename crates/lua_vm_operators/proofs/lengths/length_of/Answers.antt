use Rattle.lua_vm_operators.proofs.LengthLemmas.{text_measured, text_too_long, table_measured, not_measured}
use Rattle.lua_vm_operators.proofs.lengths.length_of.Goals as goal

pub returns-in-Ok : goal.returns-in-Ok
returns-in-Ok c = λ S e. text_measured S _ c.args.a.now c.in-Text.text c.as_slice.result.now c.in-Ok.n c.args.frames.now _ c.args.store.now _ c.in-Text.is c.as_slice.ensures c.in-Ok.ensures c.give_one.ensures

pub returns-in-Err : goal.returns-in-Err
returns-in-Err c = λ S e.
    text_too_long S _ c.args.a.now c.in-Text.text c.as_slice.result.now c.in-Err.fault c.args.frames.now _ c.args.store.now _ c.in-Text.is c.as_slice.ensures c.in-Err.ensures (c.raise_fault.ensures S c.args.store.now e)

pub returns-in-Table : goal.returns-in-Table
returns-in-Table c = λ S e. table_measured S _ c.args.a.now c.in-Table.t c.border.result c.args.frames.now _ c.args.store.now _ c.in-Table.is c.border.ensures.least (c.give_border.ensures S c.args.store.now)

pub returns-in_default : goal.returns-in_default
returns-in_default c = λ S e.
    not_measured S _ c.args.a.now c.type_of.result c.args.frames.now _ c.args.store.now _ (λ t k. c.in_default.not-Text t k) (λ t k. c.in_default.not-Table t k) c.type_of.ensures (c.raise_operand.ensures S c.args.store.now e)
