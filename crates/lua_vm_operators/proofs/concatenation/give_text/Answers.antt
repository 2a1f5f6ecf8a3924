use Rattle.lua_meaning.specs.Concatenation.{text_length}
use Rattle.lua_vm_operators.proofs.JoinLemmas.{text_refused}
use Rattle.lua_vm_operators.proofs.concatenation.give_text.Goals as goal

pub returns-in-Err-Full : goal.returns-in-Err-Full
returns-in-Err-Full c = λ S e.
    text_refused S _ (text_length c.args.value) c.text_length.result c.args.value c.in-Err-Full.field-0 c.args.frames.now _ c.args.store.now _ _ c.text_length.ensures c.in-Err-Full.ensures.cause c.in-Err-Full.field-0-is c.in-Err-Full.ensures.kept
    (c.raise_fault.ensures S c.args.store.now e)
