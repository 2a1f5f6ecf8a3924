use Rattle.std.proofs.Common.{refl, arith}
use Rattle.lua_meaning.specs.Natives.{texts_length}
use Rattle.lua_vm_calls.proofs.ErrorLemmas.{first_and_rest, none_there}
use Rattle.lua_vm_calls.proofs.TextLemmas.{nothing_told, first_told, told_bytes}
use Rattle.lua_vm_calls.proofs.texts.tostring_call.Goals as goal

pub returns-in-empty : goal.returns-in-empty
returns-in-empty c = λ S e. nothing_told S c.args.args.items _ c.args.frames.now _ c.args.store.now _ (none_there _ _ c.as_slice.ensures.value (omega arith)) (c.raise_missing.ensures S c.args.store.now e)

pub returns : goal.returns
returns c = λ S e.
    first_told S c.args.args.items c.value-item.result _ _ c.args.frames.now _ c.args.store.now _ _ (first_and_rest _ _ _ _ c.as_slice.ensures.value c.in-len1-up.len_at_least c.value-item.is refl)
    (c.tell.ensures S (texts_length c.args.args.items) e (told_bytes _ _ _ c.deref.ensures.value c.texts_length-taken.ensures))
