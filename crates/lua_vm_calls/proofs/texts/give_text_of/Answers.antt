use Rattle.std.proofs.Common.{◌≡◌, rules}
use Rattle.lua_values.specs.declared.values.Value.TheVariants.{Text}
use Rattle.lua_meaning.specs.Positions.{callers_at}
use Rattle.lua_meaning.specs.Signs.{give_one}
use Rattle.lua_frames.specs.Frames.{here, slots_of}
use Rattle.lua_vm_calls.proofs.TextLemmas.{text_itself, text_anew, told_spent}
use Rattle.lua_vm_calls.proofs.texts.give_text_of.Goals as goal

pub returns-else-count : goal.returns-else-count
returns-else-count c = λ S bytes e t.
    let same : c.in_ok-text-in-Text.text ≡ c.in-Text.text = search rules in
    text_itself S (callers_at (here c.args.frames.now) c.args.line) bytes c.args.store.now.heap c.args.value.now c.in-Text.text c.in_ok-text-in-Text.text c.args.frames.now _ c.args.store.now _ _ c.in-Text.is same
    (told_spent S bytes c.args.taken (give_one (Text c.in_ok-text-in-Text.text) (slots_of c.args.frames.now)) c.count.result c.args.frames.now _ c.args.store.now _ t c.count.ensures.below c.if-count.false)

pub returns-in_ok-text-in_default : goal.returns-in_ok-text-in_default
returns-in_ok-text-in_default c = λ S bytes e t.
    let told : c.in_ok-text-in_default.text ≡ _ = c.in_ok-text-in_default.ensures in
    text_anew S (callers_at (here c.args.frames.now) c.args.line) bytes c.args.store.now.heap c.args.value.now c.in_ok-text-in_default.text c.args.frames.now _ c.args.store.now _ _ c.in_default.not-Text told (c.give_made.ensures S bytes e t)
