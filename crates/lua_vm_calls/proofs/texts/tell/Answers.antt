use Rattle.std.proofs.Common.{◌∙◌, sym}
use Rattle.lua_meaning.specs.Positions.{callers_at}
use Rattle.lua_frames.specs.Frames.{here}
use Rattle.lua_vm_calls.proofs.TextLemmas.{tells_text, tells_by}
use Rattle.lua_vm_calls.proofs.texts.tell.Goals as goal

pub returns-then-is_nil : goal.returns-then-is_nil
returns-then-is_nil c = λ S bytes e t.
    tells_text S (callers_at (here c.args.frames.now) c.args.line) bytes c.args.value.now c.in_ok-by.by c.args.frames.now _ c.args.store.now _ _ c.in_ok-by.ensures (sym c.is_nil.ensures ∙ c.if-is_nil.true) (c.give_text_of.ensures S bytes e t)

pub returns-in_ok-clone : goal.returns-in_ok-clone
returns-in_ok-clone c = λ S bytes e t.
    tells_by S (callers_at (here c.args.frames.now) c.args.line) bytes c.args.value.now c.in_ok-clone.field-0 c.in_ok-by.by c.args.frames.now _ c.args.store.now _ _ c.in_ok-by.ensures (sym c.is_nil.ensures ∙ c.if-is_nil.false) c.in_ok-clone.ensures.cases
    (c.call_handler.ensures S bytes t)
