use Rattle.std.proofs.Common.{[], ◌∷◌}
use Rattle.lua_meaning.specs.Positions.{callers_at}
use Rattle.lua_meaning.specs.Signs.{give_one}
use Rattle.lua_meaning.specs.Calls.{call_for_one}
use Rattle.lua_frames.specs.Frames.{here, slots_of}
use Rattle.lua_vm_calls.proofs.TextLemmas.{told_goes, told_spent, one_wanted}
use Rattle.lua_vm_calls.proofs.texts.call_handler.Goals as goal

pub returns-then-not-count : goal.returns-then-not-count
returns-then-not-count c = λ S bytes t.
    told_spent S bytes c.args.taken (call_for_one (callers_at (here c.args.frames.now) c.args.line) c.args.by (c.args.value ∷ []) (slots_of c.args.frames.now) give_one) c.count.result c.args.frames.now _ c.args.store.now _ t c.count.ensures.below c.if-not-count.true

pub returns : goal.returns
returns c = λ S bytes t.
    told_goes S bytes c.args.taken (call_for_one (callers_at (here c.args.frames.now) c.args.line) c.args.by (c.args.value ∷ []) (slots_of c.args.frames.now) give_one) c.count.result c.args.frames.now _ c.args.store.now c.count.new.self _ _
    t c.count.ensures.counted c.count.ensures.below c.if-not-count.false
    (one_wanted S c.args.line c.args.by (c.args.value ∷ []) c.args.frames.now c.wait.new.frames _ c.count.new.self _ _ c.in_ok-wait.ensures (c.wait_for_call.ensures S _))
