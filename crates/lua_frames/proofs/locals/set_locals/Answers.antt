use Rattle.std.proofs.Common.{◌∙◌, ap, sym, List, ℕ, drop}
use Rattle.std.proofs.lemmas.List.{drop_more}
use Rattle.lua_meaning.specs.Variables.{with_locals}
use Rattle.lua_frames.proofs.DropLemmas.{dropped_all}
use Rattle.lua_frames.proofs.LocalLemmas.{local_set}
use Rattle.lua_frames.proofs.locals.set_locals.Goals as goal

pub loop-k-preserved : goal.loop-k-preserved
loop-k-preserved c =
    c.loop-k.invariant
    ∙ local_set c.args.places.now _ c.loop-k.k c.loop-k.values.items c.take_value-value.new.values.items c.take_value-value.result c.loop-k.slots.items c.set_slot.new.slots.items (drop_more c.args.places.now c.loop-k.k _ c.loop-k-test.true) c.take_value-value.ensures.value c.take_value-value.ensures.left c.set_slot.ensures

pub returns : goal.returns
returns c =
    sym (c.loop-k.invariant ∙ ap (λ (xs : List ℕ). with_locals xs (drop c.loop-k.k c.loop-k.values.items) c.loop-k.slots.items) (dropped_all c.args.places.now c.loop-k.k c.loop-k-test.false))
