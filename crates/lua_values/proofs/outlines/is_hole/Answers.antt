use Rattle.std.proofs.Common.{◌≡◌, false, is_some, sym, ap, ◌∙◌}
use Rattle.lua_values.specs.Values.{is_nil}
use Rattle.lua_values.specs.Pairs.{value_at, has_entry}
use Rattle.lua_values.proofs.PairLemmas.{value_at-absent}
use Rattle.lua_values.proofs.EntryLemmas.{index-there, index-value}
use Rattle.lua_values.proofs.outlines.is_hole.Goals as goal

pub returns-in-None : goal.returns-in-None
returns-in-None c =
    let absent : has_entry c.args.pairs.now c.numbered.result ≡ false = sym (ap is_some c.in-None.ensures.index ∙ index-there c.args.pairs.now c.numbered.result) in
    sym (ap (λ key. is_nil (value_at c.args.pairs.now key)) (sym c.numbered.ensures) ∙ value_at-absent c.args.pairs.now c.numbered.result absent)

pub returns : goal.returns
returns c =
    c.is_nil.ensures ∙ ap is_nil (index-value c.args.pairs.now c.numbered.result _ c.in-Some.index (sym c.in-Some.ensures.index) c.value.ensures)
    ∙ ap (λ key. is_nil (value_at c.args.pairs.now key)) c.numbered.ensures
