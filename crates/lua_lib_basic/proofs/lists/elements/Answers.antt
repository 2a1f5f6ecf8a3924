use Rattle.std.proofs.Common.{◌++◌, [], ◌∷◌, ◌∙◌, sym, ap, pos, ◌+ℤ◌, arith}
use Rattle.std.proofs.lemmas.List.FromFn.{map-range_with_len_more}
use Rattle.lua_values.specs.declared.values.Value.TheVariants.{Number}
use Rattle.lua_values.specs.Pairs.{value_at}
use Rattle.lua_values.specs.StoreCalls.{pairs_of}
use Rattle.lua_lib_basic.specs.Lists.{elements}
use Rattle.lua_lib_basic.proofs.lists.elements.Goals as goal

pub loop-k-preserved : goal.loop-k-preserved
loop-k-preserved c =
    let ps = pairs_of c.args.store.now.heap c.args.t in
    c.in_ok-push.ensures.items ∙ ap (λ vs. vs ++ c.in_ok-element.field-0 ∷ []) c.loop-k.invariant ∙ ap (λ v. elements ps c.args.first c.loop-k.k ++ v ∷ []) c.in_ok-element.ensures
    ∙ sym (map-range_with_len_more (λ k. value_at ps (Number (c.args.first +ℤ pos k))) 0 c.loop-k.k c.loop-k.k (omega arith))
