use Rattle.std.proofs.Common.{◌≡◌, ◌<◌, ◌++◌, Some, length, slice_get, position, sym, ap, inr, ◌∙◌, arith}
use Rattle.std.specs.Map.{keys_of, values_of}
use Rattle.std.proofs.lemmas.Bool.{not-true}
use Rattle.lua_values.specs.declared.values.Value.TheVariants.{Number}
use Rattle.lua_values.specs.Values.{same, is_nil}
use Rattle.lua_values.specs.Numbered.{numbered_from}
use Rattle.lua_values.proofs.PairLemmas.{insert-with}
use Rattle.lua_values.proofs.EntryLemmas.{index-has, index-value, index-write}
use Rattle.lua_values.proofs.NumberedLemmas.{counted, got, index-numbered, value-numbered, set-numbered}
use Rattle.lua_values.proofs.pairs.Pairs.renew_whole.Goals as goal

pub returns-in-Some-clause-there : goal.returns-in-Some-clause-there
returns-in-Some-clause-there c = λ h.
    let vs = c.self.inside.numbered.items in
    let ps = c.self.inside.others.entries in
    let within : c.in-Some.index < length vs = omega (arith, c.in-Some.ensures.0, counted c.len.result c.self.inside.numbered c.len.ensures) in
    let at : position (same (Number c.args.n)) (keys_of (numbered_from 1 vs ++ ps)) ≡ Some c.in-Some.index = index-numbered vs ps c.in-Some.index (Number c.args.n) within c.in-Some.ensures.1 in
    let there : slice_get (values_of (numbered_from 1 vs ++ ps)) c.in-Some.index ≡ Some c.index_mut.result.now =
    value-numbered vs ps c.in-Some.index c.index_mut.result.now (got vs c.in-Some.index _ c.index_mut.result.now within c.index_mut.ensures.value) in
    rw (← c.self.view_is) (sym (ap is_nil (index-value (numbered_from 1 vs ++ ps) (Number c.args.n) c.index_mut.result.now c.in-Some.index at there))
    ∙ not-true (is_nil c.index_mut.result.now) (sym c.set_whole.ensures.there ∙ h))

pub returns-in-Some-clause-at : goal.returns-in-Some-clause-at
returns-in-Some-clause-at c = λ h.
    let vs = c.self.inside.numbered.items in
    let ps = c.self.inside.others.entries in
    let within : c.in-Some.index < length vs = omega (arith, c.in-Some.ensures.0, counted c.len.result c.self.inside.numbered c.len.ensures) in
    rw (← c.self.view_is) (record {
      index = c.in-Some.index;
      before = c.index_mut.result.now;
      there = value-numbered vs ps c.in-Some.index c.index_mut.result.now (got vs c.in-Some.index _ c.index_mut.result.now within c.index_mut.ensures.value);
      live = not-true (is_nil c.index_mut.result.now) (sym c.set_whole.ensures.there ∙ h);
      is = rw (c.set_whole.ensures.done h) (set-numbered vs ps c.in-Some.index (Number c.args.number) within);
    })

pub returns-in-Some-clause-done : goal.returns-in-Some-clause-done
returns-in-Some-clause-done c = λ h.
    let vs = c.self.inside.numbered.items in
    let ps = c.self.inside.others.entries in
    let within : c.in-Some.index < length vs = omega (arith, c.in-Some.ensures.0, counted c.len.result c.self.inside.numbered c.len.ensures) in
    let at : position (same (Number c.args.n)) (keys_of (numbered_from 1 vs ++ ps)) ≡ Some c.in-Some.index = index-numbered vs ps c.in-Some.index (Number c.args.n) within c.in-Some.ensures.1 in
    rw (← c.self.view_is, c.set_whole.ensures.done h) (set-numbered vs ps c.in-Some.index (Number c.args.number) within
    ∙ index-write (numbered_from 1 vs ++ ps) (Number c.args.n) (Number c.args.number) c.in-Some.index at
    ∙ insert-with (numbered_from 1 vs ++ ps) (Number c.args.n) (Number c.args.number) (inr (index-has (numbered_from 1 vs ++ ps) (Number c.args.n) c.in-Some.index at)))
