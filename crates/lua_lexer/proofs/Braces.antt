-- The search for a block's end, one stretch on.
use Rattle.std.proofs.Common.{◌≡◌, ℕ, zero, suc, ◌+◌, ◌-◌, ◌<◌, ◌≤◌, ◌&&◌, Bool, true, false, List, [], ◌∷◌, length, get_or, drop, cond, Some, None, refl, ap, sym, ◌∙◌, arith, length-drop}
use Rattle.std.specs.Prelude.{◌==◌}
use Rattle.lua_lexer.specs.Blocks.{stretch, depth_after, closing_after, block_end_of}
use Rattle.std.proofs.lemmas.Bool.{eqb-true}
use Rattle.std.proofs.Common.{get_or-drop}
use Rattle.std.proofs.Math.Seq.{drop-drop}
use Rattle.lua_lexer.proofs.Fronts.{drop_among}

pub closing_skip : (k depth index : ℕ) (xs : List ℕ) → closing_after k depth index xs ≡ closing_after 0 depth (index + k) (drop k xs)
unfolding closing_after
closing_skip zero depth index xs = let same : index ≡ index + 0 = omega arith in ap (λ at. closing_after 0 depth at xs) same
closing_skip (suc k) depth index [] = refl
closing_skip (suc k) depth index (c ∷ cs) =
    let same : index + 1 + k ≡ index + suc k = omega arith in
    closing_skip k depth (index + 1) cs ∙ ap (λ at. closing_after 0 depth at (drop k cs)) same

pub closing_none : (depth index : ℕ) (rest : List ℕ) → length rest ≡ 0 → closing_after 0 depth index rest ≡ None
unfolding closing_after
closing_none depth index [] none = refl
closing_none depth index (c ∷ cs) none = absurd (omega arith)

pub closing_here : (depth index : ℕ) (rest : List ℕ) → 0 < length rest → (get_or rest 0 0 == 125 && depth == 0) ≡ true
    → closing_after 0 depth index rest ≡ Some index
unfolding closing_after
closing_here depth index [] some here = absurd (omega arith)
closing_here depth index (c ∷ cs) some here = rw here refl

pub closing_open : (depth index : ℕ) (rest : List ℕ) → 0 < length rest → (get_or rest 0 0 == 125 && depth == 0) ≡ false
    → stretch rest ≡ None → closing_after 0 depth index rest ≡ None
unfolding closing_after
closing_open depth index [] some here opens = absurd (omega arith)
closing_open depth index (c ∷ cs) some here opens = rw (here, opens) refl

pub closing_step : (depth index size : ℕ) (rest : List ℕ) → 0 < length rest → (get_or rest 0 0 == 125 && depth == 0) ≡ false
    → stretch rest ≡ Some size → 0 < size
    → closing_after 0 depth index rest ≡ closing_after 0 (depth_after depth (get_or rest 0 0)) (index + size) (drop size rest)
unfolding closing_after
closing_step depth index size [] some here ends positive = absurd (omega arith)
closing_step depth index size (c ∷ cs) some here ends positive =
    let same : index + 1 + (size - 1) ≡ index + size = omega arith in
    rw (here, ends, closing_skip (size - 1) (depth_after depth c) (index + 1) cs, same, drop_among size c cs positive) refl

-- the depth after a byte is at most one more
depth_grows : (depth c : ℕ) → depth_after depth c ≤ depth + 1
depth_grows depth c = by (c == 123) (c == 125)
  where
    by : (opens closes : Bool) → cond opens (depth + 1) (cond closes (depth - 1) depth) ≤ depth + 1
    by true closes = omega arith
    by false true = omega arith
    by false false = omega arith

-- a block that begins after the text has no end
pub block_past : (text : List ℕ) (from : ℕ) → length text < from → None ≡ block_end_of text from
unfolding block_end_of
block_past text from past = sym (closing_none 0 from (drop from text) (omega (arith, length-drop from text)))

-- the search is at an index, with what stands there
pub record IsSearch (text : List ℕ) (from depth index : ℕ) (rest : List ℕ) : Type 0 where
  pub same : closing_after 0 depth index rest ≡ block_end_of text from
  pub depth_within : depth ≤ index
  pub length_is : index + length rest ≡ length text
  pub from_within : from ≤ index
  pub rest_is : rest ≡ drop index text

-- the search begins
pub search_begins : (text rest : List ℕ) (from : ℕ) → from ≤ length text → rest ≡ drop from text → IsSearch text from 0 from rest
unfolding block_end_of
search_begins text rest from within left = record {
  same = ap (closing_after 0 0 from) left;
  depth_within = omega arith;
  length_is = rw left (omega (arith, length-drop from text));
  from_within = omega arith;
  rest_is = left;
}

-- the search goes on
pub search_step :
    (text : List ℕ) (from depth index size next : ℕ) (rest after : List ℕ) → 0 < length rest
    → (get_or rest 0 0 == 125 && depth == 0) ≡ false → IsSearch text from depth index rest
    → Some size ≡ stretch rest → (0 < size) × (size ≤ length rest) → next ≡ depth_after depth (get_or rest 0 0) → after ≡ drop size rest
    → IsSearch text from next (index + size) after
search_step text from depth index size next rest after some here was ends within deeper left = record {
  same = rw (deeper, left) (sym (closing_step depth index size rest some here (sym ends) within.0) ∙ was.same);
  depth_within = rw deeper (omega (arith, was.depth_within, within.0, depth_grows depth (get_or rest 0 0)));
  length_is = rw left (omega (arith, was.length_is, within.1, length-drop size rest));
  from_within = omega (arith, was.from_within);
  rest_is = left ∙ ap (drop size) was.rest_is ∙ drop-drop size index text;
}

both_true : (a b : Bool) → (a && b) ≡ true → a ≡ true
both_true true b h = refl
both_true false b h = h

-- the search ends at a brace
pub search_here : (text : List ℕ) (from depth index : ℕ) (rest : List ℕ) → IsSearch text from depth index rest
    → (get_or rest 0 0 == 125 && depth == 0) ≡ true → get_or text index 0 ≡ 125
search_here text from depth index rest was here =
    let first = eqb-true (get_or rest 0 0) 125 (both_true (get_or rest 0 0 == 125) (depth == 0) here) in
    let same : index + 0 ≡ index = omega arith in
    sym (ap (λ xs. get_or xs 0 0) was.rest_is ∙ get_or-drop index text 0 0 ∙ ap (λ k. get_or text k 0) same) ∙ first
