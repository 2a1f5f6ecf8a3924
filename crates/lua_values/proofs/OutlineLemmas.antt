-- How what comes next in a table and its border are found.
use Rattle.std.proofs.Common.{◌≡◌, ℕ, zero, suc, ◌+◌, ◌<◌, ◌≤◌, nat_lt, Bool, true, false, not, ◌&&◌, List, [], ◌∷◌, ◌++◌, length, drop, slice_get, slice_set, position, Option, None, Some, unwrap_or, Result, Ok, Err, OnOk, inr, refl, sym, ap, subst, ◌∙◌, inl, arith}
use Rattle.std.specs.Option.{option_map}
use Rattle.std.specs.Map.{keys_of, values_of}
use Rattle.std.proofs.lemmas.Bool.{cases_lt, cases_eq, lt-ltb, le-ltb, not-true}
use Rattle.std.proofs.lemmas.List.{length-set, get_or-set_same, get_or-set_other}
use Rattle.std.proofs.lemmas.Option.{none-some, same_Some}
use Rattle.indexmap.specs.IndexMap.{set_value_at}
use Rattle.indexmap.proofs.MapLemmas.{Found-position}
use Rattle.lua_values.specs.declared.values.Value.{Value}
use Rattle.lua_values.specs.declared.outlines.Outline.{Outline}
use Rattle.lua_values.specs.declared.outlines.Outline.TheVariants.{Full, Flagged, Walked}
use Rattle.lua_values.specs.Values.{same, is_nil, number}
use Rattle.lua_values.specs.Pairs.{value_at, has_entry, with_value, first_live}
use Rattle.lua_values.specs.Border.{border_of}
use Rattle.lua_values.specs.Flags.{flag_at, IsFirstFrom}
use Rattle.lua_values.specs.TableFlags.{lives, is_hole, IsIndexed, IsFlaggedTo, IsFull, IsInOrder, IsOutline}
use Rattle.lua_values.specs.Numbered.{IsRenewed, passes_at}
use Rattle.lua_values.proofs.BorderLemmas.{other-number}
use Rattle.lua_values.proofs.EntryLemmas.{same-refl, index-value}
use Rattle.lua_values.proofs.PairLemmas.{insert-with}
use Rattle.lua_values.proofs.NumberedLemmas.{scan-some, pushed-insert, keys-set-value}
use Rattle.lua_values.proofs.TableLemmas.{holes-more, live-first, live-none, border-stop, border-all, border-some, border-none, same-lives, length-set-value, indexed-renewed}

-- whether a pair's value is nil, by the flags
live-there : (ps : List (Value × Value)) (i : ℕ) (w : Value) → slice_get (values_of ps) i ≡ Some w → flag_at (lives ps) i ≡ not (is_nil w)
live-there [] i w at = absurd (none-some w at)
live-there (p ∷ ps) zero w at = ap (λ v. not (is_nil v)) (same_Some p.1 w at)
live-there (p ∷ ps) (suc i) w at = live-there ps i w at

live-beyond : (ps : List (Value × Value)) (k : ℕ) → length ps ≤ k → flag_at (lives ps) k ≡ false
live-beyond [] k le = refl
live-beyond (p ∷ ps) zero le = absurd (omega arith)
live-beyond (p ∷ ps) (suc k) le = live-beyond ps k (omega arith)

some-value : (ps : List (Value × Value)) (k : ℕ) → k < length ps → (w : Value) × (slice_get (values_of ps) k ≡ Some w)
some-value [] k lt = absurd (omega arith)
some-value (p ∷ ps) zero lt = (p.1, refl)
some-value (p ∷ ps) (suc k) lt = some-value ps k (omega arith)

get-none : (ps : List (Value × Value)) (i : ℕ) → length ps ≤ i → slice_get ps i ≡ None
get-none [] i le = refl
get-none (p ∷ ps) zero le = absurd (omega arith)
get-none (p ∷ ps) (suc i) le = get-none ps i (omega arith)

-- flags that are given one after the other
pub flagged-none : (ps : List (Value × Value)) (live holes : List Bool) → live ≡ [] → holes ≡ [] → IsFlaggedTo ps live holes 0
flagged-none ps live holes l h = rw (l, h) (record {
  marks_live = λ k. rw (le-ltb k 0 (omega arith)) refl;
  marks_holes = λ k. rw (le-ltb k 0 (omega arith)) refl;
  live_there = omega arith;
  holes_there = omega arith;
})

pub flagged-more : (ps : List (Value × Value)) (live live' holes holes' : List Bool) (n : ℕ) (w : Value) → IsFlaggedTo ps live holes n
    → ((k : ℕ) → flag_at live' k ≡ flag_at live k) → ((k : ℕ) → flag_at holes' k ≡ flag_at holes k) → n < length live' → n < length holes'
    → slice_get (values_of ps) n ≡ Some w
    → IsFlaggedTo ps (slice_set live' n (not (is_nil w))) (slice_set holes' n (is_nil (value_at ps (number (n + 1))))) (n + 1)
flagged-more ps live live' holes holes' n w x l h live_there holes_there at =
    let live_length : length (slice_set live' n (not (is_nil w))) ≡ length live' = length-set live' n (not (is_nil w)) in
    let holes_length : length (slice_set holes' n (is_nil (value_at ps (number (n + 1))))) ≡ length holes' = length-set holes' n (is_nil (value_at ps (number (n + 1)))) in
    record {
      marks_live = λ k. elim (cases_eq k n) [
        | inl e ↦ subst (λ j. flag_at (slice_set live' n (not (is_nil w))) j ≡ (nat_lt j (n + 1) && flag_at (lives ps) j)) (sym e)
            (get_or-set_same live' n (not (is_nil w)) false live_there ∙ rw (lt-ltb n (n + 1) (omega arith)) (sym (live-there ps n w at)))
        | inr apart ↦ get_or-set_other live' n k (not (is_nil w)) false apart ∙ l k ∙ x.marks_live k ∙ elim (cases_lt k n) [
          | inl lt ↦ rw (lt-ltb k n lt, lt-ltb k (n + 1) (omega arith)) refl
          | inr le ↦ rw (le-ltb k n le, le-ltb k (n + 1) (omega arith)) refl
        ]
      ];
      marks_holes = λ k. holes-more ps n holes' (λ j. h j ∙ x.marks_holes j) holes_there k;
      live_there = omega arith;
      holes_there = omega arith;
    }

pub flagged-all : (ps : List (Value × Value)) (live holes : List Bool) (n : ℕ) → n ≡ length ps → IsFlaggedTo ps live holes n → IsIndexed ps live holes
flagged-all ps live holes n e x =
    let a = x.live_there in
    let b = x.holes_there in
    record {
      marks_live = λ k. x.marks_live k ∙ elim (cases_lt k n) [
        | inl lt ↦ rw (lt-ltb k n lt) refl
        | inr le ↦ rw (le-ltb k n le) (sym (live-beyond ps k (omega arith)))
      ];
      marks_holes = λ k. subst (λ m. flag_at holes k ≡ is_hole m ps k) e (x.marks_holes k);
      live_there = omega arith;
      holes_there = omega arith;
    }

-- a full table
pub full-empty : IsFull []
full-empty = record { ordered = λ k lt. absurd (omega arith); filled = λ k lt. absurd (omega arith) }

pub full-next : (ps : List (Value × Value)) (from : ℕ) → IsFull ps → slice_get ps from ≡ first_live (drop from ps)
full-next ps from full = elim (cases_lt from (length ps)) [
  | inl lt ↦ sym (live-first ps from from (record { later = omega arith; stands = full.filled from lt; before = λ k a b. absurd (omega arith) }))
  | inr le ↦ get-none ps from le ∙ sym (live-none ps from (λ k a. live-beyond ps k (omega arith)))
]

full-value : (ps : List (Value × Value)) (k : ℕ) → IsFull ps → k < length ps → is_nil (value_at ps (number (k + 1))) ≡ false
full-value ps k full lt =
    let there = some-value ps k lt in
    let passes : (j : ℕ) → j < length ps → passes_at (same (number (k + 1))) ps j ≡ same (number (k + 1)) (number (j + 1)) =
    λ j within. ap (λ key. unwrap_or (option_map (same (number (k + 1))) key) false) (full.ordered j within) in
    let at : position (same (number (k + 1))) (keys_of ps) ≡ Some k =
    scan-some (same (number (k + 1))) ps k (λ j before. passes j (omega arith) ∙ other-number (k + 1) (j + 1) (λ e. omega arith)) (passes k lt ∙ same-refl (number (k + 1))) in
    sym (ap is_nil (index-value ps (number (k + 1)) there.0 k at there.1)) ∙ not-true (is_nil there.0) (sym (live-there ps k there.0 there.1) ∙ full.filled k lt)

pub full-border : (ps : List (Value × Value)) → IsFull ps → length ps ≡ border_of ps
full-border ps full = sym (border-all ps 0 (length ps) (λ k c d. full-value ps k full (omega arith)) ∙ omega arith)

full-renewed : (ps : List (Value × Value)) (i : ℕ) (v w : Value) → IsFull ps → slice_get (values_of ps) i ≡ Some w → is_nil w ≡ false → is_nil v ≡ false → IsFull (set_value_at ps i v)
full-renewed ps i v w full at was is =
    let as_long : length (set_value_at ps i v) ≡ length ps = length-set-value ps i v in
    record {
      ordered = λ k lt. ap (λ ks. slice_get ks k) (keys-set-value ps i v) ∙ full.ordered k (omega arith);
      filled = λ k lt. ap (λ ls. flag_at ls k) (same-lives ps i v w at was is) ∙ full.filled k (omega arith);
    }

-- where something stands before and after, the outline stays
pub outline-renewed : (o : Outline) (ps : List (Value × Value)) (i : ℕ) (v w : Value) (live holes : List Bool) → IsOutline o ps live holes
    → slice_get (values_of ps) i ≡ Some w → is_nil w ≡ false → is_nil v ≡ false → IsOutline o (set_value_at ps i v) live holes
outline-renewed Full ps i v w live holes x at was is = (full-renewed ps i v w x.0 at was is, x.1, x.2)
outline-renewed Flagged ps i v w live holes x at was is = indexed-renewed ps i v w live holes x at was is
outline-renewed Walked ps i v w live holes x at was is = tt

pub full-written : (ps : List (Value × Value)) (i : ℕ) (key v : Value) (live holes : List Bool) → IsOutline Full ps live holes → position (same key) (keys_of ps) ≡ Some i → is_nil v ≡ false
    → IsOutline Full (set_value_at ps i v) live holes
full-written ps i key v live holes x at is =
    let within : i < length ps = (Found-position (same key) ps i at).within in
    let there = some-value ps i within in
    (full-renewed ps i v there.0 x.0 there.1 (not-true (is_nil there.0) (sym (live-there ps i there.0 there.1) ∙ x.0.filled i within)) is, x.1, x.2)

pub outline-whole : (o : Outline) (ps qs : List (Value × Value)) (v : Value) (live holes : List Bool) (b : Bool) → IsOutline o ps live holes → is_nil v ≡ false
    → (b ≡ true → IsRenewed ps qs v) → (b ≡ false → qs ≡ ps) → IsOutline o qs live holes
outline-whole o ps qs v live holes true x is renewed kept = let r = renewed refl in rw r.is (outline-renewed o ps r.index v r.before live holes x r.there r.live is)
outline-whole o ps qs v live holes false x is renewed kept = rw (kept refl) x

lives-push : (ps : List (Value × Value)) (key v : Value) (k : ℕ) → is_nil v ≡ false → ((j : ℕ) → j < length ps → flag_at (lives ps) j ≡ true) → k < length ps + 1
    → flag_at (lives (ps ++ (key, v) ∷ [])) k ≡ true
lives-push [] key v zero live all lt = ap not live
lives-push [] key v (suc k) live all lt = absurd (omega arith)
lives-push (p ∷ ps) key v zero live all lt = all 0 (omega arith)
lives-push (p ∷ ps) key v (suc k) live all lt = lives-push ps key v k live (λ j within. all (suc j) (omega arith)) (omega arith)

length-push : (ps : List (Value × Value)) (p : Value × Value) → length (ps ++ p ∷ []) ≡ length ps + 1
length-push [] p = refl
length-push (q ∷ ps) p = omega (arith, length-push ps p)

pub full-pushed : (ps : List (Value × Value)) (key v : Value) → IsFull ps → is_nil v ≡ false → IsInOrder (ps ++ (key, v) ∷ []) (length (ps ++ (key, v) ∷ []))
    → IsFull (ps ++ (key, v) ∷ [])
full-pushed ps key v full live ordered = record {
  ordered = ordered;
  filled = λ k lt. lives-push ps key v k live full.filled (omega (arith, length-push ps (key, v)));
}

-- a walk
pub walk-here : (ps : List (Value × Value)) (from index : ℕ) (w : Value) → from ≤ index → ((k : ℕ) → from ≤ k → k < index → flag_at (lives ps) k ≡ false)
    → slice_get (values_of ps) index ≡ Some w → is_nil w ≡ false → slice_get ps index ≡ first_live (drop from ps)
walk-here ps from index w le none at live =
    sym (live-first ps from index (record { later = le; stands = live-there ps index w at ∙ ap not live; before = none }))

pub walk-none : (ps : List (Value × Value)) (from : ℕ) → ((k : ℕ) → from ≤ k → k < length ps → flag_at (lives ps) k ≡ false) → None ≡ first_live (drop from ps)
walk-none ps from none = sym (live-none ps from (λ k a. elim (cases_lt k (length ps)) [
  | inl lt ↦ none k a lt
  | inr le ↦ live-beyond ps k le
]))

pub walk-more : (ps : List (Value × Value)) (from index : ℕ) (w : Value) → ((k : ℕ) → from ≤ k → k < index → flag_at (lives ps) k ≡ false)
    → slice_get (values_of ps) index ≡ Some w → is_nil w ≡ true → (k : ℕ) → from ≤ k → k < index + 1 → flag_at (lives ps) k ≡ false
walk-more ps from index w none at nil k le lt = elim (cases_lt k index) [
  | inl before ↦ none k le before
  | inr last ↦ let here : k ≡ index = omega arith in ap (flag_at (lives ps)) here ∙ live-there ps index w at ∙ ap not nil
]

pub walk-stops : (ps : List (Value × Value)) (j : ℕ) → ((k : ℕ) → k < j → is_nil (value_at ps (number (k + 1))) ≡ false) → is_nil (value_at ps (number (j + 1))) ≡ true → j < length ps
    → j ≡ border_of ps
walk-stops ps j full hole lt = sym (border-stop ps 0 (length ps) j (omega arith) (omega arith) hole (λ k c d. full k d))

pub walk-ends : (ps : List (Value × Value)) → ((k : ℕ) → k < length ps → is_nil (value_at ps (number (k + 1))) ≡ false) → length ps ≡ border_of ps
walk-ends ps full = sym (border-all ps 0 (length ps) (λ k c d. full k (omega arith)) ∙ omega arith)

-- a border by flags
pub flagged-border : (ps : List (Value × Value)) (holes : List Bool) (r : Option ℕ) (n : ℕ) → ((k : ℕ) → flag_at holes k ≡ is_hole (length ps) ps k) → IsFirstFrom holes 0 r → n ≡ length ps
    → unwrap_or r n ≡ border_of ps
flagged-border ps holes (Some j) n are first e = sym (border-some ps holes j are first)
flagged-border ps holes None n are none e = e ∙ sym (border-none ps holes are none)

-- a pair that is put last is a value at a new key
pub put-last : (ps : List (Value × Value)) (key v : Value) → has_entry ps key ≡ false → is_nil v ≡ false → ps ++ (key, v) ∷ [] ≡ with_value ps key v
put-last ps key v absent live = pushed-insert ps key v absent ∙ insert-with ps key v (inl live)

-- what follows from a success
pub on_ok : {A B : Type 0} {P Q : Type 0} (r : Result A B) → (P → Q) → OnOk r P → OnOk r Q
on_ok (Ok a) f p = f p
on_ok (Err b) f p = tt

pub on_both : {A B : Type 0} {P Q R : Type 0} (r : Result A B) → (P → Q → R) → OnOk r P → OnOk r Q → OnOk r R
on_both (Ok a) f p q = f p q
on_both (Err b) f p q = tt
