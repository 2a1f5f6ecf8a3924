-- Values that move by one number within the entries of a table.
use Rattle.std.proofs.Common.{◌≡◌, ◌≢◌, ℕ, zero, suc, ◌+◌, ◌-◌, ◌<◌, ◌≤◌, Bool, true, false, not, ◌||◌, List, [], ◌∷◌, slice_get, Some, refl, sym, ap, subst, ◌∙◌, if◌then◌else◌, true≢false, arith}
use Rattle.std.specs.Map.{keys_of}
use Rattle.std.proofs.lemmas.Option.{none-some, same_Some}
use Rattle.lua_values.specs.declared.values.Value.{Value}
use Rattle.lua_values.specs.declared.values.Value.TheVariants.{Nil}
use Rattle.lua_values.specs.declared.shifts.Shift.{Shift}
use Rattle.lua_values.specs.Values.{same, is_nil, number}
use Rattle.lua_values.specs.Pairs.{value_at, has_entry, with_value, needs_entry}
use Rattle.lua_values.specs.TableFlags.{IsInOrder}
use Rattle.lua_values.specs.Shifts.{IsShift, HasSources, moves, place, moved, shifted_first, shifted, entries_first}
use Rattle.lua_values.proofs.BorderLemmas.{same-true, other-number}
use Rattle.lua_values.proofs.EntryLemmas.{same-refl}

-- what stands at other keys once one is set
pub value_at-with : (ps : List (Value × Value)) (k v other : Value) → same other k ≡ false → value_at (with_value ps k v) other ≡ value_at ps other
value_at-with [] k v other n = by (is_nil v)
  where
    by : (b : Bool) → value_at (if b then [] else (k, v) ∷ []) other ≡ Nil
    by true = refl
    by false = rw n refl
value_at-with (p ∷ ps) k v other n = by (same k p.0) refl (value_at-with ps k v other n)
  where
    by : (b : Bool) → same k p.0 ≡ b → value_at (with_value ps k v) other ≡ value_at ps other
        → value_at (if b then (p.0, v) ∷ ps else p ∷ with_value ps k v) other ≡ (if same other p.0 then p.1 else value_at ps other)
    by true e rest = let apart : same other p.0 ≡ false = ap (same other) (sym (same-true k p.0 e)) ∙ n in rw apart refl
    by false e rest = ap (λ x. if same other p.0 then p.1 else x) rest

-- an entry stays
pub has_entry-with : (ps : List (Value × Value)) (k v other : Value) → has_entry ps other ≡ true → has_entry (with_value ps k v) other ≡ true
has_entry-with [] k v other h = absurd (true≢false (sym h))
has_entry-with (p ∷ ps) k v other h = by (same k p.0) (has_entry-with ps k v other)
  where
    or-more : (a b c : Bool) → (a || b) ≡ true → (b ≡ true → c ≡ true) → (a || c) ≡ true
    or-more true b c h rest = refl
    or-more false b c h rest = rest h

    by : (b : Bool) → (has_entry ps other ≡ true → has_entry (with_value ps k v) other ≡ true) → has_entry (if b then (p.0, v) ∷ ps else p ∷ with_value ps k v) other ≡ true
    by true rest = h
    by false rest = or-more (same other p.0) (has_entry ps other) (has_entry (with_value ps k v) other) h rest

-- entries of two keys may be set in either order
pub with_value-commute : (ps : List (Value × Value)) (a b v w : Value) → same a b ≡ false → has_entry ps a ≡ true → has_entry ps b ≡ true
    → with_value (with_value ps a v) b w ≡ with_value (with_value ps b w) a v
with_value-commute [] a b v w n ha hb = absurd (true≢false (sym ha))
with_value-commute (p ∷ ps) a b v w n ha hb =
    by (same a p.0) (same b p.0) refl refl (λ e f. with_value-commute ps a b v w n (sym (ap (λ x. x || has_entry ps a) e) ∙ ha) (sym (ap (λ x. x || has_entry ps b) f) ∙ hb))
  where
    by : (x y : Bool) → same a p.0 ≡ x → same b p.0 ≡ y
        → (same a p.0 ≡ false → same b p.0 ≡ false → with_value (with_value ps a v) b w ≡ with_value (with_value ps b w) a v)
        → with_value (if x then (p.0, v) ∷ ps else p ∷ with_value ps a v) b w ≡ with_value (if y then (p.0, w) ∷ ps else p ∷ with_value ps b w) a v
    by true true e f rest = absurd (true≢false (sym (ap (same a) (same-true b p.0 f) ∙ e) ∙ n))
    by true false e f rest = rw (e, f) refl
    by false true e f rest = rw (e, f) refl
    by false false e f rest = rw (e, f) (ap (λ qs. p ∷ qs) (rest e f))

-- a number that stands among the first keys has an entry
has-key : (ps : List (Value × Value)) (i : ℕ) (k : Value) → slice_get (keys_of ps) i ≡ Some k → has_entry ps k ≡ true
has-key [] i k at = absurd (none-some k at)
has-key (p ∷ ps) zero k at = let here : same k p.0 ≡ true = ap (same k) (same_Some p.0 k at) ∙ same-refl k in rw here refl
has-key (p ∷ ps) (suc i) k at = by (same k p.0) (has-key ps i k at)
  where
    by : (b : Bool) → has_entry ps k ≡ true → (b || has_entry ps k) ≡ true
    by true e = refl
    by false e = e

-- so where the numbers of a shift are among them its values stand in entries
pub order-sources : (ps : List (Value × Value)) (shift : Shift) (n : ℕ) → IsInOrder ps n → IsShift shift → shift.to ≤ n → HasSources ps shift
order-sources ps shift n ordered is le i lt = by shift.up
  where
    has-number : (m : ℕ) → 1 ≤ m → m ≤ n → has_entry ps (number m) ≡ true
    has-number m a b =
        let e : m - 1 + 1 ≡ m = omega arith in
        has-key ps (m - 1) (number m) (subst (λ q. slice_get (keys_of ps) (m - 1) ≡ Some (number q)) e (ordered (m - 1) (omega arith)))

    by : (up : Bool) → has_entry ps (number (if up then shift.to + 1 - (i + 1) else shift.from - 1 + (i + 1))) ≡ true
    by true = let a = is.later in let b = is.some in has-number (shift.to + 1 - (i + 1)) (omega arith) (omega arith)
    by false = let a = is.later in let b = is.some in has-number (shift.from - 1 + (i + 1)) (omega arith) (omega arith)

-- the numbers that are written are each another
place-same : (shift : Shift) (i j : ℕ) → IsShift shift → i ≤ moves shift → j ≤ moves shift → place shift i ≡ place shift j → i ≡ j
place-same shift i j is a b = by shift.up
  where
    by : (up : Bool) → (if up then shift.to + 1 - i else shift.from - 1 + i) ≡ (if up then shift.to + 1 - j else shift.from - 1 + j) → i ≡ j
    by true e = let x = is.later in let y = is.some in omega arith
    by false e = omega arith

place-other : (shift : Shift) (i j : ℕ) → IsShift shift → i ≤ moves shift → j ≤ moves shift → i ≢ j → same (number (place shift i)) (number (place shift j)) ≡ false
place-other shift i j is a b n = other-number (place shift i) (place shift j) (λ e. n (place-same shift i j is a b e))

-- where all values stand in entries only the first number that is written may need a new one
pub entries-one : (ps : List (Value × Value)) (shift : Shift) (n : ℕ) → HasSources ps shift → n + 1 ≤ moves shift → entries_first ps shift (n + 1) ≡ entries_first ps shift 1
entries-one ps shift zero has le = refl
entries-one ps shift (suc n) has le =
    let e : suc n + 1 ≡ suc (n + 1) = omega arith in
    let none : needs_entry ps (number (place shift (n + 1))) (moved ps shift (n + 1)) ≡ false = has-no-need (number (place shift (n + 1))) (moved ps shift (n + 1)) (has n (omega arith)) in
    rw (e, none) (ap (λ m. m + 0) (entries-one ps shift n has (omega arith)) ∙ omega arith)
  where
    has-no-need : (k v : Value) → has_entry ps k ≡ true → needs_entry ps k v ≡ false
    has-no-need k v h = by (is_nil v)
      where
        by : (b : Bool) → not (b || has_entry ps k) ≡ false
        by true = refl
        by false = ap not h

-- the pairs once the numbers after the first, up to the n-th, have the values that stood in `ps`
abbrev pub written : List (Value × Value) → List (Value × Value) → Shift → ℕ → List (Value × Value)
written ps qs shift zero = qs
written ps qs shift (suc n) = with_value (written ps qs shift n) (number (place shift (n + 1))) (moved ps shift (n + 1))

has-written : (ps qs : List (Value × Value)) (shift : Shift) (n : ℕ) (k : Value) → has_entry qs k ≡ true → has_entry (written ps qs shift n) k ≡ true
has-written ps qs shift zero k h = h
has-written ps qs shift (suc n) k h = has_entry-with (written ps qs shift n) (number (place shift (n + 1))) (moved ps shift (n + 1)) k (has-written ps qs shift n k h)

-- a number after these may be written before them
written-before : (ps qs : List (Value × Value)) (shift : Shift) (n i : ℕ) (v : Value) → IsShift shift → n < i → i ≤ moves shift
    → ((j : ℕ) → j < i → has_entry qs (number (place shift (j + 1))) ≡ true) → has_entry qs (number (place shift i)) ≡ true
    → written ps (with_value qs (number (place shift i)) v) shift n ≡ with_value (written ps qs shift n) (number (place shift i)) v
written-before ps qs shift zero i v is lt le has last = refl
written-before ps qs shift (suc n) i v is lt le has last =
    ap (λ rs. with_value rs (number (place shift (n + 1))) (moved ps shift (n + 1))) (written-before ps qs shift n i v is (omega arith) le has last)
    ∙ with_value-commute (written ps qs shift n) (number (place shift i)) (number (place shift (n + 1))) v (moved ps shift (n + 1))
    (place-other shift i (n + 1) is le (omega arith) (λ e. omega arith)) (has-written ps qs shift n _ last) (has-written ps qs shift n _ (has n (omega arith)))

-- all of them after the first are the whole shift
written-all : (ps : List (Value × Value)) (shift : Shift) (n : ℕ) → written ps (with_value ps (number (place shift 0)) (moved ps shift 0)) shift n ≡ shifted_first ps shift (n + 1)
written-all ps shift zero = refl
written-all ps shift (suc n) =
    let e : suc n + 1 ≡ suc (n + 1) = omega arith in
    rw e (ap (λ rs. with_value rs (number (place shift (n + 1))) (moved ps shift (n + 1))) (written-all ps shift n))

-- The last numbers are written, and the first; the i after that are still to be. They have their entries, with the values of `ps`.
pub record Carries (ps qs : List (Value × Value)) (shift : Shift) (i : ℕ) : Type 0 where
  pub rest : written ps qs shift i ≡ shifted ps shift
  pub entries : (j : ℕ) → j < i → has_entry qs (number (place shift (j + 1))) ≡ true
  pub values : (j : ℕ) → j < i → value_at qs (number (place shift (j + 1))) ≡ moved ps shift j

pub carries-first : (ps : List (Value × Value)) (shift : Shift) (v : Value) (i : ℕ) → IsShift shift → HasSources ps shift → v ≡ moved ps shift 0 → i + 1 ≡ moves shift
    → Carries ps (with_value ps (number (place shift 0)) v) shift i
carries-first ps shift v i is has e all = rw e (record {
  rest = written-all ps shift i ∙ ap (shifted_first ps shift) all;
  entries = λ j lt. has_entry-with ps (number (place shift 0)) (moved ps shift 0) (number (place shift (j + 1))) (has j (omega arith));
  values = λ j lt. value_at-with ps (number (place shift 0)) (moved ps shift 0) (number (place shift (j + 1))) (place-other shift (j + 1) 0 is (omega arith) (omega arith) (λ q. omega arith));
})

pub carries-next : (ps qs : List (Value × Value)) (shift : Shift) (v : Value) (i : ℕ) → IsShift shift → i + 1 ≤ moves shift → Carries ps qs shift (i + 1) → v ≡ moved ps shift (i + 1)
    → Carries ps (with_value qs (number (place shift (i + 1))) v) shift i
carries-next ps qs shift v i is le x e = rw e (record {
  rest = written-before ps qs shift i (i + 1) (moved ps shift (i + 1)) is (omega arith) le x.entries (x.entries i (omega arith)) ∙ ap (written ps qs shift) (more i) ∙ x.rest;
  entries = λ j lt. has_entry-with qs (number (place shift (i + 1))) (moved ps shift (i + 1)) (number (place shift (j + 1))) (x.entries j (omega arith));
  values = λ j lt. value_at-with qs (number (place shift (i + 1))) (moved ps shift (i + 1)) (number (place shift (j + 1))) (place-other shift (j + 1) (i + 1) is (omega arith) le (λ q. omega arith))
      ∙ x.values j (omega arith);
})
  where
    more : (i : ℕ) → suc i ≡ i + 1
    more i = omega arith
