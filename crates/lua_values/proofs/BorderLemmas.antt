-- The border that is found is the least: as many numbers as there are pairs are enough to try, since each number with a
-- value has a pair of its own.
use Rattle.std.proofs.Common.{◌≡◌, ◌≢◌, ℕ, zero, suc, ◌+◌, ◌<◌, ◌≤◌, Bool, true, false, ◌||◌, List, [], ◌∷◌, length, refl, sym, ap, subst, ◌⊎◌, inl, inr, ◌∙◌, if◌then◌else◌, true≢false, arith, rules}
use Rattle.std.proofs.lemmas.Bool.{cases_Bool, cases_lt}
use Rattle.lua_values.specs.declared.values.Value.{Value}
use Rattle.lua_values.specs.Values.{same, is_nil, number}
use Rattle.lua_values.specs.Pairs.{value_at, has_entry}
use Rattle.lua_values.specs.Border.{border_from, border_of, IsLeastBorder}
use Rattle.lua_values.proofs.PairLemmas.{value_at-absent}

pub same-true : (a b : Value) → same a b ≡ true → a ≡ b
same-true a b h = search rules

same_numbers : (i j : ℕ) → number i ≡ number j → i ≡ j
same_numbers i j h = cc

pub other-number : (i j : ℕ) → i ≢ j → same (number i) (number j) ≡ false
other-number i j h = elim (cases_Bool (same (number i) (number j))) [ inl e ↦ absurd (h (same_numbers i j (same-true (number i) (number j) e))) | inr e ↦ e ]

-- without the first pair of a key
abbrev without : List (Value × Value) → Value → List (Value × Value)
without [] key = []
without (p ∷ ps) key = if same key p.0 then ps else p ∷ without ps key

length-without : (ps : List (Value × Value)) (key : Value) → has_entry ps key ≡ true → length ps ≡ suc (length (without ps key))
length-without [] key h = absurd (true≢false (sym h))
length-without (p ∷ ps) key h = by (same key p.0) (λ e. length-without ps key (sym (ap (λ b. b || has_entry ps key) e) ∙ h))
  where
    by : (b : Bool) → (b ≡ false → length ps ≡ suc (length (without ps key))) → length (p ∷ ps) ≡ suc (length (if b then ps else p ∷ without ps key))
    by true rest = refl
    by false rest = ap suc (rest refl)

-- another key keeps its pair
has-without : (ps : List (Value × Value)) (key other : Value) → same other key ≡ false → has_entry (without ps key) other ≡ has_entry ps other
has-without [] key other n = refl
has-without (p ∷ ps) key other n = by (same key p.0) (λ e. same-true key p.0 e) (has-without ps key other n)
  where
    by : (b : Bool) → (b ≡ true → key ≡ p.0) → has_entry (without ps key) other ≡ has_entry ps other
        → has_entry (if b then ps else p ∷ without ps key) other ≡ (same other p.0 || has_entry ps other)
    by true e rest = ap (λ b. b || has_entry ps other) (sym n ∙ ap (same other) (e refl))
    by false e rest = ap (λ b. same other p.0 || b) rest

-- where 1 to n have entries there are as many pairs
pub many_entries : (n : ℕ) (ps : List (Value × Value)) → ((k : ℕ) → k < n → has_entry ps (number (k + 1)) ≡ true) → n ≤ length ps
many_entries zero ps h = omega arith
many_entries (suc n) ps h =
    let here : has_entry ps (number (n + 1)) ≡ true = h n (omega arith) in
    let rest : n ≤ length (without ps (number (n + 1))) = many_entries n (without ps (number (n + 1))) (λ k lt. has-without ps (number (n + 1)) (number (k + 1)) (other-number (k + 1) (n + 1) (λ e. omega arith)) ∙ h k (omega arith)) in
    omega (arith, length-without ps (number (n + 1)) here)

pub has_if_live : (ps : List (Value × Value)) (key : Value) → is_nil (value_at ps key) ≡ false → has_entry ps key ≡ true
has_if_live ps key h = elim (cases_Bool (has_entry ps key)) [ inl e ↦ e | inr e ↦ absurd (true≢false (sym (value_at-absent ps key e) ∙ h)) ]

-- there is a value at each number up to the border
full-below : (ps : List (Value × Value)) (n more k : ℕ) → n ≤ k → k < border_from ps n more → is_nil (value_at ps (number (k + 1))) ≡ false
full-below ps n zero k a b = absurd (omega arith)
full-below ps n (suc more) k a b = by (is_nil (value_at ps (number (n + 1)))) refl b (λ c d. full-below ps (n + 1) more k c d)
  where
    by : (t : Bool) → is_nil (value_at ps (number (n + 1))) ≡ t → k < (if t then n else border_from ps (n + 1) more)
        → (n + 1 ≤ k → k < border_from ps (n + 1) more → is_nil (value_at ps (number (k + 1))) ≡ false) → is_nil (value_at ps (number (k + 1))) ≡ false
    by true e b rest = absurd (omega arith)
    by false e b rest =
        elim (cases_lt n k) [
          | inl later ↦ rest (omega arith) b
          | inr here ↦ let at : n ≡ k = omega arith in subst (λ m. is_nil (value_at ps (number (m + 1))) ≡ false) at e
        ]

-- and none after it, unless all were tried
ends-or_all : (ps : List (Value × Value)) (n more : ℕ) → (is_nil (value_at ps (number (border_from ps n more + 1))) ≡ true) ⊎ (border_from ps n more ≡ n + more)
ends-or_all ps n zero = inr (omega arith)
ends-or_all ps n (suc more) = by (is_nil (value_at ps (number (n + 1)))) refl (ends-or_all ps (n + 1) more)
  where
    by : (t : Bool) → is_nil (value_at ps (number (n + 1))) ≡ t
        → (is_nil (value_at ps (number (border_from ps (n + 1) more + 1))) ≡ true) ⊎ (border_from ps (n + 1) more ≡ n + 1 + more)
        → (is_nil (value_at ps (number ((if t then n else border_from ps (n + 1) more) + 1))) ≡ true) ⊎ ((if t then n else border_from ps (n + 1) more) ≡ n + suc more)
    by true e rest = inl e
    by false e (inl r) = inl r
    by false e (inr r) = inr (omega arith)

-- a value at each number up to one more than there are pairs
too_many : (ps : List (Value × Value)) → border_of ps ≡ 0 + length ps → is_nil (value_at ps (number (border_of ps + 1))) ≡ false → ⊥
too_many ps all e =
    let live : (k : ℕ) → k < length ps + 1 → is_nil (value_at ps (number (k + 1))) ≡ false = λ k lt.
    elim (cases_lt k (border_of ps)) [
      | inl before ↦ full-below ps 0 (length ps) k (omega arith) before
      | inr last ↦ let at : border_of ps ≡ k = omega arith in subst (λ m. is_nil (value_at ps (number (m + 1))) ≡ false) at e
    ] in
    let most : length ps + 1 ≤ length ps = many_entries (length ps + 1) ps (λ k lt. has_if_live ps (number (k + 1)) (live k lt)) in
    omega arith

pub border_is : (ps : List (Value × Value)) → IsLeastBorder ps (border_of ps)
border_is ps = record { ends = ends; full = λ k lt. full-below ps 0 (length ps) k (omega arith) lt }
  where
    ends : is_nil (value_at ps (number (border_of ps + 1))) ≡ true
    ends = elim (ends-or_all ps 0 (length ps)) [
      | inl e ↦ e
      | inr all ↦ elim (cases_Bool (is_nil (value_at ps (number (border_of ps + 1))))) [
        | inl e ↦ e
        | inr e ↦ absurd (too_many ps all e)
      ]
    ]
