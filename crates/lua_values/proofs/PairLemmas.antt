-- A table's pairs by the words of the map in which they are kept.
use Rattle.std.proofs.Common.{◌≡◌, ℕ, zero, suc, ◌+◌, Bool, true, false, not, ◌||◌, List, [], ◌∷◌, None, Some, drop, slice_get, position, is_some, IfSome, refl, sym, ap, inl, inr, ◌⊎◌, ◌∙◌, if◌then◌else◌, true≢false, length, arith}
use Rattle.std.specs.List.{position_or_len, AllZip}
use Rattle.std.proofs.lemmas.List.{drop_all}
use Rattle.std.proofs.lemmas.Option.{none-some, same_Some}
use Rattle.std.specs.Map.{keys_of, lookup}
use Rattle.indexmap.specs.IndexMap.{insert_entry}
use Rattle.indexmap.proofs.MapLemmas.{Found-position, Missing-position}
use Rattle.lua_values.specs.declared.values.Value.{Value}
use Rattle.lua_values.specs.declared.values.Value.TheVariants.{Nil}
use Rattle.lua_values.specs.Values.{same, is_nil}
use Rattle.lua_values.specs.Heap.{TableView}
use Rattle.lua_values.specs.Pairs.{value_at, has_entry, with_value, first_live, pairs_after, next_pair}

-- the map has a key exactly where it has an entry
pub lookup-has : (ps : List (Value × Value)) (k : Value) → is_some (lookup (same k) ps) ≡ has_entry ps k
lookup-has [] k = refl
lookup-has (p ∷ ps) k = by (same k p.0) (lookup-has ps k)
  where
    by : (b : Bool) → is_some (lookup (same k) ps) ≡ has_entry ps k → is_some (if b then Some p.1 else lookup (same k) ps) ≡ (b || has_entry ps k)
    by true e = refl
    by false e = e

-- and has the value there
pub lookup-value : (ps : List (Value × Value)) (k : Value) → IfSome (lookup (same k) ps) (λ v. v ≡ value_at ps k)
lookup-value [] k = tt
lookup-value (p ∷ ps) k = by (same k p.0) (lookup-value ps k)
  where
    by : (b : Bool) → IfSome (lookup (same k) ps) (λ v. v ≡ value_at ps k) → IfSome (if b then Some p.1 else lookup (same k) ps) (λ v. v ≡ (if b then p.1 else value_at ps k))
    by true h = refl
    by false h = h

-- inserting sets a value, but for nil at a key without an entry
pub insert-with : (ps : List (Value × Value)) (k v : Value) → (is_nil v ≡ false) ⊎ (has_entry ps k ≡ true) → insert_entry same ps k v ≡ with_value ps k v
insert-with [] k v h = elim h [ inl n ↦ rw n refl | inr e ↦ absurd (true≢false (sym e)) ]
insert-with (p ∷ ps) k v h =
    by (same k p.0) (λ e. insert-with ps k v (elim h [ inl n ↦ inl n | inr q ↦ inr (sym (ap (λ b. b || has_entry ps k) e) ∙ q) ]))
  where
    by : (b : Bool) → (b ≡ false → insert_entry same ps k v ≡ with_value ps k v)
        → (if b then (p.0, v) ∷ ps else p ∷ insert_entry same ps k v) ≡ (if b then (p.0, v) ∷ ps else p ∷ with_value ps k v)
    by true rest = refl
    by false rest = ap (λ l. p ∷ l) (rest refl)

-- nil at a key without an entry changes nothing
pub with_value-absent : (ps : List (Value × Value)) (k v : Value) → is_nil v ≡ true → has_entry ps k ≡ false → with_value ps k v ≡ ps
with_value-absent [] k v n h = rw n refl
with_value-absent (p ∷ ps) k v n h = by (same k p.0) refl (with_value-absent ps k v n)
  where
    by : (b : Bool) → same k p.0 ≡ b → (has_entry ps k ≡ false → with_value ps k v ≡ ps) → (if b then (p.0, v) ∷ ps else p ∷ with_value ps k v) ≡ p ∷ ps
    by true e rest = absurd (true≢false (sym (ap (λ b. b || has_entry ps k) e) ∙ h))
    by false e rest = ap (λ l. p ∷ l) (rest (sym (ap (λ b. b || has_entry ps k) e) ∙ h))

-- what stands after a key by its index
after-drop : (ps : List (Value × Value)) (k : Value) → pairs_after ps k ≡ drop (position_or_len (same k) (keys_of ps) + 1) ps
after-drop [] k = refl
after-drop (p ∷ ps) k = by (same k p.0) (after-drop ps k)
  where
    by : (b : Bool) → pairs_after ps k ≡ drop (position_or_len (same k) (keys_of ps) + 1) ps
        → (if b then ps else pairs_after ps k) ≡ drop ((if not b then 1 + position_or_len (same k) (keys_of ps) else 0) + 1) (p ∷ ps)
    by true h = refl
    by false h =
        let e : 1 + position_or_len (same k) (keys_of ps) + 1 ≡ suc (position_or_len (same k) (keys_of ps) + 1) = omega arith in
        rw e h

pub after-found : (ps : List (Value × Value)) (k : Value) (i : ℕ) → position (same k) (keys_of ps) ≡ Some i → pairs_after ps k ≡ drop (i + 1) ps
after-found ps k i e = after-drop ps k ∙ ap (λ n. drop (n + 1) ps) (Found-position (same k) ps i e).or_len

pub after-missing : (ps : List (Value × Value)) (k : Value) → position (same k) (keys_of ps) ≡ None → pairs_after ps k ≡ []
after-missing ps k e =
    after-drop ps k ∙ ap (λ n. drop (n + 1) ps) (Missing-position (same k) ps e).or_len ∙ drop_all (length ps + 1) ps (omega arith)

-- the same of a whole table
pub table-absent : (t : TableView) (k v : Value) → is_nil v ≡ true → has_entry t.pairs k ≡ false → t ≡ record { pairs = with_value t.pairs k v; meta = t.meta }
table-absent t k v n h = ap (λ ps. record { pairs = ps; meta = t.meta }) (sym (with_value-absent t.pairs k v n h))

-- a key that has an entry takes no new one
pub insert-length : (ps : List (Value × Value)) (k v : Value) → has_entry ps k ≡ true → length (insert_entry same ps k v) ≡ length ps
insert-length [] k v h = absurd (true≢false (sym h))
insert-length (p ∷ ps) k v h = by (same k p.0) (λ e. insert-length ps k v (sym (ap (λ b. b || has_entry ps k) e) ∙ h))
  where
    by : (b : Bool) → (b ≡ false → length (insert_entry same ps k v) ≡ length ps)
        → length (if b then (p.0, v) ∷ ps else p ∷ insert_entry same ps k v) ≡ length (p ∷ ps)
    by true rest = refl
    by false rest = ap suc (rest refl)

-- nothing is at a key without an entry
pub nil-absent : (ps : List (Value × Value)) (k : Value) → has_entry ps k ≡ false → Nil ≡ value_at ps k
nil-absent [] k h = refl
nil-absent (p ∷ ps) k h = by (same k p.0) refl (nil-absent ps k)
  where
    by : (b : Bool) → same k p.0 ≡ b → (has_entry ps k ≡ false → Nil ≡ value_at ps k) → Nil ≡ (if b then p.1 else value_at ps k)
    by true e rest = absurd (true≢false (sym (ap (λ b. b || has_entry ps k) e) ∙ h))
    by false e rest = rest (sym (ap (λ b. b || has_entry ps k) e) ∙ h)

pub value_at-absent : (ps : List (Value × Value)) (k : Value) → has_entry ps k ≡ false → is_nil (value_at ps k) ≡ true
value_at-absent ps k h = sym (ap is_nil (nil-absent ps k h))

-- the first live pair from an index on, by the pair there
pub first_live-drop : (ps : List (Value × Value)) (i : ℕ) (p : Value × Value) → slice_get ps i ≡ Some p
    → first_live (drop i ps) ≡ (if is_nil p.1 then first_live (drop (i + 1) ps) else Some p)
first_live-drop [] i p e = absurd (none-some p e)
first_live-drop (q ∷ ps) zero p e = ap (λ r. if is_nil r.1 then first_live ps else Some r) (same_Some q p e)
first_live-drop (q ∷ ps) (suc i) p e = let more : suc i + 1 ≡ suc (i + 1) = omega arith in rw more (first_live-drop ps i p e)

-- what comes next after a key, by its index
pub next-found : (ps : List (Value × Value)) (k : Value) (i : ℕ) → is_nil k ≡ false → position (same k) (keys_of ps) ≡ Some i
    → first_live (drop (i + 1) ps) ≡ next_pair ps k
next-found ps k i n e = rw (n, after-found ps k i e) refl

pub next-missing : (ps : List (Value × Value)) (k : Value) → is_nil k ≡ false → position (same k) (keys_of ps) ≡ None → None ≡ next_pair ps k
next-missing ps k n e = rw (n, after-missing ps k e) refl

-- a map's clone is the same list
pub clone-same : (ps qs : List (Value × Value)) → AllZip (λ p q. (q.0 ≡ p.0) × (q.1 ≡ p.1)) ps qs → qs ≡ ps
clone-same [] [] h = refl
clone-same [] (q ∷ qs) h = absurd h
clone-same (p ∷ ps) [] h = absurd h
clone-same (p ∷ ps) (q ∷ qs) h = (λ i. (h.0.0 i, h.0.1 i) ∷ clone-same ps qs h.1 i)
