-- A table's pairs and the flags beside them.
use Rattle.std.proofs.Common.{◌≡◌, ◌≢◌, ℕ, zero, suc, ◌+◌, ◌<◌, ◌≤◌, nat_lt, Bool, true, false, not, ◌&&◌, ◌||◌, List, [], ◌∷◌, ◌++◌, length, drop, slice_get, slice_set, position, Option, None, Some, refl, sym, ap, subst, ◌∙◌, inl, inr, if◌then◌else◌, true≢false, arith}
use Rattle.std.specs.Map.{keys_of, values_of}
use Rattle.std.specs.List.{position_or_len}
use Rattle.std.proofs.lemmas.Bool.{cases_lt, cases_eq, lt-ltb, le-ltb, ltb-true, not-true, not-false, and_parts}
use Rattle.std.proofs.lemmas.List.{length-set, get_or-set_same, get_or-set_other}
use Rattle.indexmap.specs.IndexMap.{insert_entry, set_value_at}
use Rattle.std.proofs.lemmas.Option.{none-some, same_Some}
use Rattle.lua_values.specs.declared.values.Value.{Value}
use Rattle.lua_values.specs.Values.{same, is_nil, number}
use Rattle.lua_values.specs.Pairs.{value_at, has_entry, first_live}
use Rattle.lua_values.specs.Border.{border_from, border_of}
use Rattle.lua_values.specs.Flags.{flag_at, IsFirstAt, IsFirstFrom, with_flag}
use Rattle.lua_values.specs.TableFlags.{lives, is_hole, IsIndexed, IsHoleOf}
use Rattle.lua_values.proofs.BorderLemmas.{same-true, other-number}
use Rattle.lua_values.proofs.PairLemmas.{insert-length}
use Rattle.lua_values.proofs.EntryLemmas.{same-refl, index-has}
use Rattle.indexmap.proofs.MapLemmas.{Found-position}

-- what stands at keys once one is set
pub value_at-set : (ps : List (Value × Value)) (k v : Value) → value_at (insert_entry same ps k v) k ≡ v
value_at-set [] k v = rw (same-refl k) refl
value_at-set (p ∷ ps) k v = by (same k p.0) refl (value_at-set ps k v)
  where
    by : (b : Bool) → same k p.0 ≡ b → value_at (insert_entry same ps k v) k ≡ v → value_at (if b then (p.0, v) ∷ ps else p ∷ insert_entry same ps k v) k ≡ v
    by true e rest = rw e refl
    by false e rest = rw e rest

pub value_at-other : (ps : List (Value × Value)) (k v other : Value) → same other k ≡ false → value_at (insert_entry same ps k v) other ≡ value_at ps other
value_at-other [] k v other n = rw n refl
value_at-other (p ∷ ps) k v other n = by (same k p.0) refl (value_at-other ps k v other n)
  where
    by : (b : Bool) → same k p.0 ≡ b → value_at (insert_entry same ps k v) other ≡ value_at ps other
        → value_at (if b then (p.0, v) ∷ ps else p ∷ insert_entry same ps k v) other ≡ (if same other p.0 then p.1 else value_at ps other)
    by true e rest = let apart : same other p.0 ≡ false = ap (same other) (sym (same-true k p.0 e)) ∙ n in rw apart refl
    by false e rest = ap (λ x. if same other p.0 then p.1 else x) rest

-- which pairs live once a key is set
pub lives-set : (ps : List (Value × Value)) (k v : Value) → has_entry ps k ≡ true
    → lives (insert_entry same ps k v) ≡ slice_set (lives ps) (position_or_len (same k) (keys_of ps)) (not (is_nil v))
lives-set [] k v h = absurd (true≢false (sym h))
lives-set (p ∷ ps) k v h = by (same k p.0) (λ e. lives-set ps k v (sym (ap (λ b. b || has_entry ps k) e) ∙ h))
  where
    by : (b : Bool) → (b ≡ false → lives (insert_entry same ps k v) ≡ slice_set (lives ps) (position_or_len (same k) (keys_of ps)) (not (is_nil v)))
        → lives (if b then (p.0, v) ∷ ps else p ∷ insert_entry same ps k v)
        ≡ slice_set (not (is_nil p.1) ∷ lives ps) (if not b then 1 + position_or_len (same k) (keys_of ps) else 0) (not (is_nil v))
    by true rest = refl
    by false rest =
        let e : 1 + position_or_len (same k) (keys_of ps) ≡ suc (position_or_len (same k) (keys_of ps)) = omega arith in
        rw e (ap (λ xs. not (is_nil p.1) ∷ xs) (rest refl))

pub lives-new : (ps : List (Value × Value)) (k v : Value) → has_entry ps k ≡ false → lives (insert_entry same ps k v) ≡ lives ps ++ not (is_nil v) ∷ []
lives-new [] k v h = refl
lives-new (p ∷ ps) k v h = by (same k p.0) refl (lives-new ps k v)
  where
    by : (b : Bool) → same k p.0 ≡ b → (has_entry ps k ≡ false → lives (insert_entry same ps k v) ≡ lives ps ++ not (is_nil v) ∷ [])
        → lives (if b then (p.0, v) ∷ ps else p ∷ insert_entry same ps k v) ≡ not (is_nil p.1) ∷ (lives ps ++ not (is_nil v) ∷ [])
    by true e rest = absurd (true≢false (sym (ap (λ b. b || has_entry ps k) e) ∙ h))
    by false e rest = ap (λ xs. not (is_nil p.1) ∷ xs) (rest (sym (ap (λ b. b || has_entry ps k) e) ∙ h))

pub length-new : (ps : List (Value × Value)) (k v : Value) → has_entry ps k ≡ false → length (insert_entry same ps k v) ≡ length ps + 1
length-new [] k v h = refl
length-new (p ∷ ps) k v h = by (same k p.0) refl (length-new ps k v)
  where
    by : (b : Bool) → same k p.0 ≡ b → (has_entry ps k ≡ false → length (insert_entry same ps k v) ≡ length ps + 1)
        → length (if b then (p.0, v) ∷ ps else p ∷ insert_entry same ps k v) ≡ suc (length ps) + 1
    by true e rest = absurd (true≢false (sym (ap (λ b. b || has_entry ps k) e) ∙ h))
    by false e rest = let more = rest (sym (ap (λ b. b || has_entry ps k) e) ∙ h) in omega arith

-- two lists of flags agree still once one is set in both
pub set-agree : (xs ys : List Bool) (i : ℕ) (b : Bool) → i < length xs → i < length ys → ((k : ℕ) → flag_at xs k ≡ flag_at ys k)
    → (k : ℕ) → flag_at (slice_set xs i b) k ≡ flag_at (slice_set ys i b) k
set-agree xs ys i b lx ly same k = elim (cases_eq k i) [
  | inl e ↦ subst (λ j. flag_at (slice_set xs i b) j ≡ flag_at (slice_set ys i b) j) (sym e) (get_or-set_same xs i b false lx ∙ sym (get_or-set_same ys i b false ly))
  | inr n ↦ get_or-set_other xs i k b false n ∙ same k ∙ sym (get_or-set_other ys i k b false n)
]

-- a flag that stands after the last of the other list
pub push-agree : (xs ys : List Bool) (b : Bool) → length ys < length xs → ((k : ℕ) → flag_at xs k ≡ flag_at ys k)
    → (k : ℕ) → flag_at (slice_set xs (length ys) b) k ≡ flag_at (ys ++ b ∷ []) k
push-agree xs ys b lt same k = elim (cases_eq k (length ys)) [
  | inl e ↦ subst (λ j. flag_at (slice_set xs (length ys) b) j ≡ flag_at (ys ++ b ∷ []) j) (sym e) (get_or-set_same xs (length ys) b false lt ∙ sym (pushed-last ys b))
  | inr n ↦ get_or-set_other xs (length ys) k b false n ∙ same k ∙ sym (pushed-other ys b k n)
]
  where
    pushed-last : (ys : List Bool) (b : Bool) → flag_at (ys ++ b ∷ []) (length ys) ≡ b
    pushed-last [] b = refl
    pushed-last (y ∷ ys) b = pushed-last ys b

    pushed-other : (ys : List Bool) (b : Bool) (k : ℕ) → k ≢ length ys → flag_at (ys ++ b ∷ []) k ≡ flag_at ys k
    pushed-other [] b zero n = absurd (n refl)
    pushed-other [] b (suc k) n = refl
    pushed-other (y ∷ ys) b zero n = refl
    pushed-other (y ∷ ys) b (suc k) n = pushed-other ys b k (λ e. n (ap suc e))

-- the holes once a key is set
pub holes-set : (ps : List (Value × Value)) (key v : Value) (n : ℕ) (holes : List Bool) (hole : Option ℕ)
    → ((k : ℕ) → flag_at holes k ≡ is_hole n ps k) → n ≤ length holes → IsHoleOf key n hole
    → (k : ℕ) → flag_at (with_flag holes hole (is_nil v)) k ≡ is_hole n (insert_entry same ps key v) k
holes-set ps key v n holes None are there none k = are k ∙ elim (cases_lt k n) [
  | inl lt ↦ ap (λ x. nat_lt k n && is_nil x) (sym (value_at-other ps key v (number (k + 1)) (none k lt)))
  | inr le ↦ rw (le-ltb k n le) refl
]
holes-set ps key v n holes (Some j) are there at k = elim (cases_eq k j) [
  | inl e ↦ subst (λ i. flag_at (slice_set holes j (is_nil v)) i ≡ is_hole n (insert_entry same ps key v) i) (sym e)
      (get_or-set_same holes j (is_nil v) false (omega (arith, at.0)) ∙ sym (hole_there j at))
  | inr n' ↦ get_or-set_other holes j k (is_nil v) false n' ∙ are k
      ∙ ap (λ x. nat_lt k n && is_nil x) (sym (value_at-other ps key v (number (k + 1)) (ap (same (number (k + 1))) at.1 ∙ other-number (k + 1) (j + 1) (λ e. n' (omega arith)))))
]
  where
    hole_there : (j : ℕ) → (j < n) × (key ≡ number (j + 1)) → is_hole n (insert_entry same ps key v) j ≡ is_nil v
    hole_there j at = rw (lt-ltb j n at.0) (ap (λ x. is_nil (value_at (insert_entry same ps key v) x)) (sym at.1) ∙ ap is_nil (value_at-set ps key v))

-- and once one number more is known
pub holes-more : (ps : List (Value × Value)) (n : ℕ) (holes : List Bool) → ((k : ℕ) → flag_at holes k ≡ is_hole n ps k) → n < length holes
    → (k : ℕ) → flag_at (slice_set holes n (is_nil (value_at ps (number (n + 1))))) k ≡ is_hole (n + 1) ps k
holes-more ps n holes are there k = elim (cases_eq k n) [
  | inl e ↦ subst (λ i. flag_at (slice_set holes n (is_nil (value_at ps (number (n + 1))))) i ≡ is_hole (n + 1) ps i) (sym e)
      (get_or-set_same holes n (is_nil (value_at ps (number (n + 1)))) false there ∙ rw (lt-ltb n (n + 1) (omega arith)) refl)
  | inr apart ↦ get_or-set_other holes n k (is_nil (value_at ps (number (n + 1)))) false apart ∙ are k ∙ elim (cases_lt k n) [
    | inl lt ↦ rw (lt-ltb k n lt, lt-ltb k (n + 1) (omega arith)) refl
    | inr le ↦ rw (le-ltb k n le, le-ltb k (n + 1) (omega arith)) refl
  ]
]

-- the first live pair from an index on, by the flags
pub live-first : (ps : List (Value × Value)) (from index : ℕ) → IsFirstAt (lives ps) from index → first_live (drop from ps) ≡ slice_get ps index
live-first [] from index h = absurd (true≢false (sym h.stands))
live-first (p ∷ ps) zero zero h = rw (not-true (is_nil p.1) h.stands) refl
live-first (p ∷ ps) zero (suc index) h =
    rw (not-false (is_nil p.1) (h.before 0 (omega arith) (omega arith))) (live-first ps 0 index (record { later = omega arith; stands = h.stands; before = λ k le lt. h.before (suc k) (omega arith) (omega arith) }))
live-first (p ∷ ps) (suc from) zero h = absurd (let l = h.later in omega arith)
live-first (p ∷ ps) (suc from) (suc index) h =
    live-first ps from index (record { later = let l = h.later in omega arith; stands = h.stands; before = λ k le lt. h.before (suc k) (omega arith) (omega arith) })

pub live-none : (ps : List (Value × Value)) (from : ℕ) → ((k : ℕ) → from ≤ k → flag_at (lives ps) k ≡ false) → first_live (drop from ps) ≡ None
live-none [] zero h = refl
live-none [] (suc from) h = refl
live-none (p ∷ ps) zero h = rw (not-false (is_nil p.1) (h 0 (omega arith))) (live-none ps 0 (λ k le. h (suc k) (omega arith)))
live-none (p ∷ ps) (suc from) h = live-none ps from (λ k le. h (suc k) (omega arith))

-- the border by the holes
pub border-stop : (ps : List (Value × Value)) (n more j : ℕ) → n ≤ j → j < n + more → is_nil (value_at ps (number (j + 1))) ≡ true
    → ((k : ℕ) → n ≤ k → k < j → is_nil (value_at ps (number (k + 1))) ≡ false) → border_from ps n more ≡ j
border-stop ps n zero j a b hole full = absurd (omega arith)
border-stop ps n (suc more) j a b hole full = elim (cases_eq n j) [
  | inl e ↦ let here : is_nil (value_at ps (number (n + 1))) ≡ true = subst (λ i. is_nil (value_at ps (number (i + 1))) ≡ true) (sym e) hole in rw here e
  | inr apart ↦ rw (full n (omega arith) (omega arith)) (border-stop ps (n + 1) more j (omega arith) (omega arith) hole (λ k c d. full k (omega arith) d))
]

pub border-all : (ps : List (Value × Value)) (n more : ℕ) → ((k : ℕ) → n ≤ k → k < n + more → is_nil (value_at ps (number (k + 1))) ≡ false) → border_from ps n more ≡ n + more
border-all ps n zero full = omega arith
border-all ps n (suc more) full = rw (full n (omega arith) (omega arith)) (border-all ps (n + 1) more (λ k c d. full k (omega arith) (omega arith)) ∙ omega arith)

pub border-none : (ps : List (Value × Value)) (holes : List Bool) → ((k : ℕ) → flag_at holes k ≡ is_hole (length ps) ps k)
    → IsFirstFrom holes 0 None → border_of ps ≡ length ps
border-none ps holes are none =
    border-all ps 0 (length ps) (λ k c d. let off : nat_lt k (length ps) && is_nil (value_at ps (number (k + 1))) ≡ false = sym (are k) ∙ none k (omega arith) in
    sym (ap (λ b. b && is_nil (value_at ps (number (k + 1)))) (lt-ltb k (length ps) (omega arith))) ∙ off) ∙ omega arith

pub border-some : (ps : List (Value × Value)) (holes : List Bool) (j : ℕ) → ((k : ℕ) → flag_at holes k ≡ is_hole (length ps) ps k)
    → IsFirstAt holes 0 j → border_of ps ≡ j
border-some ps holes j are first =
    let at = and_parts (nat_lt j (length ps)) (is_nil (value_at ps (number (j + 1)))) (sym (are j) ∙ first.stands) in
    let within : j < length ps = ltb-true j (length ps) at.0 in
    border-stop ps 0 (length ps) j (omega arith) (omega arith) at.1 (λ k c d. let off : nat_lt k (length ps) && is_nil (value_at ps (number (k + 1))) ≡ false = sym (are k) ∙ first.before k (omega arith) d in
    sym (ap (λ b. b && is_nil (value_at ps (number (k + 1)))) (lt-ltb k (length ps) (omega arith))) ∙ off)

-- the border is no more than there are pairs
pub border_from-most : (ps : List (Value × Value)) (n more : ℕ) → border_from ps n more ≤ n + more
border_from-most ps n zero = omega arith
border_from-most ps n (suc more) = by_hole (is_nil (value_at ps (number (n + 1)))) (border_from-most ps (n + 1) more)
  where
    by_hole : (hole : Bool) → border_from ps (n + 1) more ≤ n + 1 + more → (if hole then n else border_from ps (n + 1) more) ≤ n + suc more
    by_hole true h = omega arith
    by_hole false h = omega (arith, h)

pub border-few : (ps : List (Value × Value)) (entries border : ℕ) → entries ≡ length ps → entries ≤ 32_768 → border ≡ border_of ps → border ≤ 32_768
border-few ps entries border e few is = omega (arith, border_from-most ps 0 (length ps), e, few, is)

pub live-some : (ps : List (Value × Value)) (live : List Bool) → ((k : ℕ) → flag_at live k ≡ flag_at (lives ps) k) → (from index : ℕ) → IsFirstAt live from index
    → first_live (drop from ps) ≡ slice_get ps index
live-some ps live marks from index h =
    live-first ps from index (record { later = h.later; stands = sym (marks index) ∙ h.stands; before = λ k le lt. sym (marks k) ∙ h.before k le lt })

pub live-nowhere : (ps : List (Value × Value)) (live : List Bool) → ((k : ℕ) → flag_at live k ≡ flag_at (lives ps) k) → (from : ℕ) → IsFirstFrom live from None
    → first_live (drop from ps) ≡ None
live-nowhere ps live marks from h = live-none ps from (λ k le. sym (marks k) ∙ h k le)

with_flag-length : (xs : List Bool) (index : Option ℕ) (b : Bool) → length (with_flag xs index b) ≡ length xs
with_flag-length xs None b = refl
with_flag-length xs (Some index) b = length-set xs index b

lives-length : (ps : List (Value × Value)) → length (lives ps) ≡ length ps
lives-length [] = refl
lives-length (p ∷ ps) = ap suc (lives-length ps)

-- the flags once the value at a key is written
pub indexed-write : (ps : List (Value × Value)) (k v : Value) (live holes : List Bool) (i : ℕ) (hole : Option ℕ) → IsIndexed ps live holes
    → position (same k) (keys_of ps) ≡ Some i → IsHoleOf k (length ps) hole
    → IsIndexed (insert_entry same ps k v) (slice_set live i (not (is_nil v))) (with_flag holes hole (is_nil v))
indexed-write ps k v live holes i hole x e at =
    let found = Found-position (same k) ps i e in
    let there = index-has ps k i e in
    let same_length : length (insert_entry same ps k v) ≡ length ps = insert-length ps k v there in
    let set : lives (insert_entry same ps k v) ≡ slice_set (lives ps) i (not (is_nil v)) = lives-set ps k v there ∙ ap (λ n. slice_set (lives ps) n (not (is_nil v))) found.or_len in
    let live_length : length (slice_set live i (not (is_nil v))) ≡ length live = length-set live i (not (is_nil v)) in
    let holes_length : length (with_flag holes hole (is_nil v)) ≡ length holes = with_flag-length holes hole (is_nil v) in
    let a = x.live_there in
    let b = x.holes_there in
    let within : i < length ps = found.within in
    record {
      marks_live = λ j. set-agree live (lives ps) i (not (is_nil v)) (omega arith) (omega (arith, lives-length ps)) x.marks_live j ∙ ap (λ xs. flag_at xs j) (sym set);
      marks_holes = λ j. subst (λ n. flag_at (with_flag holes hole (is_nil v)) j ≡ is_hole n (insert_entry same ps k v) j) (sym same_length) (holes-set ps k v (length ps) holes hole x.marks_holes b at j);
      live_there = omega arith;
      holes_there = omega arith;
    }

-- where something stands before and after, no flag changes
pub same-lives : (ps : List (Value × Value)) (i : ℕ) (v w : Value) → slice_get (values_of ps) i ≡ Some w → is_nil w ≡ false → is_nil v ≡ false
    → lives (set_value_at ps i v) ≡ lives ps
same-lives [] i v w at was is = absurd (none-some w at)
same-lives (p ∷ ps) zero v w at was is = ap (λ b. not b ∷ lives ps) (is ∙ sym (ap is_nil (same_Some p.1 w at) ∙ was))
same-lives (p ∷ ps) (suc i) v w at was is = ap (λ ls. not (is_nil p.1) ∷ ls) (same-lives ps i v w at was is)

same-nil : (ps : List (Value × Value)) (i : ℕ) (v w key : Value) → slice_get (values_of ps) i ≡ Some w → is_nil w ≡ false → is_nil v ≡ false
    → is_nil (value_at (set_value_at ps i v) key) ≡ is_nil (value_at ps key)
same-nil [] i v w key at was is = absurd (none-some w at)
same-nil (p ∷ ps) zero v w key at was is = by (same key p.0)
  where
    by : (b : Bool) → is_nil (if b then v else value_at ps key) ≡ is_nil (if b then p.1 else value_at ps key)
    by true = is ∙ sym (ap is_nil (same_Some p.1 w at) ∙ was)
    by false = refl
same-nil (p ∷ ps) (suc i) v w key at was is = by (same key p.0) (same-nil ps i v w key at was is)
  where
    by : (b : Bool) → is_nil (value_at (set_value_at ps i v) key) ≡ is_nil (value_at ps key)
        → is_nil (if b then p.1 else value_at (set_value_at ps i v) key) ≡ is_nil (if b then p.1 else value_at ps key)
    by true e = refl
    by false e = e

pub length-set-value : (ps : List (Value × Value)) (i : ℕ) (v : Value) → length (set_value_at ps i v) ≡ length ps
length-set-value [] i v = refl
length-set-value (p ∷ ps) zero v = refl
length-set-value (p ∷ ps) (suc i) v = ap suc (length-set-value ps i v)

pub indexed-renewed : (ps : List (Value × Value)) (i : ℕ) (v w : Value) (live holes : List Bool) → IsIndexed ps live holes
    → slice_get (values_of ps) i ≡ Some w → is_nil w ≡ false → is_nil v ≡ false → IsIndexed (set_value_at ps i v) live holes
indexed-renewed ps i v w live holes x at was is =
    let as_long : length (set_value_at ps i v) ≡ length ps = length-set-value ps i v in
    let a = x.live_there in
    let b = x.holes_there in
    record {
      marks_live = λ k. x.marks_live k ∙ ap (λ ls. flag_at ls k) (sym (same-lives ps i v w at was is));
      marks_holes = λ k. x.marks_holes k ∙ ap (λ n. is_hole n ps k) (sym as_long)
          ∙ ap (λ nil. nat_lt k (length (set_value_at ps i v)) && nil) (sym (same-nil ps i v w (number (k + 1)) at was is));
      live_there = omega arith;
      holes_there = omega arith;
    }

-- and once a new key is put last
indexed-last : (ps : List (Value × Value)) (k v : Value) (live live' holes holes' : List Bool) (hole : Option ℕ) → IsIndexed ps live holes
    → has_entry ps k ≡ false → ((j : ℕ) → flag_at live' j ≡ flag_at live j) → ((j : ℕ) → flag_at holes' j ≡ flag_at holes j)
    → length ps < length live' → length ps < length holes' → IsHoleOf k (length ps) hole
    → IsIndexed (insert_entry same ps k v) (slice_set live' (length ps) (not (is_nil v)))
    (slice_set (with_flag holes' hole (is_nil v)) (length ps) (is_nil (value_at (insert_entry same ps k v) (number (length ps + 1)))))
indexed-last ps k v live live' holes holes' hole x absent l h live_there holes_there at =
    let more : length (insert_entry same ps k v) ≡ length ps + 1 = length-new ps k v absent in
    let holes_length : length (with_flag holes' hole (is_nil v)) ≡ length holes' = with_flag-length holes' hole (is_nil v) in
    let set_live : length (slice_set live' (length ps) (not (is_nil v))) ≡ length live' = length-set live' (length ps) (not (is_nil v)) in
    let set_holes : length (slice_set (with_flag holes' hole (is_nil v)) (length ps) (is_nil (value_at (insert_entry same ps k v) (number (length ps + 1))))) ≡ length (with_flag holes' hole (is_nil v))
    = length-set (with_flag holes' hole (is_nil v)) (length ps) (is_nil (value_at (insert_entry same ps k v) (number (length ps + 1)))) in
    let pushed : (j : ℕ) → flag_at (slice_set live' (length (lives ps)) (not (is_nil v))) j ≡ flag_at (lives ps ++ not (is_nil v) ∷ []) j
    = push-agree live' (lives ps) (not (is_nil v)) (omega (arith, lives-length ps)) (λ j. l j ∙ x.marks_live j) in
    let set : (j : ℕ) → flag_at (with_flag holes' hole (is_nil v)) j ≡ is_hole (length ps) (insert_entry same ps k v) j
    = holes-set ps k v (length ps) holes' hole (λ j. h j ∙ x.marks_holes j) (omega arith) at in
    record {
      marks_live = λ j. subst (λ n. flag_at (slice_set live' n (not (is_nil v))) j ≡ flag_at (lives ps ++ not (is_nil v) ∷ []) j) (lives-length ps) (pushed j)
          ∙ ap (λ xs. flag_at xs j) (sym (lives-new ps k v absent));
      marks_holes = λ j. holes-more (insert_entry same ps k v) (length ps) (with_flag holes' hole (is_nil v)) set (omega arith) j ∙ ap (λ n. is_hole n (insert_entry same ps k v) j) (sym more);
      live_there = omega arith;
      holes_there = omega arith;
    }

-- whose value isn't nil
pub indexed-append : (ps : List (Value × Value)) (k v : Value) (live live' holes holes' : List Bool) (hole : Option ℕ) → IsIndexed ps live holes
    → has_entry ps k ≡ false → is_nil v ≡ false → ((j : ℕ) → flag_at live' j ≡ flag_at live j) → ((j : ℕ) → flag_at holes' j ≡ flag_at holes j)
    → length ps < length live' → length ps < length holes' → IsHoleOf k (length ps) hole
    → IsIndexed (insert_entry same ps k v) (slice_set live' (length ps) true)
    (slice_set (with_flag holes' hole false) (length ps) (is_nil (value_at (insert_entry same ps k v) (number (length ps + 1)))))
indexed-append ps k v live live' holes holes' hole x absent lives l h live_there holes_there at =
    subst (λ nil. IsIndexed (insert_entry same ps k v) (slice_set live' (length ps) (not nil))
    (slice_set (with_flag holes' hole nil) (length ps) (is_nil (value_at (insert_entry same ps k v) (number (length ps + 1)))))) lives
    (indexed-last ps k v live live' holes holes' hole x absent l h live_there holes_there at)
