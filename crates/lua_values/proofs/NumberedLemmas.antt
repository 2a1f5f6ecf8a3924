-- Where keys stand among pairs whose first keys are 1, 2, ..
use Rattle.std.proofs.Common.{◌≡◌, ℕ, zero, suc, ◌+◌, ◌-◌, ◌<◌, ◌≤◌, nat_lt, Bool, true, false, not, ◌||◌, List, [], ◌∷◌, ◌++◌, length, slice_get, slice_set, slice_index_or, position, is_some, Option, None, Some, refl, sym, ap, subst, inl, inr, ◌∙◌, if◌then◌else◌, true≢false, arith}
use Rattle.std.proofs.Common.{Vec, Global, vec_len}
use Rattle.std.specs.List.{position_or_len}
use Rattle.std.specs.Map.{keys_of, values_of}
use Rattle.std.proofs.lemmas.Bool.{cases_Bool, cases_lt, lt-ltb, le-ltb}
use Rattle.std.proofs.lemmas.Option.{none-some, same_Some}
use Rattle.indexmap.specs.IndexMap.{insert_entry, set_value_at}
use Rattle.indexmap.proofs.MapLemmas.{Found-position, Missing-position}
use Rattle.lua_values.specs.declared.values.Value.{Value}
use Rattle.lua_values.specs.declared.values.Value.TheVariants.{Text}
use Rattle.lua_values.specs.Values.{same, number}
use Rattle.lua_values.specs.Pairs.{has_entry, link_key, link_of}
use Rattle.lua_values.specs.TableFlags.{IsHoleOf, IsInOrder}
use Rattle.lua_values.specs.Numbered.{numbered_from, passes_at}
use Rattle.lua_values.proofs.BorderLemmas.{other-number, same-true}
use Rattle.lua_values.proofs.EntryLemmas.{same-refl, same-symm, index-there}

-- how many values a vector has
pub counted : (n : ℕ) (v : Vec Value Global) → n ≡ vec_len v → n ≡ length v.items
counted n v e = e ∙ omega (arith, v.ok)

length-keys : (ps : List (Value × Value)) → length (keys_of ps) ≡ length ps
length-keys [] = refl
length-keys (p ∷ ps) = ap suc (length-keys ps)

-- an index by how many keys come before
by-or_len : (t : Value → Bool) (ps : List (Value × Value)) (i : ℕ) → position_or_len t (keys_of ps) ≡ i → i < length ps → position t (keys_of ps) ≡ Some i
by-or_len t ps i e lt =
    ap (λ n. if nat_lt n (length (keys_of ps)) then Some n else None) e
    ∙ ap (λ b. if b then Some i else None) (lt-ltb i (length (keys_of ps)) (omega (arith, length-keys ps)))

none-by-or_len : (t : Value → Bool) (ps : List (Value × Value)) → position_or_len t (keys_of ps) ≡ length ps → position t (keys_of ps) ≡ None
none-by-or_len t ps e =
    ap (λ n. if nat_lt n (length (keys_of ps)) then Some n else None) e
    ∙ ap (λ b. if b then Some (length ps) else None) (le-ltb (length ps) (length (keys_of ps)) (omega (arith, length-keys ps)))

-- pairs that are looked through from the first on
or_len-some : (t : Value → Bool) (ps : List (Value × Value)) (i : ℕ) → ((k : ℕ) → k < i → passes_at t ps k ≡ false) → passes_at t ps i ≡ true
    → position_or_len t (keys_of ps) ≡ i
or_len-some t [] i none here = absurd (true≢false (sym here))
or_len-some t (p ∷ ps) zero none here = rw here refl
or_len-some t (p ∷ ps) (suc i) none here =
    let first : t p.0 ≡ false = none 0 (omega arith) in
    let rest : position_or_len t (keys_of ps) ≡ i = or_len-some t ps i (λ k lt. none (suc k) (omega arith)) here in
    rw first (omega (arith, rest))

or_len-none : (t : Value → Bool) (ps : List (Value × Value)) → ((k : ℕ) → k < length ps → passes_at t ps k ≡ false) → position_or_len t (keys_of ps) ≡ length ps
or_len-none t [] none = refl
or_len-none t (p ∷ ps) none =
    let first : t p.0 ≡ false = none 0 (omega arith) in
    let rest : position_or_len t (keys_of ps) ≡ length ps = or_len-none t ps (λ k lt. none (suc k) (omega arith)) in
    rw first (omega (arith, rest))

passes-within : (t : Value → Bool) (ps : List (Value × Value)) (i : ℕ) → passes_at t ps i ≡ true → i < length ps
passes-within t [] i here = absurd (true≢false (sym here))
passes-within t (p ∷ ps) zero here = omega arith
passes-within t (p ∷ ps) (suc i) here = let rest = passes-within t ps i here in omega arith

pub passes-there : (t : Value → Bool) (ps : List (Value × Value)) (i : ℕ) (k v : Value) → slice_get ps i ≡ Some (k, v) → passes_at t ps i ≡ t k
passes-there t [] i k v at = absurd (none-some (k, v) at)
passes-there t (p ∷ ps) zero k v at = ap (λ q. t q.0) (same_Some p (k, v) at)
passes-there t (p ∷ ps) (suc i) k v at = passes-there t ps i k v at

pub passes-nowhere : (t : Value → Bool) (ps : List (Value × Value)) (i : ℕ) → slice_get ps i ≡ None → passes_at t ps i ≡ false
passes-nowhere t [] i at = refl
passes-nowhere t (p ∷ ps) zero at = absurd (none-some p (sym at))
passes-nowhere t (p ∷ ps) (suc i) at = passes-nowhere t ps i at

pub scan-some : (t : Value → Bool) (ps : List (Value × Value)) (i : ℕ) → ((k : ℕ) → k < i → passes_at t ps k ≡ false) → passes_at t ps i ≡ true
    → position t (keys_of ps) ≡ Some i
scan-some t ps i none here = by-or_len t ps i (or_len-some t ps i none here) (passes-within t ps i here)

pub scan-none : (t : Value → Bool) (ps : List (Value × Value)) → ((k : ℕ) → k < length ps → passes_at t ps k ≡ false) → position t (keys_of ps) ≡ None
scan-none t ps none = none-by-or_len t ps (or_len-none t ps none)

-- one key more was looked at
pub scan-more : (t : Value → Bool) (ps : List (Value × Value)) (i : ℕ) → ((k : ℕ) → k < i → passes_at t ps k ≡ false) → passes_at t ps i ≡ false
    → (k : ℕ) → k < i + 1 → passes_at t ps k ≡ false
scan-more t ps i none here k lt = elim (cases_lt k i) [
  | inl before ↦ none k before
  | inr last ↦ let at : k ≡ i = omega arith in ap (passes_at t ps) at ∙ here
]

-- how many pairs there are
length-numbered : (n : ℕ) (vs : List Value) (ps : List (Value × Value)) → length (numbered_from n vs ++ ps) ≡ length vs + length ps
length-numbered n [] ps = omega arith
length-numbered n (v ∷ vs) ps = let rest = length-numbered (n + 1) vs ps in omega (arith, rest)

pub length-all : (vs : List Value) (ps : List (Value × Value)) → length (numbered_from 1 vs ++ ps) ≡ length vs + length ps
length-all vs ps = length-numbered 1 vs ps

-- where a number stands that is among the first, and any other key
or_len-here : (n : ℕ) (vs : List Value) (ps : List (Value × Value)) (j : ℕ) (key : Value) → j < length vs → key ≡ number (n + j)
    → position_or_len (same key) (keys_of (numbered_from n vs ++ ps)) ≡ j
or_len-here n [] ps j key lt is = absurd (omega arith)
or_len-here n (v ∷ vs) ps zero key lt is =
    let at : n + 0 ≡ n = omega arith in
    let here : same key (number n) ≡ true = ap (λ k. same k (number n)) (is ∙ ap number at) ∙ same-refl (number n) in
    rw here refl
or_len-here n (v ∷ vs) ps (suc j) key lt is =
    let at : n + suc j ≡ n + 1 + j = omega arith in
    let first : same key (number n) ≡ false = ap (λ k. same k (number n)) is ∙ other-number (n + suc j) n (λ e. omega arith) in
    let rest : position_or_len (same key) (keys_of (numbered_from (n + 1) vs ++ ps)) ≡ j = or_len-here (n + 1) vs ps j key (omega arith) (is ∙ ap number at) in
    rw first (omega (arith, rest))

or_len-after : (t : Value → Bool) (n : ℕ) (vs : List Value) (ps : List (Value × Value)) → ((k : ℕ) → k < length vs → t (number (n + k)) ≡ false)
    → position_or_len t (keys_of (numbered_from n vs ++ ps)) ≡ length vs + position_or_len t (keys_of ps)
or_len-after t n [] ps none = omega arith
or_len-after t n (v ∷ vs) ps none =
    let at : n ≡ n + 0 = omega arith in
    let first : t (number n) ≡ false = ap (λ m. t (number m)) at ∙ none 0 (omega arith) in
    let later : (k : ℕ) → k < length vs → t (number (n + 1 + k)) ≡ false = λ k lt. (let more : n + 1 + k ≡ n + suc k = omega arith in ap (λ m. t (number m)) more ∙ none (suc k) (omega arith)) in
    let rest : position_or_len t (keys_of (numbered_from (n + 1) vs ++ ps)) ≡ length vs + position_or_len t (keys_of ps) = or_len-after t (n + 1) vs ps later in
    rw first (omega (arith, rest))

pub index-numbered : (vs : List Value) (ps : List (Value × Value)) (j : ℕ) (key : Value) → j < length vs → key ≡ number (j + 1)
    → position (same key) (keys_of (numbered_from 1 vs ++ ps)) ≡ Some j
index-numbered vs ps j key lt is =
    let at : j + 1 ≡ 1 + j = omega arith in
    by-or_len (same key) (numbered_from 1 vs ++ ps) j (or_len-here 1 vs ps j key lt (is ∙ ap number at)) (omega (arith, length-all vs ps))

-- a key that is none of the first numbers
abbrev pub IsNoneOf : Value → ℕ → Type 0
IsNoneOf key n = (k : ℕ) → k < n → same key (number (1 + k)) ≡ false

pub none_of-hole : (key : Value) (n : ℕ) → IsHoleOf key n None → IsNoneOf key n
none_of-hole key n hole k lt =
    let at : 1 + k ≡ k + 1 = omega arith in
    same-symm key (number (1 + k)) ∙ ap (λ m. same (number m) key) at ∙ hole k lt

pub none_of-text : (name : List ℕ) (n : ℕ) → IsNoneOf (Text name) n
none_of-text name n k lt = refl

pub index-after : (vs : List Value) (ps : List (Value × Value)) (key : Value) (i : ℕ) → IsNoneOf key (length vs) → position (same key) (keys_of ps) ≡ Some i
    → position (same key) (keys_of (numbered_from 1 vs ++ ps)) ≡ Some (length vs + i)
index-after vs ps key i none e =
    let found = Found-position (same key) ps i e in
    let within : i < length ps = found.within in
    by-or_len (same key) (numbered_from 1 vs ++ ps) (length vs + i) (or_len-after (same key) 1 vs ps none ∙ ap (λ m. length vs + m) found.or_len) (omega (arith, length-all vs ps))

pub index-nowhere : (vs : List Value) (ps : List (Value × Value)) (key : Value) → IsNoneOf key (length vs) → position (same key) (keys_of ps) ≡ None
    → position (same key) (keys_of (numbered_from 1 vs ++ ps)) ≡ None
index-nowhere vs ps key none e =
    let missing = Missing-position (same key) ps e in
    none-by-or_len (same key) (numbered_from 1 vs ++ ps) (or_len-after (same key) 1 vs ps none ∙ ap (λ m. length vs + m) missing.or_len ∙ sym (length-all vs ps))

-- what stands at an index
pub got : (vs : List Value) (i : ℕ) (d v : Value) → i < length vs → v ≡ slice_index_or vs i d → slice_get vs i ≡ Some v
got [] i d v lt is = absurd (omega arith)
got (w ∷ vs) zero d v lt is = ap Some (sym is)
got (w ∷ vs) (suc i) d v lt is = got vs i d v (omega arith) is

get-left : {X : Type 0} → (xs ys : List X) (i : ℕ) (x : X) → slice_get xs i ≡ Some x → slice_get (xs ++ ys) i ≡ Some x
get-left [] ys i x at = absurd (none-some x at)
get-left (w ∷ xs) ys zero x at = at
get-left (w ∷ xs) ys (suc i) x at = get-left xs ys i x at

get-right : {X : Type 0} → (xs ys : List X) (i : ℕ) → length xs ≤ i → slice_get (xs ++ ys) i ≡ slice_get ys (i - length xs)
get-right [] ys i le = let at : i ≡ i - 0 = omega arith in ap (slice_get ys) at
get-right (w ∷ xs) ys zero le = absurd (omega arith)
get-right (w ∷ xs) ys (suc i) le = let at : i - length xs ≡ suc i - suc (length xs) = omega arith in get-right xs ys i (omega arith) ∙ ap (slice_get ys) at

values-all : (n : ℕ) (vs : List Value) (ps : List (Value × Value)) → values_of (numbered_from n vs ++ ps) ≡ vs ++ values_of ps
values-all n [] ps = refl
values-all n (v ∷ vs) ps = ap (λ xs. v ∷ xs) (values-all (n + 1) vs ps)

pub value-numbered : (vs : List Value) (ps : List (Value × Value)) (i : ℕ) (v : Value) → slice_get vs i ≡ Some v → slice_get (values_of (numbered_from 1 vs ++ ps)) i ≡ Some v
value-numbered vs ps i v at = ap (λ xs. slice_get xs i) (values-all 1 vs ps) ∙ get-left vs (values_of ps) i v at

pub value-other : (vs : List Value) (ps : List (Value × Value)) (i : ℕ) (v : Value) → length vs ≤ i → slice_get (values_of ps) (i - length vs) ≡ Some v
    → slice_get (values_of (numbered_from 1 vs ++ ps)) i ≡ Some v
value-other vs ps i v le at = ap (λ xs. slice_get xs i) (values-all 1 vs ps) ∙ get-right vs (values_of ps) i le ∙ at

pair-from : (n : ℕ) (vs : List Value) (ps : List (Value × Value)) (i : ℕ) (v : Value) → slice_get vs i ≡ Some v
    → slice_get (numbered_from n vs ++ ps) i ≡ Some (number (n + i), v)
pair-from n [] ps i v at = absurd (none-some v at)
pair-from n (w ∷ vs) ps zero v at =
    let e : n ≡ n + 0 = omega arith in
    ap (λ x. Some (number n, x)) (same_Some w v at) ∙ ap (λ m. Some (number m, v)) e
pair-from n (w ∷ vs) ps (suc i) v at =
    let e : n + 1 + i ≡ n + suc i = omega arith in
    pair-from (n + 1) vs ps i v at ∙ ap (λ m. Some (number m, v)) e

pub pair-numbered : (vs : List Value) (ps : List (Value × Value)) (i : ℕ) (v : Value) → slice_get vs i ≡ Some v
    → slice_get (numbered_from 1 vs ++ ps) i ≡ Some (number (i + 1), v)
pair-numbered vs ps i v at = let e : 1 + i ≡ i + 1 = omega arith in pair-from 1 vs ps i v at ∙ ap (λ m. Some (number m, v)) e

pub pair-other : (vs : List Value) (ps : List (Value × Value)) (i : ℕ) → length vs ≤ i → slice_get (numbered_from 1 vs ++ ps) i ≡ slice_get ps (i - length vs)
pair-other vs ps i le = get-right (numbered_from 1 vs) ps i (omega (arith, length-from 1 vs)) ∙ ap (λ n. slice_get ps (i - n)) (length-from 1 vs)
  where
    length-from : (n : ℕ) (vs : List Value) → length (numbered_from n vs) ≡ length vs
    length-from n [] = refl
    length-from n (v ∷ vs) = ap suc (length-from (n + 1) vs)

-- the first keys are in order
key-from : (n : ℕ) (vs : List Value) (ps : List (Value × Value)) (k : ℕ) → k < length vs → slice_get (keys_of (numbered_from n vs ++ ps)) k ≡ Some (number (n + k))
key-from n [] ps k lt = absurd (omega arith)
key-from n (v ∷ vs) ps zero lt = let e : n ≡ n + 0 = omega arith in ap (λ m. Some (number m)) e
key-from n (v ∷ vs) ps (suc k) lt = let e : n + 1 + k ≡ n + suc k = omega arith in key-from (n + 1) vs ps k (omega arith) ∙ ap (λ m. Some (number m)) e

pub first-in_order : (vs : List Value) (ps : List (Value × Value)) → IsInOrder (numbered_from 1 vs ++ ps) (length vs)
first-in_order vs ps k lt = let e : 1 + k ≡ k + 1 = omega arith in key-from 1 vs ps k lt ∙ ap (λ m. Some (number m)) e

pub ordered-alone : (vs : List Value) (ps : List (Value × Value)) → ps ≡ [] → IsInOrder (numbered_from 1 vs ++ ps) (length (numbered_from 1 vs ++ ps))
ordered-alone vs ps none =
    let alone : length vs ≡ length (numbered_from 1 vs ++ ps) = omega (arith, length-all vs ps, ap length none) in
    subst (IsInOrder (numbered_from 1 vs ++ ps)) alone (first-in_order vs ps)

-- the number after them is none of them
has-beyond : (n : ℕ) (vs : List Value) (m : ℕ) → n + length vs ≤ m → has_entry (numbered_from n vs ++ []) (number m) ≡ false
has-beyond n [] m le = refl
has-beyond n (v ∷ vs) m le = rw (other-number m n (λ e. omega arith)) (has-beyond (n + 1) vs m (omega arith))

pub next-absent : (vs : List Value) (ps : List (Value × Value)) (key : Value) → ps ≡ [] → key ≡ number (length vs + 1) → has_entry (numbered_from 1 vs ++ ps) key ≡ false
next-absent vs ps key none is = rw (none, is) (has-beyond 1 vs (length vs + 1) (omega arith))

-- a value that is written at an index
set-from : (n : ℕ) (vs : List Value) (ps : List (Value × Value)) (i : ℕ) (v : Value) → i < length vs
    → set_value_at (numbered_from n vs ++ ps) i v ≡ numbered_from n (slice_set vs i v) ++ ps
set-from n [] ps i v lt = absurd (omega arith)
set-from n (w ∷ vs) ps zero v lt = refl
set-from n (w ∷ vs) ps (suc i) v lt = ap (λ qs. (number n, w) ∷ qs) (set-from (n + 1) vs ps i v (omega arith))

pub set-numbered : (vs : List Value) (ps : List (Value × Value)) (i : ℕ) (v : Value) → i < length vs
    → numbered_from 1 (slice_set vs i v) ++ ps ≡ set_value_at (numbered_from 1 vs ++ ps) i v
set-numbered vs ps i v lt = sym (set-from 1 vs ps i v lt)

set-later : (n : ℕ) (vs : List Value) (ps : List (Value × Value)) (i : ℕ) (v : Value) → length vs ≤ i
    → set_value_at (numbered_from n vs ++ ps) i v ≡ numbered_from n vs ++ set_value_at ps (i - length vs) v
set-later n [] ps i v le = let e : i ≡ i - 0 = omega arith in ap (λ j. set_value_at ps j v) e
set-later n (w ∷ vs) ps zero v le = absurd (omega arith)
set-later n (w ∷ vs) ps (suc i) v le =
    let e : i - length vs ≡ suc i - suc (length vs) = omega arith in
    ap (λ qs. (number n, w) ∷ qs) (set-later (n + 1) vs ps i v (omega arith) ∙ ap (λ j. numbered_from (n + 1) vs ++ set_value_at ps j v) e)

pub set-other : (vs : List Value) (ps : List (Value × Value)) (i : ℕ) (v : Value) → length vs ≤ i
    → numbered_from 1 vs ++ set_value_at ps (i - length vs) v ≡ set_value_at (numbered_from 1 vs ++ ps) i v
set-other vs ps i v le = sym (set-later 1 vs ps i v le)

length-set-value : (ps : List (Value × Value)) (i : ℕ) (v : Value) → length (set_value_at ps i v) ≡ length ps
length-set-value [] i v = refl
length-set-value (p ∷ ps) zero v = refl
length-set-value (p ∷ ps) (suc i) v = ap suc (length-set-value ps i v)

pub few-set : (n : ℕ) (ps : List (Value × Value)) (i : ℕ) (v : Value) → n + length ps ≤ 32_768 → n + length (set_value_at ps i v) ≤ 32_768
few-set n ps i v few = omega (arith, length-set-value ps i v)

pub few-push : (vs : List Value) (v : Value) (n : ℕ) → length vs + n < 32_768 → length (vs ++ v ∷ []) + n ≤ 32_768
few-push vs v n few = omega (arith, length-more vs v)
  where
    length-more : (vs : List Value) (v : Value) → length (vs ++ v ∷ []) ≡ length vs + 1
    length-more [] v = refl
    length-more (w ∷ vs) v = omega (arith, length-more vs v)

-- a pair that is put last
append-nothing : (ps : List (Value × Value)) → ps ++ [] ≡ ps
append-nothing [] = refl
append-nothing (p ∷ ps) = ap (λ qs. p ∷ qs) (append-nothing ps)

append-append : (ps qs rs : List (Value × Value)) → ps ++ (qs ++ rs) ≡ (ps ++ qs) ++ rs
append-append [] qs rs = refl
append-append (p ∷ ps) qs rs = ap (λ ss. p ∷ ss) (append-append ps qs rs)

push-from : (n : ℕ) (vs : List Value) (v : Value) → numbered_from n (vs ++ v ∷ []) ≡ numbered_from n vs ++ (number (n + length vs), v) ∷ []
push-from n [] v = let e : n ≡ n + 0 = omega arith in ap (λ m. (number m, v) ∷ []) e
push-from n (w ∷ vs) v =
    let e : n + 1 + length vs ≡ n + suc (length vs) = omega arith in
    ap (λ qs. (number n, w) ∷ qs) (push-from (n + 1) vs v ∙ ap (λ m. numbered_from (n + 1) vs ++ (number m, v) ∷ []) e)

pub push-numbered : (vs : List Value) (ps : List (Value × Value)) (key v : Value) → ps ≡ [] → key ≡ number (length vs + 1)
    → numbered_from 1 (vs ++ v ∷ []) ++ ps ≡ (numbered_from 1 vs ++ ps) ++ (key, v) ∷ []
push-numbered vs ps key v none is =
    let e : 1 + length vs ≡ length vs + 1 = omega arith in
    rw (none, append-nothing (numbered_from 1 (vs ++ v ∷ [])), append-nothing (numbered_from 1 vs))
    (push-from 1 vs v ∙ ap (λ m. numbered_from 1 vs ++ (number m, v) ∷ []) e ∙ ap (λ k. numbered_from 1 vs ++ (k, v) ∷ []) (sym is))

has-later : (n : ℕ) (vs : List Value) (ps : List (Value × Value)) (key : Value) → has_entry (numbered_from n vs ++ ps) key ≡ false → has_entry ps key ≡ false
has-later n [] ps key none = none
has-later n (v ∷ vs) ps key none = by (same key (number n)) none (has-later (n + 1) vs ps key)
  where
    by : (b : Bool) → (b || has_entry (numbered_from (n + 1) vs ++ ps) key) ≡ false → (has_entry (numbered_from (n + 1) vs ++ ps) key ≡ false → has_entry ps key ≡ false)
        → has_entry ps key ≡ false
    by true off rest = absurd (true≢false off)
    by false off rest = rest off

insert-absent : (ps : List (Value × Value)) (key v : Value) → has_entry ps key ≡ false → insert_entry same ps key v ≡ ps ++ (key, v) ∷ []
insert-absent [] key v none = refl
insert-absent (p ∷ ps) key v none = by (same key p.0) none (insert-absent ps key v)
  where
    by : (b : Bool) → (b || has_entry ps key) ≡ false → (has_entry ps key ≡ false → insert_entry same ps key v ≡ ps ++ (key, v) ∷ [])
        → (if b then (p.0, v) ∷ ps else p ∷ insert_entry same ps key v) ≡ p ∷ (ps ++ (key, v) ∷ [])
    by true off rest = absurd (true≢false off)
    by false off rest = ap (λ qs. p ∷ qs) (rest off)

pub push-other : (vs : List Value) (ps : List (Value × Value)) (key v : Value) → has_entry (numbered_from 1 vs ++ ps) key ≡ false
    → numbered_from 1 vs ++ insert_entry same ps key v ≡ (numbered_from 1 vs ++ ps) ++ (key, v) ∷ []
push-other vs ps key v none =
    ap (λ qs. numbered_from 1 vs ++ qs) (insert-absent ps key v (has-later 1 vs ps key none)) ∙ append-append (numbered_from 1 vs) ps ((key, v) ∷ [])

pub few-insert : (n : ℕ) (ps : List (Value × Value)) (key v : Value) → n + length ps < 32_768 → n + length (insert_entry same ps key v) ≤ 32_768
few-insert n ps key v few = omega (arith, length-insert ps key v)
  where
    length-insert : (ps : List (Value × Value)) (key v : Value) → length (insert_entry same ps key v) ≤ length ps + 1
    length-insert [] key v = omega arith
    length-insert (p ∷ ps) key v = by (same key p.0) (length-insert ps key v)
      where
        by : (b : Bool) → length (insert_entry same ps key v) ≤ length ps + 1 → length (if b then (p.0, v) ∷ ps else p ∷ insert_entry same ps key v) ≤ suc (length ps) + 1
        by true le = omega arith
        by false le = omega (arith, le)

-- a pair that is put last is one at a new key
pub pushed-insert : (ps : List (Value × Value)) (key v : Value) → has_entry ps key ≡ false → ps ++ (key, v) ∷ [] ≡ insert_entry same ps key v
pushed-insert ps key v none = sym (insert-absent ps key v none)

-- where a key stands once a pair is put last
or_len-append : (t : Value → Bool) (ps qs : List (Value × Value)) (i : ℕ) → position_or_len t (keys_of ps) ≡ i → i < length ps → position_or_len t (keys_of (ps ++ qs)) ≡ i
or_len-append t [] qs i e lt = absurd (omega (arith, lt))
or_len-append t (p ∷ ps) qs i e lt = by (t p.0) e (or_len-append t ps qs)
  where
    by : (b : Bool) → (if not b then 1 + position_or_len t (keys_of ps) else 0) ≡ i
        → ((j : ℕ) → position_or_len t (keys_of ps) ≡ j → j < length ps → position_or_len t (keys_of (ps ++ qs)) ≡ j)
        → (if not b then 1 + position_or_len t (keys_of (ps ++ qs)) else 0) ≡ i
    by true e rest = e
    by false e rest =
        let same_place : position_or_len t (keys_of (ps ++ qs)) ≡ position_or_len t (keys_of ps) = rest (position_or_len t (keys_of ps)) refl (omega (arith, e, lt)) in
        ap (λ n. 1 + n) same_place ∙ e

or_len-last : (t : Value → Bool) (ps : List (Value × Value)) (key v : Value) (m : ℕ) → (if not (t key) then 1 else 0) ≡ m → position_or_len t (keys_of ps) ≡ length ps
    → position_or_len t (keys_of (ps ++ (key, v) ∷ [])) ≡ length ps + m
or_len-last t [] key v m is e = by (t key) is
  where
    by : (b : Bool) → (if not b then 1 else 0) ≡ m → (if not b then 1 + 0 else 0) ≡ 0 + m
    by true is = omega (arith, is)
    by false is = omega (arith, is)
or_len-last t (p ∷ ps) key v m is e = by (t p.0) e (or_len-last t ps key v m is)
  where
    by : (b : Bool) → (if not b then 1 + position_or_len t (keys_of ps) else 0) ≡ suc (length ps)
        → (position_or_len t (keys_of ps) ≡ length ps → position_or_len t (keys_of (ps ++ (key, v) ∷ [])) ≡ length ps + m)
        → (if not b then 1 + position_or_len t (keys_of (ps ++ (key, v) ∷ [])) else 0) ≡ suc (length ps) + m
    by true e rest = absurd (omega (arith, e))
    by false e rest = let more : position_or_len t (keys_of (ps ++ (key, v) ∷ [])) ≡ length ps + m = rest (omega (arith, e)) in omega (arith, more)

length-last : (ps : List (Value × Value)) (key v : Value) → length (ps ++ (key, v) ∷ []) ≡ length ps + 1
length-last [] key v = refl
length-last (p ∷ ps) key v = omega (arith, length-last ps key v)

last-other : (t : Value → Bool) (ps : List (Value × Value)) (key v : Value) → t key ≡ false → position t (keys_of (ps ++ (key, v) ∷ [])) ≡ position t (keys_of ps)
last-other t ps key v other = by (position t (keys_of ps)) refl
  where
    by : (r : Option ℕ) → position t (keys_of ps) ≡ r → position t (keys_of (ps ++ (key, v) ∷ [])) ≡ r
    by None e =
        let missing = Missing-position t ps e in
        none-by-or_len t (ps ++ (key, v) ∷ []) (or_len-last t ps key v 1 (rw other refl) missing.or_len ∙ sym (length-last ps key v))
    by (Some i) e =
        let found = Found-position t ps i e in
        let within : i < length ps = found.within in
        by-or_len t (ps ++ (key, v) ∷ []) i (or_len-append t ps ((key, v) ∷ []) i found.or_len within) (omega (arith, within, length-last ps key v))

last-found : (t : Value → Bool) (ps : List (Value × Value)) (key v : Value) → t key ≡ true → position t (keys_of ps) ≡ None → position t (keys_of (ps ++ (key, v) ∷ [])) ≡ Some (length ps)
last-found t ps key v here none =
    let missing = Missing-position t ps none in
    let none_before : position_or_len t (keys_of (ps ++ (key, v) ∷ [])) ≡ length ps + 0 = or_len-last t ps key v 0 (rw here refl) missing.or_len in
    by-or_len t (ps ++ (key, v) ∷ []) (length ps) (omega (arith, none_before)) (omega (arith, length-last ps key v))

nowhere : (r : Option ℕ) → is_some r ≡ false → r ≡ None
nowhere None off = refl
nowhere (Some i) off = absurd (true≢false off)

-- where `__index` stands once a pair is put at a new key
pub link-put : (vs : List Value) (ps : List (Value × Value)) (key v : Value) → has_entry (numbered_from 1 vs ++ ps) key ≡ false
    → link_of (insert_entry same ps key v) ≡ (if same link_key key then Some (length ps) else link_of ps)
link-put vs ps key v none = elim (cases_Bool (same link_key key)) [
  | inl is ↦
      let off : is_some (position (same link_key) (keys_of ps)) ≡ false = index-there ps link_key ∙ ap (has_entry ps) (same-true link_key key is) ∙ absent in
      rw is (placed ∙ last-found (same link_key) ps key v is (nowhere (position (same link_key) (keys_of ps)) off))
  | inr other ↦ rw other (placed ∙ last-other (same link_key) ps key v other)
]
  where
    absent : has_entry ps key ≡ false
    absent = has-later 1 vs ps key none

    placed : link_of (insert_entry same ps key v) ≡ link_of (ps ++ (key, v) ∷ [])
    placed = ap link_of (insert-absent ps key v absent)

-- and a write of a value leaves it there
pub keys-set-value : (ps : List (Value × Value)) (i : ℕ) (v : Value) → keys_of (set_value_at ps i v) ≡ keys_of ps
keys-set-value [] i v = refl
keys-set-value (p ∷ ps) zero v = refl
keys-set-value (p ∷ ps) (suc i) v = ap (λ ks. p.0 ∷ ks) (keys-set-value ps i v)

pub link-set : (ps : List (Value × Value)) (i : ℕ) (v : Value) → link_of (set_value_at ps i v) ≡ link_of ps
link-set ps i v = ap (λ ks. position (same link_key) ks) (keys-set-value ps i v)

-- it is none of the first numbers, and stands within the pairs
pub none_of-link : (n : ℕ) → IsNoneOf link_key n
none_of-link n k lt = refl

pub link-within : (ps : List (Value × Value)) (i : ℕ) → link_of ps ≡ Some i → i < length ps
link-within ps i e = (Found-position (same link_key) ps i e).within
