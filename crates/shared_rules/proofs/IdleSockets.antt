-- Idle sockets of which each is idle once.
use Rattle.std.proofs.Common.{◌≡◌, ℕ, zero, suc, ◌+◌, ◌-◌, ◌≤◌, ◌<◌, ◌==◌, ◌⊎◌, max, nat_eq, nat_le, Bool, true, false, cond, List, [], ◌∷◌, length, map, slice_get, Option, Some, None, option_map, refl, sym, ap, ◌∙◌, inl, inr, arith, rules, subst, if◌then◌else◌}
use Rattle.std.proofs.lemmas.Bool.{eqb-true, eq-eqb}
use Rattle.std.proofs.lemmas.Bool.Decides.{nat_tests}
use Rattle.std.proofs.lemmas.Cmp.{nat_eq_equiv}
use Rattle.std.proofs.lemmas.Map.Keys.{IsDistinct-head, IsDistinct-tail, IsDistinct-cons}
use Rattle.std.specs.List.{AllByRecursion}
use Rattle.shared_rules.specs.declared.sockets.Idle.{Idle}
use Rattle.shared_rules.specs.Keys.{same_key}
use Rattle.shared_rules.specs.Pool.{of_key, count_of, last_of, without_socket, without_any, crowded_out, kept_in, IsOnce}
use Rattle.shared_rules.specs.KeyLaws.{same_key-eq}

abbrev socks : List Idle → List ℕ
socks pool = map (λ i. i.sock) pool

fewer-socks : (P : ℕ → Type 0) (n : ℕ) (pool : List Idle) → AllByRecursion P (socks pool) → AllByRecursion P (socks (without_socket n pool))
fewer-socks P n [] a = tt
fewer-socks P n (i ∷ pool) a = put (n == i.sock) (fewer-socks P n pool a.1)
  where
    put : (b : Bool) → AllByRecursion P (socks (without_socket n pool)) → AllByRecursion P (socks (if b then pool else i ∷ without_socket n pool))
    put true h = a.1
    put false h = (a.0, h)

pub without-once : (n : ℕ) (pool : List Idle) → IsOnce pool → IsOnce (without_socket n pool)
without-once n [] d = d
without-once n (i ∷ pool) d = put (n == i.sock) (without-once n pool (IsDistinct-tail nat_eq i.sock (socks pool) d))
  where
    put : (b : Bool) → IsOnce (without_socket n pool) → IsOnce (if b then pool else i ∷ without_socket n pool)
    put true h = IsDistinct-tail nat_eq i.sock (socks pool) d
    put false h = IsDistinct-cons nat_eq i.sock (socks (without_socket n pool)) (fewer-socks (λ m. nat_eq i.sock m ≡ false) n pool (IsDistinct-head nat_eq i.sock (socks pool) d)) h

-- a socket that left isn't idle
pub without-apart : (n : ℕ) (pool : List Idle) → IsOnce pool → AllByRecursion (λ m. nat_eq n m ≡ false) (socks (without_socket n pool))
without-apart n [] d = tt
without-apart n (i ∷ pool) d = put (n == i.sock) refl (without-apart n pool (IsDistinct-tail nat_eq i.sock (socks pool) d))
  where
    put : (b : Bool) → (n == i.sock) ≡ b → AllByRecursion (λ m. nat_eq n m ≡ false) (socks (without_socket n pool)) → AllByRecursion (λ m. nat_eq n m ≡ false) (socks (if b then pool else i ∷ without_socket n pool))
    put true q h = subst (λ (k : ℕ). AllByRecursion (λ m. nat_eq k m ≡ false) (socks pool)) (sym (eqb-true n i.sock q)) (IsDistinct-head nat_eq i.sock (socks pool) d)
    put false q h = (q, h)

any-once : (o : Option ℕ) (pool : List Idle) → IsOnce pool → IsOnce (without_any o pool)
any-once None pool d = d
any-once (Some n) pool d = without-once n pool d

any-socks : (P : ℕ → Type 0) (o : Option ℕ) (pool : List Idle) → AllByRecursion P (socks pool) → AllByRecursion P (socks (without_any o pool))
any-socks P None pool a = a
any-socks P (Some n) pool a = fewer-socks P n pool a

pub kept-once : (size : ℕ) (i : Idle) (pool : List Idle) → IsOnce pool → IsOnce (kept_in i size pool)
kept-once size i pool d =
    let others = without_socket i.sock pool in
    let o = crowded_out i.key size others in
    IsDistinct-cons nat_eq i.sock (socks (without_any o others)) (any-socks (λ m. nat_eq i.sock m ≡ false) o others (without-apart i.sock pool d)) (any-once o others (without-once i.sock pool d))

count-step : (key : List ℕ) (x : Idle) (b : Bool) (pool : List Idle) → same_key key x.key ≡ b → count_of key (x ∷ pool) ≡ (if b then count_of key pool + 1 else count_of key pool)
count-step key x true pool q = ap (λ b. length (cond b (x ∷ of_key key pool) (of_key key pool))) q ∙ omega arith
count-step key x false pool q = ap (λ b. length (cond b (x ∷ of_key key pool) (of_key key pool))) q

-- no more of a key are left
without-count : (key : List ℕ) (n : ℕ) (pool : List Idle) → count_of key (without_socket n pool) ≤ count_of key pool
without-count key n [] = omega arith
without-count key n (i ∷ pool) = put (n == i.sock) (same_key key i.key) refl (without-count key n pool)
  where
    put : (b c : Bool) → same_key key i.key ≡ c → count_of key (without_socket n pool) ≤ count_of key pool → count_of key (if b then pool else i ∷ without_socket n pool) ≤ count_of key (i ∷ pool)
    put true true q h = let f = count-step key i true pool q in omega arith
    put true false q h = let f = count-step key i false pool q in omega arith
    put false true q h = let f = count-step key i true pool q in let e = count-step key i true (without_socket n pool) q in omega arith
    put false false q h = let f = count-step key i false pool q in let e = count-step key i false (without_socket n pool) q in omega arith

-- a socket is one of these
abbrev IsIn : Idle → List Idle → Type 0
IsIn i [] = ⊥
IsIn i (x ∷ pool) = (x ≡ i) ⊎ IsIn i pool

got-in : (pool : List Idle) (k : ℕ) (i : Idle) → slice_get pool k ≡ Some i → IsIn i pool
got-in [] k i h = absurd (let f : None ≡ Some i = h in cc)
got-in (x ∷ pool) zero i h = inl (let f : x ≡ i = cc in f)
got-in (x ∷ pool) (suc k) i h = inr (got-in pool k i h)

filter-in : (key : List ℕ) (pool : List Idle) (i : Idle) → IsIn i (of_key key pool) → IsIn i pool × (same_key key i.key ≡ true)
filter-in key [] i h = absurd h
filter-in key (x ∷ pool) i h = put (filter-in key pool i) (same_key key x.key) refl h
  where
    put : (IsIn i (of_key key pool) → IsIn i pool × (same_key key i.key ≡ true)) → (b : Bool) → same_key key x.key ≡ b → IsIn i (cond b (x ∷ of_key key pool) (of_key key pool)) → ((x ≡ i) ⊎ IsIn i pool) × (same_key key i.key ≡ true)
    put ih true q (inl e) = (inl e, subst (λ (y : Idle). same_key key y.key ≡ true) e q)
    put ih true q (inr h) = (inr (ih h).0, (ih h).1)
    put ih false q h = (inr (ih h).0, (ih h).1)

in-apart : (n : ℕ) (pool : List Idle) (i : Idle) → AllByRecursion (λ m. nat_eq n m ≡ false) (socks pool) → IsIn i pool → nat_eq n i.sock ≡ false
in-apart n [] i a h = absurd h
in-apart n (x ∷ pool) i a (inl e) = subst (λ (y : Idle). nat_eq n y.sock ≡ false) e a.0
in-apart n (x ∷ pool) i a (inr h) = in-apart n pool i a.1 h

-- one of a key that leaves is one fewer of it
one-fewer : (key : List ℕ) (pool : List Idle) (i : Idle) → IsOnce pool → IsIn i pool → same_key key i.key ≡ true → count_of key (without_socket i.sock pool) + 1 ≡ count_of key pool
one-fewer key [] i d h k = absurd h
one-fewer key (x ∷ pool) i d (inl e) k =
    ap (λ b. count_of key (if b then pool else x ∷ without_socket i.sock pool) + 1) (eq-eqb i.sock x.sock (ap (λ (y : Idle). y.sock) (sym e)))
    ∙ sym (count-step key x true pool (subst (λ (y : Idle). same_key key y.key ≡ true) (sym e) k))
one-fewer key (x ∷ pool) i d (inr h) k =
    ap (λ b. count_of key (if b then pool else x ∷ without_socket i.sock pool) + 1) (nat_eq_equiv.symm i.sock x.sock ∙ in-apart x.sock pool i (IsDistinct-head nat_eq x.sock (socks pool) d) h)
    ∙ put (same_key key x.key) refl (one-fewer key pool i (IsDistinct-tail nat_eq x.sock (socks pool) d) h k)
  where
    put : (b : Bool) → same_key key x.key ≡ b → count_of key (without_socket i.sock pool) + 1 ≡ count_of key pool → count_of key (x ∷ without_socket i.sock pool) + 1 ≡ count_of key (x ∷ pool)
    put true q ih = let e = count-step key x true (without_socket i.sock pool) q in let f = count-step key x true pool q in omega arith
    put false q ih = let e = count-step key x false (without_socket i.sock pool) q in let f = count-step key x false pool q in omega arith

some-at : (xs : List Idle) (k : ℕ) → k < length xs → slice_get xs k ≡ None → ⊥
some-at [] k l e = omega arith
some-at (x ∷ xs) zero l e = let f : Some x ≡ None = e in cc
some-at (x ∷ xs) (suc k) l e = some-at xs k (omega arith) e

-- the last of a key is one of its sockets, if there is one
last-in : (key : List ℕ) (pool : List Idle) → 0 < count_of key pool → (i : Idle) × (last_of key pool ≡ Some i.sock) × IsIn i pool × (same_key key i.key ≡ true)
last-in key pool l = put (slice_get (of_key key pool) (count_of key pool - 1)) refl
  where
    put : (o : Option Idle) → slice_get (of_key key pool) (count_of key pool - 1) ≡ o → (i : Idle) × (last_of key pool ≡ Some i.sock) × IsIn i pool × (same_key key i.key ≡ true)
    put None e = absurd (some-at (of_key key pool) (count_of key pool - 1) (omega arith) e)
    put (Some i) e = let h = filter-in key pool i (got-in (of_key key pool) (count_of key pool - 1) i e) in (i, ap (option_map (λ (y : Idle). y.sock)) e, h.0, h.1)

any-count : (key : List ℕ) (o : Option ℕ) (pool : List Idle) → count_of key (without_any o pool) ≤ count_of key pool
any-count key None pool = omega arith
any-count key (Some n) pool = without-count key n pool

-- one more of its key, where the last of it may be closed
own-few : (size : ℕ) (key : List ℕ) (others : List Idle) → IsOnce others → count_of key others ≤ max 1 size → count_of key (without_any (crowded_out key size others) others) + 1 ≤ max 1 size
own-few size key others d l = put (nat_le (max 1 size) (count_of key others)) refl
  where
    put : (b : Bool) → nat_le (max 1 size) (count_of key others) ≡ b → count_of key (without_any (if b then last_of key others else None) others) + 1 ≤ max 1 size
    put true q =
        let m : max 1 size ≤ count_of key others = search (nat_tests, rules) in
        let h = last-in key others (omega arith) in
        let f = one-fewer key others h.0 d h.2 h.3 in
        subst (λ (o : Option ℕ). count_of key (without_any o others) + 1 ≤ max 1 size) (sym h.1) (omega arith)
    put false q = let m : count_of key others < max 1 size = search (nat_tests, rules) in omega arith

pub kept-few : (size : ℕ) (i : Idle) (pool : List Idle) (key : List ℕ) → IsOnce pool → count_of key pool ≤ max 1 size → count_of key (kept_in i size pool) ≤ max 1 size
kept-few size i pool key d l = put (same_key key i.key) refl
  where
    put : (b : Bool) → same_key key i.key ≡ b → count_of key (kept_in i size pool) ≤ max 1 size
    put true q =
        let k = same_key-eq key i.key q in
        let m = without-count key i.sock pool in
        let e = count-step key i true (without_any (crowded_out i.key size (without_socket i.sock pool)) (without_socket i.sock pool)) q in
        let o = own-few size i.key (without_socket i.sock pool) (without-once i.sock pool d) (subst (λ (x : List ℕ). count_of x (without_socket i.sock pool) ≤ max 1 size) k (omega arith)) in
        let p : count_of key (without_any (crowded_out i.key size (without_socket i.sock pool)) (without_socket i.sock pool)) + 1 ≤ max 1 size = subst (λ (x : List ℕ). count_of x (without_any (crowded_out i.key size (without_socket i.sock pool)) (without_socket i.sock pool)) + 1 ≤ max 1 size) (sym k) o in
        omega arith
    put false q =
        let m = without-count key i.sock pool in
        let a = any-count key (crowded_out i.key size (without_socket i.sock pool)) (without_socket i.sock pool) in
        let e = count-step key i false (without_any (crowded_out i.key size (without_socket i.sock pool)) (without_socket i.sock pool)) q in
        omega arith
