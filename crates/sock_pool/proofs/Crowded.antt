-- The socket that is crowded out by the one that was put first.
use Rattle.std.proofs.Common.{◌≡◌, ℕ, zero, suc, ◌+◌, ◌-◌, ◌<◌, ◌≤◌, max, nat_eq, nat_le, nat_lt, Bool, true, false, cond, List, [], ◌∷◌, length, map, slice_get, Option, Some, None, option_map, refl, sym, ap, ◌∙◌, subst, arith, rules, if◌then◌else◌}
use Rattle.std.proofs.lemmas.Bool.Decides.{nat_tests}
use Rattle.std.proofs.lemmas.Cmp.{nat_eq_equiv, nat_list_eq_equiv}
use Rattle.std.proofs.lemmas.Map.Keys.{IsDistinct-head}
use Rattle.std.specs.List.{AllByRecursion, IsDistinct}
use Rattle.shared_rules.specs.declared.sockets.Idle.{Idle}
use Rattle.shared_rules.specs.Keys.{same_key}
use Rattle.shared_rules.specs.Pool.{of_key, count_of, last_of, without_socket, without_any, crowded_out}
use Rattle.wakes.specs.Times.{DeadlinesView}
use Rattle.sock_pool.specs.declared.keys.Keys.{Keys}
use Rattle.sock_pool.specs.Keys.{socks_of}
use Rattle.sock_pool.specs.Kept.{Entry, idle_of, IsPooled}
use Rattle.sock_pool.proofs.Entries.{map-at}

one-more : (m c : ℕ) → nat_lt m (c + 1) ≡ nat_le m c
one-more m c = search (nat_tests, rules)

at-most : (x y : ℕ) → nat_le x y ≡ true → x ≤ y
at-most x y h = search (nat_tests, rules)

as-many : (xs : List Idle) → length (map (λ (i : Idle). i.sock) xs) ≡ length xs
as-many [] = refl
as-many (x ∷ xs) = let e = as-many xs in omega arith

last-next : (n : ℕ) (ns : List ℕ) → 0 < length ns → slice_get (n ∷ ns) (length (n ∷ ns) - 1) ≡ slice_get ns (length ns - 1)
last-next n [] l = absurd (omega arith)
last-next n (m ∷ ns) l =
    let e : length (n ∷ m ∷ ns) - 1 ≡ suc (length ns) = omega arith in
    let f : length (m ∷ ns) - 1 ≡ length ns = omega arith in
    ap (slice_get (n ∷ m ∷ ns)) e ∙ sym (ap (slice_get (m ∷ ns)) f)

last-crowded : (n size most : ℕ) (key : List ℕ) (others : List Idle) (socks : List ℕ) → socks ≡ n ∷ map (λ i. i.sock) (of_key key others) → most ≡ max 1 size
    → (if nat_lt most (length socks) then slice_get socks (length socks - 1) else None) ≡ crowded_out key size others
last-crowded n size most key others socks e m =
    ap (λ l. if nat_lt most (length l) then slice_get l (length l - 1) else None) e
    ∙ ap (λ b. if b then slice_get (n ∷ map (λ (i : Idle). i.sock) (of_key key others)) (length (n ∷ map (λ (i : Idle). i.sock) (of_key key others)) - 1) else None) full
    ∙ put (nat_le (max 1 size) (count_of key others)) refl
  where
    full : nat_lt most (length (n ∷ map (λ (i : Idle). i.sock) (of_key key others))) ≡ nat_le (max 1 size) (count_of key others)
    full =
        let c = as-many (of_key key others) in
        let l : length (n ∷ map (λ (i : Idle). i.sock) (of_key key others)) ≡ count_of key others + 1 = omega arith in
        ap (λ x. nat_lt x (length (n ∷ map (λ (i : Idle). i.sock) (of_key key others)))) m ∙ ap (nat_lt (max 1 size)) l ∙ one-more (max 1 size) (count_of key others)

    put : (b : Bool) → nat_le (max 1 size) (count_of key others) ≡ b
        → (if b then slice_get (n ∷ map (λ (i : Idle). i.sock) (of_key key others)) (length (n ∷ map (λ (i : Idle). i.sock) (of_key key others)) - 1) else None) ≡ (if b then last_of key others else None)
    put true q =
        let c = as-many (of_key key others) in
        let g = at-most (max 1 size) (count_of key others) q in
        last-next n (map (λ (i : Idle). i.sock) (of_key key others)) (omega (arith, c, g)) ∙ map-at (of_key key others) (length (map (λ (i : Idle). i.sock) (of_key key others)) - 1)
        ∙ ap (λ x. option_map (λ (i : Idle). i.sock) (slice_get (of_key key others) (x - 1))) c
    put false q = refl

-- the last of the key's sockets, where they are too many with the first
pub crowded-is : (i : Idle) (size most : ℕ) (key : List ℕ) (others : List Idle) (es : List Entry) (keys : Keys) (view : DeadlinesView) → IsPooled es keys view → idle_of es ≡ i ∷ others → key ≡ i.key → most ≡ max 1 size
    → (if nat_lt most (length (socks_of keys key)) then slice_get (socks_of keys key) (length (socks_of keys key) - 1) else None) ≡ crowded_out i.key size others
crowded-is i size most key others es keys view old v k m =
    let b : same_key key i.key ≡ true = ap (same_key key) (sym k) ∙ nat_list_eq_equiv.refl key in
    let e = old.keyed key ∙ ap (λ l. map (λ (x : Idle). x.sock) (of_key key l)) v ∙ ap (λ c. map (λ (x : Idle). x.sock) (cond c (i ∷ of_key key others) (of_key key others))) b in
    last-crowded i.sock size most key others (socks_of keys key) e m ∙ ap (λ x. crowded_out x size others) k

all-at : (P : ℕ → Type 0) (xs : List Idle) (k : ℕ) (j : Idle) → AllByRecursion P (map (λ i. i.sock) xs) → slice_get xs k ≡ Some j → P j.sock
all-at P [] k j a h = absurd (let f : None ≡ Some j = h in cc)
all-at P (x ∷ xs) zero j a h = let f : x ≡ j = cc in subst (λ (y : Idle). P y.sock) f a.0
all-at P (x ∷ xs) (suc k) j a h = all-at P xs k j a.1 h

of-key-all : (P : ℕ → Type 0) (key : List ℕ) (pool : List Idle) → AllByRecursion P (map (λ i. i.sock) pool) → AllByRecursion P (map (λ i. i.sock) (of_key key pool))
of-key-all P key [] a = tt
of-key-all P key (j ∷ pool) a = put (same_key key j.key) (of-key-all P key pool a.1)
  where
    put : (b : Bool) → AllByRecursion P (map (λ i. i.sock) (of_key key pool)) → AllByRecursion P (map (λ i. i.sock) (cond b (j ∷ of_key key pool) (of_key key pool)))
    put true h = (a.0, h)
    put false h = h

-- it isn't the first itself
pub crowded-after : (i : Idle) (key : List ℕ) (size : ℕ) (others : List Idle) → IsDistinct nat_eq (map (λ x. x.sock) (i ∷ others)) → without_any (crowded_out key size others) (i ∷ others) ≡ i ∷ without_any (crowded_out key size others) others
crowded-after i key size others d = put (nat_le (max 1 size) (count_of key others))
  where
    apart : AllByRecursion (λ m. nat_eq i.sock m ≡ false) (map (λ x. x.sock) (of_key key others))
    apart = of-key-all (λ m. nat_eq i.sock m ≡ false) key others (IsDistinct-head nat_eq i.sock (map (λ x. x.sock) others) d)

    last : (o : Option Idle) → slice_get (of_key key others) (count_of key others - 1) ≡ o → without_any (option_map (λ x. x.sock) o) (i ∷ others) ≡ i ∷ without_any (option_map (λ x. x.sock) o) others
    last None e = refl
    last (Some j) e = ap (λ b. if b then others else i ∷ without_socket j.sock others) (nat_eq_equiv.symm j.sock i.sock ∙ all-at (λ m. nat_eq i.sock m ≡ false) (of_key key others) (count_of key others - 1) j apart e)

    put : (b : Bool) → without_any (if b then last_of key others else None) (i ∷ others) ≡ i ∷ without_any (if b then last_of key others else None) others
    put true = last (slice_get (of_key key others) (count_of key others - 1)) refl
    put false = refl
