-- The entries of the pool, and the plain pool that they are.
use Rattle.std.proofs.Common.{◌≡◌, ℕ, nat_eq, Bool, true, false, cond, List, [], ◌∷◌, map, find, is_some, slice_get, Option, Some, None, option_map, refl, sym, ap, ◌∙◌, subst, if◌then◌else◌, zero, suc}
use Rattle.std.proofs.lemmas.Bool.{eqb-true, eq-eqb}
use Rattle.std.proofs.lemmas.Cmp.{nat_eq_equiv, nat_list_eq_equiv}
use Rattle.std.proofs.lemmas.Map.Keys.{IsDistinct-head, IsDistinct-tail, IsDistinct-cons}
use Rattle.std.specs.List.{AllByRecursion, IsDistinct}
use Rattle.std.specs.Map.{keys_of, lookup, remove_entry}
use Rattle.shared_rules.specs.declared.sockets.Idle.{Idle}
use Rattle.shared_rules.specs.Keys.{same_key}
use Rattle.shared_rules.specs.Pool.{of_key, first_of, is_idle, without_socket}
use Rattle.sock_pool.specs.declared.pool.Parked.{Parked}
use Rattle.sock_pool.specs.Keys.{without, left_out}
use Rattle.sock_pool.specs.Kept.{Entry, IsEntry, idle_of}
use Rattle.sock_pool.proofs.Numbers.{without-keys}

abbrev pub is_of : ℕ → Idle → Bool
is_of n i = nat_eq n i.sock

-- the numbers are those of the sockets
pub numbers-are : (es : List Entry) → AllByRecursion IsEntry es → keys_of es ≡ map (λ i. i.sock) (idle_of es)
numbers-are [] a = refl
numbers-are (e ∷ es) a = λ j. a.0.named j ∷ numbers-are es a.1 j

pub removed-is : (n : ℕ) (es : List Entry) → AllByRecursion IsEntry es → idle_of (remove_entry (nat_eq n) es) ≡ without_socket n (idle_of es)
removed-is n [] a = refl
removed-is n (e ∷ es) a = put (nat_eq n e.0) (ap (nat_eq n) (sym a.0.named)) (removed-is n es a.1)
  where
    put : (b : Bool) → nat_eq n e.1.idle.sock ≡ b → idle_of (remove_entry (nat_eq n) es) ≡ without_socket n (idle_of es)
        → idle_of (cond b es (e ∷ remove_entry (nat_eq n) es)) ≡ without_socket n (e.1.idle ∷ idle_of es)
    put true q h = ap (λ b. if b then idle_of es else e.1.idle ∷ without_socket n (idle_of es)) (sym q)
    put false q h = ap (λ l. e.1.idle ∷ l) h ∙ ap (λ b. if b then idle_of es else e.1.idle ∷ without_socket n (idle_of es)) (sym q)

pub found-is : (n : ℕ) (es : List Entry) → AllByRecursion IsEntry es → option_map (λ p. p.idle) (lookup (nat_eq n) es) ≡ find (is_of n) (idle_of es)
found-is n [] a = refl
found-is n (e ∷ es) a = put (nat_eq n e.0) (ap (nat_eq n) (sym a.0.named)) (found-is n es a.1)
  where
    put : (b : Bool) → nat_eq n e.1.idle.sock ≡ b → option_map (λ p. p.idle) (lookup (nat_eq n) es) ≡ find (is_of n) (idle_of es)
        → option_map (λ p. p.idle) (cond b (Some e.1) (lookup (nat_eq n) es)) ≡ find (is_of n) (e.1.idle ∷ idle_of es)
    put true q h = ap (λ b. cond b (Some e.1.idle) (find (is_of n) (idle_of es))) (sym q)
    put false q h = h ∙ ap (λ b. cond b (Some e.1.idle) (find (is_of n) (idle_of es))) (sym q)

-- an entry that is found is one of the entries, with its number
pub entry-of : (n : ℕ) (es : List Entry) (p : Parked) → AllByRecursion IsEntry es → lookup (nat_eq n) es ≡ Some p → IsEntry (n, p)
entry-of n [] p a h = absurd (let f : None ≡ Some p = h in cc)
entry-of n (e ∷ es) p a h = put (entry-of n es p a.1) (nat_eq n e.0) refl h
  where
    put : (lookup (nat_eq n) es ≡ Some p → IsEntry (n, p)) → (b : Bool) → nat_eq n e.0 ≡ b → cond b (Some e.1) (lookup (nat_eq n) es) ≡ Some p → IsEntry (n, p)
    put ih true q h = let f : e.1 ≡ p = cc in let g = eqb-true n e.0 q in subst (λ (x : Entry). IsEntry x) (λ j. (sym g j, f j)) a.0
    put ih false q h = ih h

pub absent-stays : {V : Type 0} (n : ℕ) (es : List (ℕ × V)) → lookup (nat_eq n) es ≡ None → remove_entry (nat_eq n) es ≡ es
absent-stays n [] h = refl
absent-stays {V} n (e ∷ es) h = put (absent-stays n es) (nat_eq n e.0) h
  where
    put : (lookup (nat_eq n) es ≡ None → remove_entry (nat_eq n) es ≡ es) → (b : Bool) → cond b (Some e.1) (lookup (nat_eq n) es) ≡ None → cond b es (e ∷ remove_entry (nat_eq n) es) ≡ e ∷ es
    put ih true h = absurd (let f : Some e.1 ≡ None = h in cc)
    put ih false h = ap (λ l. e ∷ l) (ih h)

pub none-idle : (n : ℕ) (pool : List Idle) → find (is_of n) pool ≡ None → without_socket n pool ≡ pool
none-idle n [] h = refl
none-idle n (i ∷ pool) h = put (none-idle n pool) (nat_eq n i.sock) h
  where
    put : (find (is_of n) pool ≡ None → without_socket n pool ≡ pool) → (b : Bool) → cond b (Some i) (find (is_of n) pool) ≡ None → (if b then pool else i ∷ without_socket n pool) ≡ i ∷ pool
    put ih true h = absurd (let f : Some i ≡ None = h in cc)
    put ih false h = ap (λ l. i ∷ l) (ih h)

pub idle-is : (n : ℕ) (pool : List Idle) → is_some (find (is_of n) pool) ≡ is_idle n pool
idle-is n [] = refl
idle-is n (i ∷ pool) = put (nat_eq n i.sock) (idle-is n pool)
  where
    put : (b : Bool) → is_some (find (is_of n) pool) ≡ is_idle n pool → is_some (cond b (Some i) (find (is_of n) pool)) ≡ (if b then true else is_idle n pool)
    put true h = refl
    put false h = h

pub removed-each : (P : Entry → Type 0) (n : ℕ) (es : List Entry) → AllByRecursion P es → AllByRecursion P (remove_entry (nat_eq n) es)
removed-each P n [] a = tt
removed-each P n (e ∷ es) a = put (nat_eq n e.0) (removed-each P n es a.1)
  where
    put : (b : Bool) → AllByRecursion P (remove_entry (nat_eq n) es) → AllByRecursion P (cond b es (e ∷ remove_entry (nat_eq n) es))
    put true h = a.1
    put false h = (a.0, h)

fewer-apart : (P : ℕ → Type 0) (n : ℕ) (ns : List ℕ) → AllByRecursion P ns → AllByRecursion P (without n ns)
fewer-apart P n [] a = tt
fewer-apart P n (m ∷ ns) a = put (nat_eq n m) (fewer-apart P n ns a.1)
  where
    put : (b : Bool) → AllByRecursion P (without n ns) → AllByRecursion P (if b then ns else m ∷ without n ns)
    put true h = a.1
    put false h = (a.0, h)

fewer-once : (n : ℕ) (ns : List ℕ) → IsDistinct nat_eq ns → IsDistinct nat_eq (without n ns)
fewer-once n [] d = d
fewer-once n (m ∷ ns) d = put (nat_eq n m) (fewer-once n ns (IsDistinct-tail nat_eq m ns d))
  where
    put : (b : Bool) → IsDistinct nat_eq (without n ns) → IsDistinct nat_eq (if b then ns else m ∷ without n ns)
    put true h = IsDistinct-tail nat_eq m ns d
    put false h = IsDistinct-cons nat_eq m (without n ns) (fewer-apart (λ x. nat_eq m x ≡ false) n ns (IsDistinct-head nat_eq m ns d)) h

pub removed-once : {V : Type 0} (n : ℕ) (es : List (ℕ × V)) → IsDistinct nat_eq (keys_of es) → IsDistinct nat_eq (keys_of (remove_entry (nat_eq n) es))
removed-once n es d = subst (IsDistinct nat_eq) (sym (without-keys n es)) (fewer-once n (keys_of es) d)

-- a number that left isn't there
gone-apart : (n : ℕ) (ns : List ℕ) → IsDistinct nat_eq ns → AllByRecursion (λ m. nat_eq n m ≡ false) (without n ns)
gone-apart n [] d = tt
gone-apart n (m ∷ ns) d = put (nat_eq n m) refl (gone-apart n ns (IsDistinct-tail nat_eq m ns d))
  where
    put : (b : Bool) → nat_eq n m ≡ b → AllByRecursion (λ x. nat_eq n x ≡ false) (without n ns) → AllByRecursion (λ x. nat_eq n x ≡ false) (if b then ns else m ∷ without n ns)
    put true q h = subst (λ (k : ℕ). AllByRecursion (λ x. nat_eq k x ≡ false) ns) (sym (eqb-true n m q)) (IsDistinct-head nat_eq m ns d)
    put false q h = (q, h)

pub put-once : {V : Type 0} (n : ℕ) (v : V) (es : List (ℕ × V)) → IsDistinct nat_eq (keys_of es) → IsDistinct nat_eq (keys_of ((n, v) ∷ remove_entry (nat_eq n) es))
put-once n v es d =
    let l = without-keys n es in
    IsDistinct-cons nat_eq n (keys_of (remove_entry (nat_eq n) es)) (subst (AllByRecursion (λ m. nat_eq n m ≡ false)) (sym l) (gone-apart n (keys_of es) d)) (removed-once n es d)

-- the sockets of each key, where one leaves
pub leaves-key : (n : ℕ) (pool : List Idle) (i : Idle) (key : List ℕ) → find (is_of n) pool ≡ Some i
    → left_out i.key n key (map (λ x. x.sock) (of_key key pool)) ≡ map (λ x. x.sock) (of_key key (without_socket n pool))
leaves-key n [] i key h = absurd (let f : None ≡ Some i = h in cc)
leaves-key n (j ∷ pool) i key h = put (leaves-key n pool i key) (nat_eq n j.sock) refl h
  where
    this : (c : Bool) → nat_eq n j.sock ≡ true → same_key key j.key ≡ c → same_key i.key key ≡ c
        → (if same_key i.key key then without n (map (λ x. x.sock) (cond c (j ∷ of_key key pool) (of_key key pool))) else map (λ x. x.sock) (cond c (j ∷ of_key key pool) (of_key key pool))) ≡ map (λ x. x.sock) (of_key key pool)
    this true q k s = ap (λ b. if b then without n (j.sock ∷ map (λ x. x.sock) (of_key key pool)) else j.sock ∷ map (λ x. x.sock) (of_key key pool)) s
        ∙ ap (λ b. if b then map (λ x. x.sock) (of_key key pool) else j.sock ∷ without n (map (λ x. x.sock) (of_key key pool))) q
    this false q k s = ap (λ b. if b then without n (map (λ x. x.sock) (of_key key pool)) else map (λ x. x.sock) (of_key key pool)) s

    cons : (s : Bool) → nat_eq n j.sock ≡ false → (m : List ℕ) → (if s then without n m else m) ≡ map (λ x. x.sock) (of_key key (without_socket n pool))
        → (if s then without n (j.sock ∷ m) else j.sock ∷ m) ≡ j.sock ∷ map (λ x. x.sock) (of_key key (without_socket n pool))
    cons true q m h = ap (λ b. if b then m else j.sock ∷ without n m) q ∙ ap (λ l. j.sock ∷ l) h
    cons false q m h = ap (λ l. j.sock ∷ l) h

    other : (c : Bool) → nat_eq n j.sock ≡ false → left_out i.key n key (map (λ x. x.sock) (of_key key pool)) ≡ map (λ x. x.sock) (of_key key (without_socket n pool))
        → left_out i.key n key (map (λ x. x.sock) (cond c (j ∷ of_key key pool) (of_key key pool))) ≡ map (λ x. x.sock) (cond c (j ∷ of_key key (without_socket n pool)) (of_key key (without_socket n pool)))
    other true q h = cons (same_key i.key key) q (map (λ x. x.sock) (of_key key pool)) h
    other false q h = h

    put : (find (is_of n) pool ≡ Some i → left_out i.key n key (map (λ x. x.sock) (of_key key pool)) ≡ map (λ x. x.sock) (of_key key (without_socket n pool)))
        → (b : Bool) → nat_eq n j.sock ≡ b → cond b (Some j) (find (is_of n) pool) ≡ Some i
        → left_out i.key n key (map (λ x. x.sock) (of_key key (j ∷ pool))) ≡ map (λ x. x.sock) (of_key key (if b then pool else j ∷ without_socket n pool))
    put ih true q h =
        let f : j ≡ i = cc in
        this (same_key key j.key) q refl (nat_list_eq_equiv.symm i.key key ∙ ap (λ (x : Idle). same_key key x.key) (sym f))
    put ih false q h = other (same_key key j.key) q (ih h)

pub map-at : (xs : List Idle) (k : ℕ) → slice_get (map (λ i. i.sock) xs) k ≡ option_map (λ i. i.sock) (slice_get xs k)
map-at [] k = refl
map-at (x ∷ xs) zero = refl
map-at (x ∷ xs) (suc k) = map-at xs k

found-apart : (n m : ℕ) (pool : List Idle) (i : Idle) → AllByRecursion (λ x. nat_eq m x ≡ false) (map (λ x. x.sock) pool) → find (is_of n) pool ≡ Some i → nat_eq m n ≡ false
found-apart n m [] i a h = absurd (let f : None ≡ Some i = h in cc)
found-apart n m (j ∷ pool) i a h = put (found-apart n m pool i a.1) (nat_eq n j.sock) refl h
  where
    put : (find (is_of n) pool ≡ Some i → nat_eq m n ≡ false) → (b : Bool) → nat_eq n j.sock ≡ b → cond b (Some j) (find (is_of n) pool) ≡ Some i → nat_eq m n ≡ false
    put ih true q h = subst (λ (k : ℕ). nat_eq m k ≡ false) (sym (eqb-true n j.sock q)) a.0
    put ih false q h = ih h

-- the first of a key is found by its number
pub first-found : (n : ℕ) (key : List ℕ) (pool : List Idle) → IsDistinct nat_eq (map (λ i. i.sock) pool) → option_map (λ i. i.sock) (first_of key pool) ≡ Some n → find (is_of n) pool ≡ first_of key pool
first-found n key [] d h = refl
first-found n key (j ∷ pool) d h = put (first-found n key pool (IsDistinct-tail nat_eq j.sock (map (λ i. i.sock) pool) d)) (same_key key j.key) h
  where
    later : (o : Option Idle) → first_of key pool ≡ o → find (is_of n) pool ≡ first_of key pool → option_map (λ i. i.sock) (first_of key pool) ≡ Some n → cond (nat_eq n j.sock) (Some j) (find (is_of n) pool) ≡ first_of key pool
    later None e f h = absurd (let g : None ≡ Some n = sym (ap (option_map (λ (i : Idle). i.sock)) e) ∙ h in cc)
    later (Some i) e f h = ap (λ b. cond b (Some j) (find (is_of n) pool)) (nat_eq_equiv.symm n j.sock ∙ found-apart n j.sock pool i (IsDistinct-head nat_eq j.sock (map (λ x. x.sock) pool) d) (f ∙ e)) ∙ f

    put : (option_map (λ i. i.sock) (first_of key pool) ≡ Some n → find (is_of n) pool ≡ first_of key pool) → (c : Bool) → option_map (λ i. i.sock) (slice_get (cond c (j ∷ of_key key pool) (of_key key pool)) 0) ≡ Some n
        → cond (nat_eq n j.sock) (Some j) (find (is_of n) pool) ≡ slice_get (cond c (j ∷ of_key key pool) (of_key key pool)) 0
    put ih true h = let f : j.sock ≡ n = cc in ap (λ b. cond b (Some j) (find (is_of n) pool)) (eq-eqb n j.sock (sym f))
    put ih false h = later (first_of key pool) refl (ih h) h

apart-stays : (n : ℕ) (k : List ℕ) (pool : List Idle) → AllByRecursion (λ m. nat_eq n m ≡ false) (map (λ x. x.sock) pool) → without n (map (λ x. x.sock) (of_key k pool)) ≡ map (λ x. x.sock) (of_key k pool)
apart-stays n k [] a = refl
apart-stays n k (j ∷ pool) a = put (same_key k j.key) (apart-stays n k pool a.1)
  where
    put : (c : Bool) → without n (map (λ x. x.sock) (of_key k pool)) ≡ map (λ x. x.sock) (of_key k pool)
        → without n (map (λ x. x.sock) (cond c (j ∷ of_key k pool) (of_key k pool))) ≡ map (λ x. x.sock) (cond c (j ∷ of_key k pool) (of_key k pool))
    put true h = ap (λ b. if b then map (λ x. x.sock) (of_key k pool) else j.sock ∷ without n (map (λ x. x.sock) (of_key k pool))) a.0 ∙ ap (λ l. j.sock ∷ l) h
    put false h = h

-- the sockets of a key without one, where each is idle once
pub key-without : (n : ℕ) (k : List ℕ) (pool : List Idle) → IsDistinct nat_eq (map (λ x. x.sock) pool) → without n (map (λ x. x.sock) (of_key k pool)) ≡ map (λ x. x.sock) (of_key k (without_socket n pool))
key-without n k [] d = refl
key-without n k (j ∷ pool) d = put (nat_eq n j.sock) refl (key-without n k pool (IsDistinct-tail nat_eq j.sock (map (λ x. x.sock) pool) d))
  where
    this : (c : Bool) → nat_eq n j.sock ≡ true → without n (map (λ x. x.sock) (cond c (j ∷ of_key k pool) (of_key k pool))) ≡ map (λ x. x.sock) (of_key k pool)
    this true q = ap (λ b. if b then map (λ x. x.sock) (of_key k pool) else j.sock ∷ without n (map (λ x. x.sock) (of_key k pool))) q
    this false q = apart-stays n k pool (subst (λ (m : ℕ). AllByRecursion (λ x. nat_eq m x ≡ false) (map (λ x. x.sock) pool)) (sym (eqb-true n j.sock q)) (IsDistinct-head nat_eq j.sock (map (λ x. x.sock) pool) d))

    other : (c : Bool) → nat_eq n j.sock ≡ false → without n (map (λ x. x.sock) (of_key k pool)) ≡ map (λ x. x.sock) (of_key k (without_socket n pool))
        → without n (map (λ x. x.sock) (cond c (j ∷ of_key k pool) (of_key k pool))) ≡ map (λ x. x.sock) (cond c (j ∷ of_key k (without_socket n pool)) (of_key k (without_socket n pool)))
    other true q h = ap (λ b. if b then map (λ x. x.sock) (of_key k pool) else j.sock ∷ without n (map (λ x. x.sock) (of_key k pool))) q ∙ ap (λ l. j.sock ∷ l) h
    other false q h = h

    put : (b : Bool) → nat_eq n j.sock ≡ b → without n (map (λ x. x.sock) (of_key k pool)) ≡ map (λ x. x.sock) (of_key k (without_socket n pool))
        → without n (map (λ x. x.sock) (of_key k (j ∷ pool))) ≡ map (λ x. x.sock) (of_key k (if b then pool else j ∷ without_socket n pool))
    put true q h = this (same_key k j.key) q
    put false q h = other (same_key k j.key) q h
