-- How the sockets of strands go on being kept, as one is got or given up.
use Rattle.std.proofs.Common.{◌≡◌, ℕ, ◌==◌, ◌&&◌, nat_eq, Bool, true, false, cond, List, [], ◌∷◌, find, Option, Some, None, if◌then◌else◌, refl, sym, ap, subst, ◌∙◌, ◌⊎◌, inl, inr}
use Rattle.std.proofs.lemmas.Bool.{eq-eqb, eqb-true}
use Rattle.std.specs.Map.{lookup, remove_entry}
use Rattle.resty_base.specs.declared.names.StrandId.{StrandId}
use Rattle.resty_world.specs.Ids.{same_strand}
use Rattle.resty_world.specs.IdLaws.{same_strand-eq}
use Rattle.strand_contract.specs.declared.turns.Place.TheVariants as place
use Rattle.executions.specs.Queues.{only}
use Rattle.executions.specs.Sockets.{Socket, without_held, holder_in}
use Rattle.engine_tables.specs.declared.sockets.Socket.{Socket as Own}
use Rattle.engine_tables.specs.Sockets.{meant, held_at}
use Rattle.engine_tables.specs.Held.{Entry, sockets_in, places_in, AreApart, IsHeld}
use Rattle.engine_tables.proofs.Rising.{either-way}

pub some-none : {A : Type 0} (x : A) → Some x ≡ None → ⊥
some-none x e = cc

other-number : {V : Type 0} (m n : ℕ) (es : List (ℕ × V)) (v : V) → lookup (nat_eq m) es ≡ Some v → lookup (nat_eq n) es ≡ None → nat_eq m n ≡ false
other-number m n es v a b = put (nat_eq m n) refl
  where
    put : (c : Bool) → nat_eq m n ≡ c → c ≡ false
    put true e = absurd (some-none v (sym a ∙ ap (λ i. lookup (nat_eq i) es) (eqb-true m n e) ∙ b))
    put false e = refl

pub turned : (m n : ℕ) (c : Bool) → nat_eq m n ≡ c → nat_eq n m ≡ c
turned m n true e = eq-eqb n m (sym (eqb-true m n e))
turned m n false e = put (nat_eq n m) refl
  where
    put : (c : Bool) → nat_eq n m ≡ c → c ≡ false
    put true f = sym (eq-eqb m n (sym (eqb-true n m f))) ∙ e
    put false f = refl

-- what isn't found isn't found among fewer
still-none : {K V : Type 0} (t u : K → Bool) (es : List (K × V)) → lookup t es ≡ None → lookup t (remove_entry u es) ≡ None
still-none t u [] h = refl
still-none t u (e ∷ es) h = put (u e.0) (off (t e.0) h) (still-none t u es)
  where
    off : (c : Bool) → cond c (Some e.1) (lookup t es) ≡ None → (c ≡ false) × (lookup t es ≡ None)
    off true g = absurd (some-none e.1 g)
    off false g = (refl, g)

    put : (b : Bool) → (t e.0 ≡ false) × (lookup t es ≡ None) → (lookup t es ≡ None → lookup t (remove_entry u es) ≡ None) → lookup t (cond b es (e ∷ remove_entry u es)) ≡ None
    put true f ih = f.1
    put false f ih = ap (λ c. cond c (Some e.1) (lookup t (remove_entry u es))) f.0 ∙ ih f.1

-- the entry is the socket x, of this number, at the place k of the strand s, or comes before it
pub record IsHere (s : StrandId) (k m : ℕ) (x : Own) (e : Entry) : Type 0 where
  pub number : nat_eq m e.0 ≡ true
  pub strand : same_strand s e.1.0 ≡ true
  pub place : (k == e.1.1.at) ≡ true
  pub socket : e.1 ≡ (s, x)

pub record IsPast (s : StrandId) (k m : ℕ) (x : Own) (e : Entry) : Type 0 where
  pub number : nat_eq m e.0 ≡ false
  pub other : (same_strand s e.1.0 && (k == e.1.1.at)) ≡ false
  pub sock : nat_eq x.sock e.1.1.sock ≡ false

-- the socket x is in these entries, and no other has its number, place or socket
abbrev pub IsThe : StrandId → ℕ → ℕ → Own → List Entry → Type 0
IsThe s k m x [] = ⊥
IsThe s k m x (e ∷ es) = IsHere s k m x e ⊎ (IsPast s k m x e × IsThe s k m x es)

-- a place leads to its socket
holds-sock : (s : StrandId) (k m : ℕ) (x : Own) (es : List Entry) → IsThe s k m x es → holder_in x.sock (sockets_in es) ≡ Some (s, x.at)
holds-sock s k m x [] t = absurd t
holds-sock s k m x (e ∷ es) (inl h) =
    ap (λ p. if x.sock == p.1.sock then Some (p.0, p.1.at) else holder_in x.sock (sockets_in es)) h.socket ∙ ap (λ b. if b then Some (s, x.at) else holder_in x.sock (sockets_in es)) (eq-eqb x.sock x.sock refl)
holds-sock s k m x (e ∷ es) (inr p) = ap (λ b. if b then Some (e.1.0, e.1.1.at) else holder_in x.sock (sockets_in es)) p.0.sock ∙ holds-sock s k m x es p.1

other-sock : (s : StrandId) (k m : ℕ) (x : Own) (es : List Entry) (n : ℕ) → IsThe s k m x es → holder_in n (sockets_in es) ≡ None → nat_eq x.sock n ≡ false
other-sock s k m x es n t h = put (nat_eq x.sock n) refl
  where
    put : (b : Bool) → nat_eq x.sock n ≡ b → b ≡ false
    put true e = absurd (some-none (s, x.at) (sym (holds-sock s k m x es t) ∙ ap (λ i. holder_in i (sockets_in es)) (eqb-true x.sock n e) ∙ h))
    put false e = refl

module _ (s : StrandId) (k m : ℕ) where
  -- what a place of the strand leads to
  abbrev pub IsFound : List Entry → Type 0
  IsFound es = (x : Own) × (lookup (nat_eq m) es ≡ Some (s, x)) × IsThe s k m x es

  pub found : (es : List Entry) → AreApart es → lookup (nat_eq k) (places_in s es) ≡ Some m → IsFound es
  found [] a h = absurd (some-none m (sym h))
  found (e ∷ es) a h = put (same_strand s e.1.0) refl (nat_eq k e.1.1.at) refl h (found es a.1)
    where
      past : (same_strand s e.1.0 && (k == e.1.1.at)) ≡ false → IsFound es → IsFound (e ∷ es)
      past other f =
          let n = other-number m e.0 es (s, f.0) f.1 a.0.number in
          (f.0, ap (λ b. cond b (Some e.1) (lookup (nat_eq m) es)) n ∙ f.1, inr (record { number = n; other = other; sock = other-sock s k m f.0 es e.1.1.sock f.2 a.0.sock }, f.2))

      here : same_strand s e.1.0 ≡ true → nat_eq k e.1.1.at ≡ true → e.0 ≡ m → IsFound (e ∷ es)
      here p q r =
          let n = eq-eqb m e.0 (sym r) in
          let x : e.1 ≡ (s, e.1.1) = ap (λ (t : StrandId). (t, e.1.1)) (sym (same_strand-eq s e.1.0 p)) in
          (e.1.1, ap (λ b. cond b (Some e.1) (lookup (nat_eq m) es)) n ∙ ap Some x, inl (record { number = n; strand = p; place = q; socket = x }))

      put : (b : Bool) → same_strand s e.1.0 ≡ b → (c : Bool) → nat_eq k e.1.1.at ≡ c → lookup (nat_eq k) (if b then (e.1.1.at, e.0) ∷ places_in s es else places_in s es) ≡ Some m
          → (lookup (nat_eq k) (places_in s es) ≡ Some m → IsFound es) → IsFound (e ∷ es)
      put true p true q g ih = here p q (let f : Some e.0 ≡ Some m = sym (ap (λ c. cond c (Some e.0) (lookup (nat_eq k) (places_in s es))) q) ∙ g in cc)
      put true p false q g ih = past (ap (λ b. b && (k == e.1.1.at)) p ∙ q) (ih (sym (ap (λ c. cond c (Some e.0) (lookup (nat_eq k) (places_in s es))) q) ∙ g))
      put false p c q g ih = past (ap (λ b. b && (k == e.1.1.at)) p) (ih g)

-- the socket x of the strand s leaves from its place k
module _ (s : StrandId) (k m : ℕ) (x : Own) where
  here : (e : Entry) → IsHere s k m x e → (same_strand s e.1.0 && (k == e.1.1.at)) ≡ true
  here e h = ap (λ b. b && (k == e.1.1.at)) h.strand ∙ h.place

  pub left-is : (es : List Entry) → IsThe s k m x es → sockets_in (remove_entry (nat_eq m) es) ≡ without_held s (place.Sock k) (sockets_in es)
  left-is [] t = absurd t
  left-is (e ∷ es) (inl h) = ap (λ b. sockets_in (cond b es (e ∷ remove_entry (nat_eq m) es))) h.number
      ∙ sym (ap (λ b. if b then sockets_in es else (e.1.0, meant e.1.1) ∷ without_held s (place.Sock k) (sockets_in es)) (here e h))
  left-is (e ∷ es) (inr p) = ap (λ b. sockets_in (cond b es (e ∷ remove_entry (nat_eq m) es))) p.0.number
      ∙ ap (λ l. (e.1.0, meant e.1.1) ∷ l) (left-is es p.1)
      ∙ sym (ap (λ b. if b then sockets_in es else (e.1.0, meant e.1.1) ∷ without_held s (place.Sock k) (sockets_in es)) p.0.other)

  pub found-is : (es : List Entry) → IsThe s k m x es → held_at s k (sockets_in es) ≡ Some (meant x)
  found-is [] t = absurd t
  found-is (e ∷ es) (inl h) = ap (λ b. find (λ (o : Socket). k == o.at) (if b then meant e.1.1 ∷ only s (sockets_in es) else only s (sockets_in es))) h.strand
      ∙ ap (λ b. cond b (Some (meant e.1.1)) (held_at s k (sockets_in es))) h.place ∙ ap (λ (p : StrandId × Own). Some (meant p.1)) h.socket
  found-is (e ∷ es) (inr p) = put (same_strand s e.1.0) p.0.other (found-is es p.1)
    where
      put : (b : Bool) → (b && (k == e.1.1.at)) ≡ false → held_at s k (sockets_in es) ≡ Some (meant x) → find (λ (o : Socket). k == o.at) (if b then meant e.1.1 ∷ only s (sockets_in es) else only s (sockets_in es)) ≡ Some (meant x)
      put true q ih = ap (λ b. cond b (Some (meant e.1.1)) (held_at s k (sockets_in es))) q ∙ ih
      put false q ih = ih

  pub places-left : (es : List Entry) → IsThe s k m x es → (t : StrandId)
      → places_in t (remove_entry (nat_eq m) es) ≡ (if same_strand t s then remove_entry (nat_eq k) (places_in t es) else places_in t es)
  places-left [] a t = absurd a
  places-left (e ∷ es) (inl h) t = ap (λ b. places_in t (cond b es (e ∷ remove_entry (nat_eq m) es))) h.number ∙ put (same_strand t s)
      ∙ ap (λ (r : StrandId). if same_strand t s then remove_entry (nat_eq k) (if same_strand t r then (e.1.1.at, e.0) ∷ places_in t es else places_in t es) else (if same_strand t r then (e.1.1.at, e.0) ∷ places_in t es else places_in t es)) (sym (ap (λ (p : StrandId × Own). p.0) h.socket))
    where
      put : (b : Bool) → places_in t es ≡ (if b then remove_entry (nat_eq k) (if b then (e.1.1.at, e.0) ∷ places_in t es else places_in t es) else (if b then (e.1.1.at, e.0) ∷ places_in t es else places_in t es))
      put true = sym (ap (λ c. cond c (places_in t es) ((e.1.1.at, e.0) ∷ remove_entry (nat_eq k) (places_in t es))) h.place)
      put false = refl
  places-left (e ∷ es) (inr p) t = ap (λ b. places_in t (cond b es (e ∷ remove_entry (nat_eq m) es))) p.0.number ∙ put (same_strand t s) refl (same_strand t e.1.0) refl (places-left es p.1 t)
    where
      off : same_strand t s ≡ true → same_strand t e.1.0 ≡ true → nat_eq k e.1.1.at ≡ false
      off a b = sym (ap (λ c. c && (k == e.1.1.at)) (subst (λ (r : StrandId). same_strand r e.1.0 ≡ true) (same_strand-eq t s a) b)) ∙ p.0.other

      put : (b : Bool) → same_strand t s ≡ b → (c : Bool) → same_strand t e.1.0 ≡ c → places_in t (remove_entry (nat_eq m) es) ≡ (if b then remove_entry (nat_eq k) (places_in t es) else places_in t es)
          → (if c then (e.1.1.at, e.0) ∷ places_in t (remove_entry (nat_eq m) es) else places_in t (remove_entry (nat_eq m) es))
          ≡ (if b then remove_entry (nat_eq k) (if c then (e.1.1.at, e.0) ∷ places_in t es else places_in t es) else (if c then (e.1.1.at, e.0) ∷ places_in t es else places_in t es))
      put true a true b ih = ap (λ l. (e.1.1.at, e.0) ∷ l) ih ∙ sym (ap (λ c. cond c (places_in t es) ((e.1.1.at, e.0) ∷ remove_entry (nat_eq k) (places_in t es))) (off a b))
      put true a false b ih = ih
      put false a true b ih = ap (λ l. (e.1.1.at, e.0) ∷ l) ih
      put false a false b ih = ih

  pub holder-left : (es : List Entry) → AreApart es → IsThe s k m x es → (n : ℕ)
      → holder_in n (sockets_in (remove_entry (nat_eq m) es)) ≡ cond (nat_eq x.sock n) None (holder_in n (sockets_in es))
  holder-left [] a t n = absurd t
  holder-left (e ∷ es) a (inl h) n = ap (λ b. holder_in n (sockets_in (cond b es (e ∷ remove_entry (nat_eq m) es)))) h.number ∙ put (nat_eq x.sock n) refl
    where
      sock : e.1.1.sock ≡ x.sock
      sock = ap (λ (p : StrandId × Own). p.1.sock) h.socket

      put : (c : Bool) → nat_eq x.sock n ≡ c → holder_in n (sockets_in es) ≡ cond c None (if n == e.1.1.sock then Some (e.1.0, e.1.1.at) else holder_in n (sockets_in es))
      put true q = ap (λ i. holder_in i (sockets_in es)) (sym (eqb-true x.sock n q) ∙ sym sock) ∙ a.0.sock
      put false q = sym (ap (λ b. if b then Some (e.1.0, e.1.1.at) else holder_in n (sockets_in es)) (ap (λ i. n == i) sock ∙ turned x.sock n false q))
  holder-left (e ∷ es) a (inr p) n = ap (λ b. holder_in n (sockets_in (cond b es (e ∷ remove_entry (nat_eq m) es)))) p.0.number ∙ put (nat_eq n e.1.1.sock) refl (holder-left es a.1 p.1 n)
    where
      put : (c : Bool) → nat_eq n e.1.1.sock ≡ c → holder_in n (sockets_in (remove_entry (nat_eq m) es)) ≡ cond (nat_eq x.sock n) None (holder_in n (sockets_in es))
          → (if c then Some (e.1.0, e.1.1.at) else holder_in n (sockets_in (remove_entry (nat_eq m) es))) ≡ cond (nat_eq x.sock n) None (if c then Some (e.1.0, e.1.1.at) else holder_in n (sockets_in es))
      put true q ih = sym (ap (λ b. cond b None (Some (e.1.0, e.1.1.at))) (ap (nat_eq x.sock) (eqb-true n e.1.1.sock q) ∙ p.0.sock))
      put false q ih = ih

  pub apart-left : (es : List Entry) → AreApart es → IsThe s k m x es → AreApart (remove_entry (nat_eq m) es)
  apart-left [] a t = absurd t
  apart-left (e ∷ es) a (inl h) = subst (λ b. AreApart (cond b es (e ∷ remove_entry (nat_eq m) es))) (sym h.number) a.1
  apart-left (e ∷ es) a (inr p) = subst (λ b. AreApart (cond b es (e ∷ remove_entry (nat_eq m) es))) (sym p.0.number) (
    record {
      number = still-none (nat_eq e.0) (nat_eq m) es a.0.number;
      place = ap (lookup (nat_eq e.1.1.at)) (places-left es p.1 e.1.0) ∙ put (same_strand e.1.0 s);
      sock = holder-left es a.1 p.1 e.1.1.sock ∙ ap (cond (nat_eq x.sock e.1.1.sock) None) a.0.sock ∙ sym (either-way (nat_eq x.sock e.1.1.sock) None);
    },
    apart-left es a.1 p.1,
  )
    where
      put : (b : Bool) → lookup (nat_eq e.1.1.at) (if b then remove_entry (nat_eq k) (places_in e.1.0 es) else places_in e.1.0 es) ≡ None
      put true = still-none (nat_eq e.1.1.at) (nat_eq k) (places_in e.1.0 es) a.0.place
      put false = a.0.place

-- a strand has no socket at a place where it has no number
module _ (s : StrandId) (k : ℕ) where
  pub none-at : (es : List Entry) → lookup (nat_eq k) (places_in s es) ≡ None → (held_at s k (sockets_in es) ≡ None) × (without_held s (place.Sock k) (sockets_in es) ≡ sockets_in es)
  none-at [] h = (refl, refl)
  none-at (e ∷ es) h = put (same_strand s e.1.0) h (none-at es)
    where
      at : (c : Bool) → cond c (Some e.0) (lookup (nat_eq k) (places_in s es)) ≡ None → (lookup (nat_eq k) (places_in s es) ≡ None → (held_at s k (sockets_in es) ≡ None) × (without_held s (place.Sock k) (sockets_in es) ≡ (sockets_in es)))
          → (cond c (Some (meant e.1.1)) (held_at s k (sockets_in es)) ≡ None) × ((if c then (sockets_in es) else (e.1.0, meant e.1.1) ∷ without_held s (place.Sock k) (sockets_in es)) ≡ (e.1.0, meant e.1.1) ∷ (sockets_in es))
      at true g ih = absurd (some-none e.0 g)
      at false g ih = ((ih g).0, ap (λ l. (e.1.0, meant e.1.1) ∷ l) (ih g).1)

      put : (b : Bool) → lookup (nat_eq k) (if b then (e.1.1.at, e.0) ∷ places_in s es else places_in s es) ≡ None → (lookup (nat_eq k) (places_in s es) ≡ None → (held_at s k (sockets_in es) ≡ None) × (without_held s (place.Sock k) (sockets_in es) ≡ (sockets_in es)))
          → (find (λ (o : Socket). k == o.at) (if b then meant e.1.1 ∷ only s (sockets_in es) else only s (sockets_in es)) ≡ None) × ((if b && (k == e.1.1.at) then (sockets_in es) else (e.1.0, meant e.1.1) ∷ without_held s (place.Sock k) (sockets_in es)) ≡ (e.1.0, meant e.1.1) ∷ (sockets_in es))
      put true g ih = at (nat_eq k e.1.1.at) g ih
      put false g ih = ((ih g).0, ap (λ l. (e.1.0, meant e.1.1) ∷ l) (ih g).1)

  pub none-from : (es : List Entry) → held_at s k (sockets_in es) ≡ None → lookup (nat_eq k) (places_in s es) ≡ None
  none-from [] h = refl
  none-from (e ∷ es) h = put (same_strand s e.1.0) h (none-from es)
    where
      at : (c : Bool) → cond c (Some (meant e.1.1)) (held_at s k (sockets_in es)) ≡ None → (held_at s k (sockets_in es) ≡ None → lookup (nat_eq k) (places_in s es) ≡ None) → cond c (Some e.0) (lookup (nat_eq k) (places_in s es)) ≡ None
      at true g ih = absurd (some-none (meant e.1.1) g)
      at false g ih = ih g

      put : (b : Bool) → find (λ (o : Socket). k == o.at) (if b then meant e.1.1 ∷ only s (sockets_in es) else only s (sockets_in es)) ≡ None → (held_at s k (sockets_in es) ≡ None → lookup (nat_eq k) (places_in s es) ≡ None)
          → lookup (nat_eq k) (if b then (e.1.1.at, e.0) ∷ places_in s es else places_in s es) ≡ None
      put true g ih = at (nat_eq k e.1.1.at) g ih
      put false g ih = ih g

pub absent-left : {K V : Type 0} (t : K → Bool) (es : List (K × V)) → lookup t es ≡ None → remove_entry t es ≡ es
absent-left t [] h = refl
absent-left t (e ∷ es) h = put (t e.0) h (absent-left t es)
  where
    put : (b : Bool) → cond b (Some e.1) (lookup t es) ≡ None → (lookup t es ≡ None → remove_entry t es ≡ es) → cond b es (e ∷ remove_entry t es) ≡ e ∷ es
    put true g ih = absurd (some-none e.1 g)
    put false g ih = ap (λ l. e ∷ l) (ih g)

-- the places of strands, where one of a strand is taken out
abbrev pub TakesOut : StrandId → ℕ → (StrandId → List (ℕ × ℕ)) → (StrandId → List (ℕ × ℕ)) → Type 0
TakesOut s k old new = (t : StrandId) → new t ≡ (if same_strand t s then remove_entry (nat_eq k) (old t) else old t)

module _ (s : StrandId) (k : ℕ) (es : List Entry) (places new-places : StrandId → List (ℕ × ℕ)) (owners : ℕ → Option (StrandId × ℕ)) (held : IsHeld es places owners) (out : TakesOut s k places new-places) where
  -- where there was no place
  pub stays : lookup (nat_eq k) (places s) ≡ None → IsHeld es new-places owners
  stays h = record { apart = held.apart; placed = λ t. out t ∙ put t (same_strand t s) refl ∙ held.placed t; owned = held.owned }
    where
      put : (t : StrandId) (b : Bool) → same_strand t s ≡ b → (if b then remove_entry (nat_eq k) (places t) else places t) ≡ places t
      put t true e = absent-left (nat_eq k) (places t) (ap (λ (r : StrandId). lookup (nat_eq k) (places r)) (same_strand-eq t s e) ∙ h)
      put t false e = refl

  pub found-in : (m : ℕ) → lookup (nat_eq k) (places s) ≡ Some m → IsFound s k m es
  found-in m h = found s k m es held.apart (sym (ap (lookup (nat_eq k)) (held.placed s)) ∙ h)

  -- where its socket leaves
  pub leaves : (m : ℕ) (x : Own) (new : List Entry) (new-owners : ℕ → Option (StrandId × ℕ)) → IsThe s k m x es → new ≡ remove_entry (nat_eq m) es
      → ((n : ℕ) → new-owners n ≡ cond (nat_eq x.sock n) None (owners n)) → IsHeld new new-places new-owners
  leaves m x new new-owners t e o = subst (λ (l : List Entry). IsHeld l new-places new-owners) (sym e) (record {
    apart = apart-left s k m x es held.apart t;
    placed = λ r. out r ∙ ap (λ l. if same_strand r s then remove_entry (nat_eq k) l else l) (held.placed r) ∙ sym (places-left s k m x es t r);
    owned = λ n. o n ∙ ap (cond (nat_eq x.sock n) None) (held.owned n) ∙ sym (holder-left s k m x es held.apart t n);
  })

  pub none-held : lookup (nat_eq k) (places s) ≡ None → (held_at s k (sockets_in es) ≡ None) × (without_held s (place.Sock k) (sockets_in es) ≡ sockets_in es)
  none-held h = none-at s k es (sym (ap (lookup (nat_eq k)) (held.placed s)) ∙ h)
