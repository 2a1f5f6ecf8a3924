-- How the sockets of strands go on being kept, as one is got; and which of a strand's was got first.
use Rattle.std.proofs.Common.{◌≡◌, ℕ, ◌==◌, nat_eq, ◌&&◌, Bool, true, false, cond, List, [], ◌∷◌, ◌++◌, slice_get, find, Option, Some, None, option_map, if◌then◌else◌, refl, sym, ap, subst, ◌∙◌}
use Rattle.std.proofs.lemmas.Bool.{eq-eqb, eqb-true}
use Rattle.std.specs.Map.{lookup}
use Rattle.resty_base.specs.declared.names.StrandId.{StrandId}
use Rattle.resty_world.specs.Ids.{same_strand}
use Rattle.resty_world.specs.IdLaws.{same_strand-eq, same_strand-self}
use Rattle.strand_contract.specs.declared.turns.Place.TheVariants as place
use Rattle.executions.specs.Queues.{only, without_first}
use Rattle.executions.specs.Sockets.{Socket, without_held, holder_in}
use Rattle.engine_tables.specs.declared.sockets.Socket.{Socket as Own}
use Rattle.engine_tables.specs.Sockets.{meant, held_at}
use Rattle.engine_tables.specs.Held.{Entry, sockets_in, places_in, AreApart, IsHeld}
use Rattle.engine_tables.proofs.Held.{some-none, turned, none-from}
use Rattle.engine_tables.proofs.Rising.{lookup-before}

-- what isn't found in a list isn't at its head
not-head : {A : Type 0} (b : Bool) (x : A) (o : Option A) → cond b (Some x) o ≡ None → (b ≡ false) × (o ≡ None)
not-head true x o h = absurd (some-none x h)
not-head false x o h = (refl, h)

-- a socket goes last
module _ (e : Entry) where
  pub got-sockets : (es : List Entry) → sockets_in (es ++ e ∷ []) ≡ sockets_in es ++ (e.1.0, meant e.1.1) ∷ []
  got-sockets [] = refl
  got-sockets (d ∷ es) = ap (λ l. (d.1.0, meant d.1.1) ∷ l) (got-sockets es)

  pub got-places : (t : StrandId) (es : List Entry) → places_in t (es ++ e ∷ []) ≡ (if same_strand t e.1.0 then places_in t es ++ (e.1.1.at, e.0) ∷ [] else places_in t es)
  got-places t [] = refl
  got-places t (d ∷ es) = put (same_strand t d.1.0) (same_strand t e.1.0) (got-places t es)
    where
      put : (b c : Bool) → places_in t (es ++ e ∷ []) ≡ (if c then places_in t es ++ (e.1.1.at, e.0) ∷ [] else places_in t es)
          → (if b then (d.1.1.at, d.0) ∷ places_in t (es ++ e ∷ []) else places_in t (es ++ e ∷ []))
          ≡ (if c then (if b then (d.1.1.at, d.0) ∷ places_in t es else places_in t es) ++ (e.1.1.at, e.0) ∷ [] else (if b then (d.1.1.at, d.0) ∷ places_in t es else places_in t es))
      put true true ih = ap (λ l. (d.1.1.at, d.0) ∷ l) ih
      put true false ih = ap (λ l. (d.1.1.at, d.0) ∷ l) ih
      put false true ih = ih
      put false false ih = ih

  pub got-holder : (es : List Entry) → holder_in e.1.1.sock (sockets_in es) ≡ None → (n : ℕ) → holder_in n (sockets_in (es ++ e ∷ [])) ≡ cond (nat_eq e.1.1.sock n) (Some (e.1.0, e.1.1.at)) (holder_in n (sockets_in es))
  got-holder [] h n = put (nat_eq n e.1.1.sock) refl
    where
      put : (b : Bool) → nat_eq n e.1.1.sock ≡ b → cond {A = Option (StrandId × ℕ)} b (Some (e.1.0, e.1.1.at)) None ≡ cond (nat_eq e.1.1.sock n) (Some (e.1.0, e.1.1.at)) None
      put true q = sym (ap (λ c. cond c (Some (e.1.0, e.1.1.at)) None) (turned n e.1.1.sock true q))
      put false q = sym (ap (λ c. cond c (Some (e.1.0, e.1.1.at)) None) (turned n e.1.1.sock false q))
  got-holder (d ∷ es) h n =
      let f = not-head (nat_eq e.1.1.sock d.1.1.sock) (d.1.0, d.1.1.at) (holder_in e.1.1.sock (sockets_in es)) h in
      put f.0 (nat_eq n d.1.1.sock) refl (got-holder es f.1 n)
    where
      put : nat_eq e.1.1.sock d.1.1.sock ≡ false → (b : Bool) → nat_eq n d.1.1.sock ≡ b → holder_in n (sockets_in (es ++ e ∷ [])) ≡ cond (nat_eq e.1.1.sock n) (Some (e.1.0, e.1.1.at)) (holder_in n (sockets_in es))
          → (if b then Some (d.1.0, d.1.1.at) else holder_in n (sockets_in (es ++ e ∷ []))) ≡ cond (nat_eq e.1.1.sock n) (Some (e.1.0, e.1.1.at)) (if b then Some (d.1.0, d.1.1.at) else holder_in n (sockets_in es))
      put f true q ih = sym (ap (λ c. cond c (Some (e.1.0, e.1.1.at)) (Some (d.1.0, d.1.1.at))) (ap (nat_eq e.1.1.sock) (eqb-true n d.1.1.sock q) ∙ f))
      put f false q ih = ih

  pub got-apart : (es : List Entry) → AreApart es → lookup (nat_eq e.0) es ≡ None → lookup (nat_eq e.1.1.at) (places_in e.1.0 es) ≡ None → holder_in e.1.1.sock (sockets_in es) ≡ None → AreApart (es ++ e ∷ [])
  got-apart [] a n p s = (record { number = refl; place = refl; sock = refl }, tt)
  got-apart (d ∷ es) a n p s =
      let number = not-head (nat_eq e.0 d.0) d.1 (lookup (nat_eq e.0) es) n in
      let sock = not-head (nat_eq e.1.1.sock d.1.1.sock) (d.1.0, d.1.1.at) (holder_in e.1.1.sock (sockets_in es)) s in (
        record {
          number = lookup-before (nat_eq d.0) es (e ∷ []) (ap (λ b. cond b (Some e.1) None) (turned e.0 d.0 false number.0)) ∙ a.0.number;
          place = ap (lookup (nat_eq d.1.1.at)) (got-places d.1.0 es) ∙ put (same_strand d.1.0 e.1.0) refl;
          sock = got-holder es sock.1 d.1.1.sock ∙ ap (λ b. cond b (Some (e.1.0, e.1.1.at)) (holder_in d.1.1.sock (sockets_in es))) sock.0 ∙ a.0.sock;
        },
        got-apart es a.1 number.1 (rest (same_strand e.1.0 d.1.0) p) sock.1,
      )
    where
      rest : (b : Bool) → lookup (nat_eq e.1.1.at) (if b then (d.1.1.at, d.0) ∷ places_in e.1.0 es else places_in e.1.0 es) ≡ None → lookup (nat_eq e.1.1.at) (places_in e.1.0 es) ≡ None
      rest true h = (not-head (nat_eq e.1.1.at d.1.1.at) d.0 (lookup (nat_eq e.1.1.at) (places_in e.1.0 es)) h).1
      rest false h = h

      -- the new place of the same strand is another
      new-place : same_strand d.1.0 e.1.0 ≡ true → nat_eq e.1.1.at d.1.1.at ≡ false
      new-place q =
          let same = subst (λ (t : StrandId). same_strand t d.1.0 ≡ true) (same_strand-eq d.1.0 e.1.0 q) (same_strand-self d.1.0) in
          (not-head (nat_eq e.1.1.at d.1.1.at) d.0 (lookup (nat_eq e.1.1.at) (places_in e.1.0 es))
          (sym (ap (λ b. lookup (nat_eq e.1.1.at) (if b then (d.1.1.at, d.0) ∷ places_in e.1.0 es else places_in e.1.0 es)) same) ∙ p)).0

      put : (b : Bool) → same_strand d.1.0 e.1.0 ≡ b → lookup (nat_eq d.1.1.at) (if b then places_in d.1.0 es ++ (e.1.1.at, e.0) ∷ [] else places_in d.1.0 es) ≡ None
      put true q = lookup-before (nat_eq d.1.1.at) (places_in d.1.0 es) ((e.1.1.at, e.0) ∷ []) (ap (λ b. cond b (Some e.0) None) (turned e.1.1.at d.1.1.at false (new-place q))) ∙ a.0.place
      put false q = a.0.place

-- a strand gets the socket x at a place
pub opens : (s : StrandId) (m : ℕ) (x : Own) (es new : List Entry) (places new-places : StrandId → List (ℕ × ℕ)) (owners new-owners : ℕ → Option (StrandId × ℕ)) → IsHeld es places owners
    → held_at s x.at (sockets_in es) ≡ None → holder_in x.sock (sockets_in es) ≡ None → lookup (nat_eq m) es ≡ None → new ≡ es ++ (m, (s, x)) ∷ []
    → ((t : StrandId) → new-places t ≡ (if same_strand t s then places t ++ (x.at, m) ∷ [] else places t)) → ((n : ℕ) → new-owners n ≡ cond (nat_eq x.sock n) (Some (s, x.at)) (owners n)) → IsHeld new new-places new-owners
opens s m x es new places new-places owners new-owners old p n f e placed owned = subst (λ (l : List Entry). IsHeld l new-places new-owners) (sym e) (record {
  apart = got-apart (m, (s, x)) es old.apart f (none-from s x.at es p) n;
  placed = λ t. placed t ∙ ap (λ l. if same_strand t s then l ++ (x.at, m) ∷ [] else l) (old.placed t) ∙ sym (got-places (m, (s, x)) t es);
  owned = λ i. owned i ∙ ap (cond (nat_eq x.sock i) (Some (s, x.at))) (old.owned i) ∙ sym (got-holder (m, (s, x)) es n i);
})

pub free-place : (s : StrandId) (k : ℕ) (es : List Entry) (places : StrandId → List (ℕ × ℕ)) (owners : ℕ → Option (StrandId × ℕ)) → IsHeld es places owners → held_at s k (sockets_in es) ≡ None → lookup (nat_eq k) (places s) ≡ None
free-place s k es places owners old p = ap (lookup (nat_eq k)) (old.placed s) ∙ none-from s k es p

pub new-holder : (n : ℕ) (es : List Entry) (places : StrandId → List (ℕ × ℕ)) (owners : ℕ → Option (StrandId × ℕ)) → IsHeld es places owners → holder_in n (sockets_in es) ≡ None → owners n ≡ None
new-holder n es places owners old h = old.owned n ∙ h

-- nothing is held
pub none-kept : (es : List Entry) (places : StrandId → List (ℕ × ℕ)) (owners : ℕ → Option (StrandId × ℕ)) → es ≡ [] → ((t : StrandId) → places t ≡ []) → ((n : ℕ) → owners n ≡ None) → IsHeld es places owners
none-kept es places owners e p o = subst (λ (l : List Entry). IsHeld l places owners) (sym e) (record { apart = tt; placed = p; owned = o })

-- the first that a strand got
pub first-at : (s : StrandId) (es : List Entry) → option_map (λ p. p.0) (slice_get (places_in s es) 0) ≡ option_map (λ h. h.at) (slice_get (only s (sockets_in es)) 0)
first-at s [] = refl
first-at s (e ∷ es) = put (same_strand s e.1.0) (first-at s es)
  where
    put : (b : Bool) → option_map (λ (p : ℕ × ℕ). p.0) (slice_get (places_in s es) 0) ≡ option_map (λ (h : Socket). h.at) (slice_get (only s (sockets_in es)) 0)
        → option_map (λ (p : ℕ × ℕ). p.0) (slice_get (if b then (e.1.1.at, e.0) ∷ places_in s es else places_in s es) 0) ≡ option_map (λ (h : Socket). h.at) (slice_get (if b then meant e.1.1 ∷ only s (sockets_in es) else only s (sockets_in es)) 0)
    put true ih = refl
    put false ih = ih

same-some : (a b : ℕ) → Some a ≡ Some b → a ≡ b
same-some a b e = cc

pub first-found : (k : ℕ) (hs : List Socket) → option_map (λ h. h.at) (slice_get hs 0) ≡ Some k → find (λ h. k == h.at) hs ≡ slice_get hs 0
first-found k [] h = refl
first-found k (o ∷ hs) h = ap (λ b. cond b (Some o) (find (λ (i : Socket). k == i.at) hs)) (eq-eqb k o.at (sym (same-some o.at k h)))

pub first-left : (s : StrandId) (k : ℕ) (l : List (StrandId × Socket)) → option_map (λ h. h.at) (slice_get (only s l) 0) ≡ Some k → without_held s (place.Sock k) l ≡ without_first s l
first-left s k [] h = refl
first-left s k (e ∷ l) h = put (same_strand s e.0) h (first-left s k l)
  where
    put : (b : Bool) → option_map (λ (o : Socket). o.at) (slice_get (if b then e.1 ∷ only s l else only s l) 0) ≡ Some k → (option_map (λ (o : Socket). o.at) (slice_get (only s l) 0) ≡ Some k → without_held s (place.Sock k) l ≡ without_first s l)
        → (if b && (k == e.1.at) then l else e ∷ without_held s (place.Sock k) l) ≡ (if b then l else e ∷ without_first s l)
    put true g ih = ap (λ c. if c then l else e ∷ without_held s (place.Sock k) l) (eq-eqb k e.1.at (sym (same-some e.1.at k g)))
    put false g ih = ap (λ r. e ∷ r) (ih g)

pub no-first : (s : StrandId) (l : List (StrandId × Socket)) → option_map (λ h. h.at) (slice_get (only s l) 0) ≡ None → (slice_get (only s l) 0 ≡ None) × (without_first s l ≡ l)
no-first s [] h = (refl, refl)
no-first s (e ∷ l) h = put (same_strand s e.0) h (no-first s l)
  where
    put : (b : Bool) → option_map (λ (o : Socket). o.at) (slice_get (if b then e.1 ∷ only s l else only s l) 0) ≡ None → (option_map (λ (o : Socket). o.at) (slice_get (only s l) 0) ≡ None → (slice_get (only s l) 0 ≡ None) × (without_first s l ≡ l))
        → (slice_get (if b then e.1 ∷ only s l else only s l) 0 ≡ None) × ((if b then l else e ∷ without_first s l) ≡ e ∷ l)
    put true g ih = absurd (some-none e.1.at g)
    put false g ih = ((ih g).0, ap (λ r. e ∷ r) (ih g).1)

pub no-places : (l : List (ℕ × ℕ)) → option_map (λ p. p.0) (slice_get l 0) ≡ None → l ≡ []
no-places [] h = refl
no-places (p ∷ l) h = absurd (some-none p.0 h)
