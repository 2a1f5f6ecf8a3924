-- Open sockets, as places.
use Rattle.std.proofs.Common.{◌≡◌, ℕ, ◌==◌, Bool, true, false, not, ◌||◌, List, [], ◌∷◌, map, if◌then◌else◌, refl, sym, ap, ◌∙◌, eqb-true, eq-eqb, cond}
use Rattle.strand_contract.specs.declared.turns.Place.{Place}
use Rattle.strand_contract.specs.declared.turns.Place.TheVariants as place
use Rattle.strand_contract.specs.Actions.{same_place}
use Rattle.strand_contract.specs.Alone.{without_place}
use Rattle.strand_plans.specs.Ledgers.{has}
use Rattle.connection_strand.specs.Acts.{without_all}
use Rattle.connection_strand.specs.Standing.{places}

pub without-none : (q : Place) (ps : List Place) → has q ps ≡ false → without_place q ps ≡ ps
without-none q [] h = refl
without-none q (p ∷ ps) h = by (without-none q ps) (same_place q p) refl h
  where
    by : (has q ps ≡ false → without_place q ps ≡ ps) → (c : Bool) → same_place q p ≡ c → (c || has q ps) ≡ false
        → (if c then without_place q ps else p ∷ without_place q ps) ≡ p ∷ ps
    by rest true e f = absurd (let x : true ≡ false = f in cc)
    by rest false e f = ap (λ xs. p ∷ xs) (rest f)

same-number : (k j : ℕ) → (k == j) ≡ (j == k)
same-number k j = by (k == j) refl (j == k) refl
  where
    by : (c : Bool) → (k == j) ≡ c → (d : Bool) → (j == k) ≡ d → c ≡ d
    by true e true f = refl
    by true e false f = absurd (let x : true ≡ false = sym (eq-eqb j k (sym (eqb-true k j e))) ∙ f in cc)
    by false e true f = absurd (let x : true ≡ false = sym (eq-eqb k j (sym (eqb-true j k f))) ∙ e in cc)
    by false e false f = refl

socks-without : (k : ℕ) (ks : List ℕ) → without_place (place.Sock k) (map place.Sock ks) ≡ map place.Sock (without_all k ks)
socks-without k [] = refl
socks-without k (j ∷ js) =
    ap (λ c. if c then without_place (place.Sock k) (map place.Sock js) else place.Sock j ∷ without_place (place.Sock k) (map place.Sock js)) (same-number k j)
    ∙ by (socks-without k js) (j == k)
  where
    by : without_place (place.Sock k) (map place.Sock js) ≡ map place.Sock (without_all k js) → (c : Bool)
        → (if c then without_place (place.Sock k) (map place.Sock js) else place.Sock j ∷ without_place (place.Sock k) (map place.Sock js))
        ≡ map place.Sock (cond (not c) (j ∷ without_all k js) (without_all k js))
    by rest true = rest
    by rest false = ap (λ xs. place.Sock j ∷ xs) rest

pub places-without : (k : ℕ) (o : Bool) (ks : List ℕ) → without_place (place.Sock k) (places o ks) ≡ places o (without_all k ks)
places-without k true ks = ap (λ xs. place.Client ∷ xs) (socks-without k ks)
places-without k false ks = socks-without k ks
