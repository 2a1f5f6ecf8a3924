-- Places, and lists of them.
use Rattle.strand_contract.specs.Actions.{same_place}
use Rattle.strand_contract.specs.Alone.{without_place}
use Rattle.strand_plans.specs.Ledgers.{has}
use Rattle.strand_plans.specs.Tidiness.{PlacesOnce}
use Rattle.std.proofs.Common.{◌≡◌, Bool, true, false, List, [], ◌∷◌, ◌++◌, ◌||◌, if◌then◌else◌, refl, sym, ap, ◌∙◌, subst}
use Rattle.strand_contract.specs.declared.turns.Place.{Place}
use Rattle.strand_contract.specs.declared.turns.Place.TheVariants as place
use Rattle.strand_contract.specs.OpenPlaceLaws.{same-place, place-self}

-- what was open, without one place
abbrev pub shut : Place → (Place → Bool) → Place → Bool
shut q o p = if same_place p q then false else o p

pub none-or : (c d : Bool) → c ≡ false → (c || d) ≡ d
none-or true d h = absurd (let e : true ≡ false = h in cc)
none-or false d h = refl

pub false-either : (c : Bool) → (if c then false else false) ≡ false
false-either true = refl
false-either false = refl

has-without-step : (p q r : Place) (rs : List Place) (c d : Bool) → same_place q r ≡ c → same_place p q ≡ d → has p (without_place q rs) ≡ shut q (λ r. has r rs) p
    → has p (if c then without_place q rs else r ∷ without_place q rs) ≡ (if d then false else same_place p r || has p rs)
has-without-step p q r rs true true h k e = e ∙ rw k refl
has-without-step p q r rs true false h k e = e ∙ rw k (let f : same_place p r ≡ false = subst (λ x. same_place p x ≡ false) (same-place q r h) k in sym (none-or _ _ f))
has-without-step p q r rs false true h k e = let f : same_place p r ≡ false = subst (λ x. same_place x r ≡ false) (sym (same-place p q k)) h in none-or _ _ f ∙ e ∙ rw k refl
has-without-step p q r rs false false h k e = ap (λ x. same_place p r || x) (e ∙ rw k refl)

-- a list without a place has the others
pub has-without : (p q : Place) (qs : List Place) → has p (without_place q qs) ≡ shut q (λ r. has r qs) p
has-without p q [] = sym (false-either (same_place p q))
has-without p q (r ∷ rs) = has-without-step p q r rs (same_place q r) (same_place p q) refl refl (has-without p q rs)

swaps : (a b c : Bool) → (a || (b || c)) ≡ (b || (a || c))
swaps true true c = refl
swaps true false c = refl
swaps false b c = refl

pub has-append : (q p : Place) (qs : List Place) → has q (qs ++ p ∷ []) ≡ (same_place q p || has q qs)
has-append q p [] = refl
has-append q p (r ∷ rs) = ap (λ x. same_place q r || x) (has-append q p rs) ∙ swaps (same_place q r) (same_place q p) (has q rs)

more : (c x y : Bool) → (x ≡ true → y ≡ true) → (c || x) ≡ true → (c || y) ≡ true
more true x y f h = refl
more false x y f h = f h

pub has-more : (q : Place) (qs ps : List Place) → has q qs ≡ true → has q (qs ++ ps) ≡ true
has-more q [] ps h = absurd (let e : false ≡ true = h in cc)
has-more q (r ∷ rs) ps h = more (same_place q r) (has q rs) (has q (rs ++ ps)) (has-more q rs ps) h

shut-stays : (c d : Bool) → d ≡ false → (if c then false else d) ≡ false
shut-stays true d h = refl
shut-stays false d h = h

once-if : (c : Bool) (q : Place) (qs : List Place) → has q qs ≡ false → PlacesOnce qs → PlacesOnce (if c then qs else q ∷ qs)
once-if true q qs h o = o
once-if false q qs h o = (h, o)

pub once-without : (q : Place) (qs : List Place) → PlacesOnce qs → PlacesOnce (without_place q qs)
once-without q [] o = tt
once-without q (r ∷ rs) o = once-if (same_place q r) r (without_place q rs) (has-without r q rs ∙ shut-stays (same_place r q) (has r rs) o.0) (once-without q rs o.1)

pub or-left : (c d : Bool) → (c || d) ≡ false → c ≡ false
or-left true d h = h
or-left false d h = refl

pub or-right : (c d : Bool) → (c || d) ≡ false → d ≡ false
or-right true d h = absurd (let e : true ≡ false = h in cc)
or-right false d h = h

pub or-none : (c d : Bool) → c ≡ false → d ≡ false → (c || d) ≡ false
or-none c d h k = none-or c d h ∙ k

pub apart : (p q : Place) → same_place p q ≡ false → same_place q p ≡ false
apart p q h = test (same_place q p) refl
  where
    test : (c : Bool) → same_place q p ≡ c → c ≡ false
    test true k = absurd (let e : true ≡ false = sym (place-self p) ∙ subst (λ x. same_place p x ≡ false) (same-place q p k) h in cc)
    test false k = refl

pub once-append : (q : Place) (qs : List Place) → has q qs ≡ false → PlacesOnce qs → PlacesOnce (qs ++ q ∷ [])
once-append q [] h o = (refl, tt)
once-append q (r ∷ rs) h o = (has-append r q rs ∙ or-none _ _ (apart q r (or-left _ _ h)) o.0, once-append q rs (or-right (same_place q r) _ h) o.1)
