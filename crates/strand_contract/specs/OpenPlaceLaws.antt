-- That a place is open exactly where it is one of the open places.
use Rattle.std.specs.Prelude.{◌≡◌, Bool, true, false, ◌||◌, List, [], ◌∷◌, ◌++◌, Some, if◌then◌else◌, refl}
use Rattle.std.proofs.Common.{sym, ◌∙◌, ap, subst}
use Rattle.std.proofs.lemmas.Bool.{eq-eqb, eqb-true}
use Rattle.strand_contract.specs.declared.turns.Place.{Place}
use Rattle.strand_contract.specs.declared.turns.Place.TheVariants as place
use Rattle.strand_contract.specs.declared.turns.Start.TheVariants as start
use Rattle.strand_contract.specs.Actions.{Began, Close, Take, Dial, Keep, LocalAction, Told, Did, same_place}
use Rattle.strand_contract.specs.Alone.{is_open, open_places, without_place, socket_count}

-- the place is one of these
abbrev pub is_among : Place → List Place → Bool
is_among q [] = false
is_among q (p ∷ ps) = same_place q p || is_among q ps

clash : {C : Type 0} (x : Bool) → x ≡ true → x ≡ false → C
clash x p q = absurd (let e : true ≡ false = sym p ∙ q in cc)

pub place-self : (q : Place) → same_place q q ≡ true
place-self place.Client = refl
place-self (place.Sock k) = eq-eqb k k refl

pub same-place : (q p : Place) → same_place q p ≡ true → q ≡ p
same-place place.Client place.Client h = refl
same-place place.Client (place.Sock k) h = clash false h refl
same-place (place.Sock k) place.Client h = clash false h refl
same-place (place.Sock k) (place.Sock j) h = ap place.Sock (eqb-true k j h)

or-false : (x : Bool) → (x || false) ≡ x
or-false true = refl
or-false false = refl

or-swap : (x y z : Bool) → (x || (y || z)) ≡ (y || (x || z))
or-swap true true z = refl
or-swap true false z = refl
or-swap false true z = refl
or-swap false false z = refl

among-end : (q p : Place) (ps : List Place) → is_among q (ps ++ p ∷ []) ≡ (same_place q p || is_among q ps)
among-end q p [] = refl
among-end q p (r ∷ ps) = ap (λ c. same_place q r || c) (among-end q p ps) ∙ or-swap (same_place q r) (same_place q p) (is_among q ps)

among-without : (q p : Place) (ps : List Place) → is_among q (without_place p ps) ≡ (if same_place q p then false else is_among q ps)
among-without q p [] = none (same_place q p)
  where
    none : (c : Bool) → false ≡ (if c then false else false)
    none true = refl
    none false = refl
among-without q p (r ∷ ps) = put (same_place p r) refl (same_place q p) refl (same_place q r) refl (among-without q p ps)
  where
    put : (d : Bool) → same_place p r ≡ d → (c : Bool) → same_place q p ≡ c → (e : Bool) → same_place q r ≡ e
        → is_among q (without_place p ps) ≡ (if c then false else is_among q ps)
        → is_among q (if d then without_place p ps else r ∷ without_place p ps) ≡ (if c then false else (e || is_among q ps))
    put true h true i e j ih = ih
    put true h false i true j ih = clash (same_place q p) (subst (λ (x : Place). same_place q x ≡ true) (sym (same-place p r h)) j) i
    put true h false i false j ih = ih
    put false h true i e j ih = ap (λ x. x || is_among q (without_place p ps)) (off (same_place q r) refl) ∙ ih
      where
        off : (x : Bool) → same_place q r ≡ x → same_place q r ≡ false
        off true j = clash (same_place p r) (subst (λ (x : Place). same_place x r ≡ true) (same-place q p i) j) h
        off false j = j
    put false h false i e j ih = ap (λ x. x || is_among q (without_place p ps)) j ∙ ap (λ x. e || x) ih

pub open-among : {J : Type 0} (q : Place) (es : List (LocalAction J)) → is_open q es ≡ is_among q (open_places es)
open-among q [] = refl
open-among q (Told w ∷ es) = open-among q es
open-among q (Did (Began now (start.Client c)) ∷ es) = sym (or-false (same_place q place.Client))
open-among q (Did (Dial host port true) ∷ es) =
    ap (λ c. same_place q (place.Sock (socket_count es)) || c) (open-among q es) ∙ sym (among-end q (place.Sock (socket_count es)) (open_places es))
open-among q (Did (Take key (Some uses)) ∷ es) =
    ap (λ c. same_place q (place.Sock (socket_count es)) || c) (open-among q es) ∙ sym (among-end q (place.Sock (socket_count es)) (open_places es))
open-among q (Did (Close p) ∷ es) = ap (λ c. if same_place q p then false else c) (open-among q es) ∙ sym (among-without q p (open_places es))
open-among q (Did (Keep k key idle size) ∷ es) =
    ap (λ c. if same_place q (place.Sock k) then false else c) (open-among q es) ∙ sym (among-without q (place.Sock k) (open_places es))
open-among q (Did x ∷ es) = open-among q es

none-among : (ps : List Place) → ((q : Place) → is_among q ps ≡ false) → ps ≡ []
none-among [] h = refl
none-among (p ∷ ps) h = clash (is_among p (p ∷ ps)) (ap (λ c. c || is_among p ps) (place-self p)) (h p)

-- where no place is open there is no open place, and the other way round
pub none-open : {J : Type 0} (es : List (LocalAction J)) → ((q : Place) → is_open q es ≡ false) → open_places es ≡ []
none-open es h = none-among (open_places es) (λ q. sym (open-among q es) ∙ h q)

pub no-place-open : {J : Type 0} (q : Place) (es : List (LocalAction J)) → open_places es ≡ [] → is_open q es ≡ false
no-place-open q es h = open-among q es ∙ ap (is_among q) h

-- the first of the open places is open
pub first-open : {J : Type 0} (q : Place) (rest : List Place) (es : List (LocalAction J)) → (q ∷ []) ++ rest ≡ open_places es → is_open q es ≡ true
first-open q rest es h = open-among q es ∙ ap (is_among q) (sym h) ∙ ap (λ c. c || is_among q rest) (place-self q)
