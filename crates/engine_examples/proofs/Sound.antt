-- What breaks nothing is lawful, kept, plain and ordered.
use Rattle.std.specs.Prelude.{◌≡◌, ◌⊎◌, ◌<◌, ℕ, Bool, true, false, not, ◌&&◌, ◌||◌, ◌==◌, List, [], ◌∷◌, ◌++◌, length, Option, Some, None, if◌then◌else◌}
use Rattle.std.specs.Prelude.{refl}
use Rattle.std.proofs.Common.{arith, inl, inr, sym, ◌∙◌, ap, subst}
use Rattle.std.proofs.lemmas.Bool.{eqb-true, and_parts, not-true}
use Rattle.resty_base.specs.declared.names.Ms.{Ms}
use Rattle.resty_base.specs.declared.dictionary.DictCall.{DictCall}
use Rattle.resty_base.specs.declared.dictionary.DictAnswer.{DictAnswer}
use Rattle.strand_contract.specs.declared.turns.Place.{Place}
use Rattle.strand_contract.specs.declared.turns.Place.TheVariants as place
use Rattle.strand_contract.specs.declared.turns.Act.{Act}
use Rattle.strand_contract.specs.declared.turns.Act.TheVariants as act
use Rattle.shared_rules.specs.Ranges.{MayAnswer}
use Rattle.shared_rules.specs.Keys.{same_key}
use Rattle.shared_rules.specs.KeyLaws.{same_key-eq}
use Rattle.resty_world.specs.declared.answers.TimerAnswer.{TimerAnswer}
use Rattle.executions.specs.Strands.{has_some}
use Rattle.strand_contract.specs.Actions.{Began, Bytes, Ended, Broken, Ready, Dialled, Refused, Put, Later, Lost, Close, Log, Dict, Take, Dial, Keep, Timer}
use Rattle.strand_contract.specs.Actions.{Dropped, Run, Offer, Due, Halted, Gone, LocalAction, Told, Did, same_place}
use Rattle.strand_contract.specs.Behaviors.{Behavior}
use Rattle.strand_contract.specs.Alone.{lives, was_dropped, moment, is_stopping, is_waking, is_winding_up, is_open, open_places, has_ended, was_put_off}
use Rattle.strand_contract.specs.Alone.{queued, piece, todo, waiting, to_offer, armed, due, offering, in_offers, is_some_left, HasNoWork, IsQuiescent}
use Rattle.strand_contract.specs.Alone.{IsBetween, IsGivenAt, IsOfferedAt, IsPrefixOf, NoneIsDue, Enabled, KeepsNothingBack}
use Rattle.engine_examples.specs.Checks.{none, empty, same_call, is_place, starts_with, first_is, first_place, none_is_due, has_no_work, is_quiescent, is_between}
use Rattle.engine_examples.specs.Checks.{is_given_at, is_offered_at, does_next, is_due, enabled, holds_nothing_at, holds_nothing}
use Rattle.engine_examples.proofs.Same.{bad, clash, and3, and4, and5, and7, same-call, is-place, is-none, is-empty}
use Rattle.strand_contract.specs.OpenPlaceLaws.{is_among, open-among, same-place}

pub one-of : (x y : Bool) → (x || y) ≡ true → (x ≡ true) ⊎ (y ≡ true)
one-of true y h = inl refl
one-of false y h = inr h

pub if-so : (x y : Bool) → (not x || y) ≡ true → x ≡ true → y ≡ true
if-so true y h on = h
if-so false y h on = bad on

some-left : (xs : List ℕ) → not (is_some_left xs) ≡ true → xs ≡ []
some-left [] h = refl
some-left (x ∷ xs) h = bad h

some-length : (xs : List ℕ) → has_some xs ≡ true → 0 < length xs
some-length [] h = bad h
some-length (x ∷ xs) h = omega arith

prefix : (xs ys : List ℕ) → starts_with xs ys ≡ true → IsPrefixOf xs ys
prefix [] ys h = (ys, refl)
prefix (x ∷ xs) (y ∷ ys) h = let g = and_parts (x == y) (starts_with xs ys) h in let r = prefix xs ys g.1 in (r.0, ap (λ z. z ∷ xs ++ r.0) (eqb-true x y g.0) ∙ ap (λ zs. y ∷ zs) r.1)
prefix (x ∷ xs) [] h = bad h

first-thread : (k : ℕ) (js : List ℕ) → first_is k js ≡ true → IsPrefixOf (k ∷ []) js
first-thread k [] h = bad h
first-thread k (j ∷ js) h = (js, ap (λ z. z ∷ js) (eqb-true k j h))

first-offer : (q : Place) (ps : List Place) → first_place q ps ≡ true → IsPrefixOf (q ∷ []) ps
first-offer q [] h = bad h
first-offer q (p ∷ ps) h = (ps, ap (λ z. z ∷ ps) (same-place q p h))

due-first : (n : ℕ) (o : Option (ℕ × ℕ)) → is_due n o ≡ true → (at : ℕ) × (o ≡ Some (n, at))
due-first n None h = bad h
due-first n (Some d) h = (d.1, ap (λ m. Some (m, d.1)) (sym (eqb-true n d.0 h)))

next-close : {J : Type 0} → (q : Place) (acts : List (Act J)) → does_next (Close q) acts ≡ true → (rest : List (Act J)) × (acts ≡ act.HangUp q ∷ rest)
next-close q [] h = bad h
next-close q (act.HangUp p ∷ acts) h = (acts, ap (λ z. act.HangUp z ∷ acts) (sym (same-place q p h)))
next-close q (a ∷ acts) h = bad h

next-log : {J : Type 0} → (text : List ℕ) (done : Bool) (acts : List (Act J)) → does_next (Log text done) acts ≡ true → (rest : List (Act J)) × (acts ≡ act.Log text ∷ rest)
next-log text done [] h = bad h
next-log text done (act.Log x ∷ acts) h = (acts, ap (λ z. act.Log z ∷ acts) (sym (same_key-eq text x h)))
next-log text done (a ∷ acts) h = bad h

next-dict : {J : Type 0} → (z : ℕ) (c : DictCall) (g : DictAnswer) (acts : List (Act J)) → does_next (Dict z c g) acts ≡ true → acts ≡ act.Dict z c ∷ []
next-dict z c g [] h = bad h
next-dict z c g (act.Dict y d ∷ []) h = let e = and_parts (z == y) (same_call c d) h in ap (λ x. act.Dict x d ∷ []) (sym (eqb-true z y e.0)) ∙ ap (λ x. act.Dict z x ∷ []) (sym (same-call c d e.1))
next-dict z c g (a ∷ acts) h = bad h

next-take : {J : Type 0} → (key : List ℕ) (uses : Option ℕ) (acts : List (Act J)) → does_next (Take key uses) acts ≡ true → acts ≡ act.Take key ∷ []
next-take key uses [] h = bad h
next-take key uses (act.Take x ∷ []) h = ap (λ z. act.Take z ∷ []) (sym (same_key-eq key x h))
next-take key uses (a ∷ acts) h = bad h

next-dial : {J : Type 0} → (host : List ℕ) (port : ℕ) (done : Bool) (acts : List (Act J)) → does_next (Dial host port done) acts ≡ true → acts ≡ act.Dial host port ∷ []
next-dial host port done [] h = bad h
next-dial host port done (act.Dial x y ∷ []) h = let e = and_parts (same_key host x) (port == y) h in ap (λ z. act.Dial z y ∷ []) (sym (same_key-eq host x e.0)) ∙ ap (λ z. act.Dial host z ∷ []) (sym (eqb-true port y e.1))
next-dial host port done (a ∷ acts) h = bad h

next-keep : {J : Type 0} → (k : ℕ) (key : List ℕ) (idle : Ms) (size : ℕ) (acts : List (Act J)) → does_next (Keep k key idle size) acts ≡ true → acts ≡ act.Keep k key idle size ∷ []
next-keep k key idle size [] h = bad h
next-keep k key idle size (act.Keep j x span most ∷ []) h = let e = and4 (k == j) (same_key key x) (idle.0 == span.0) (size == most) h in
    ap (λ z. act.Keep z x span most ∷ []) (sym (eqb-true k j e.0)) ∙ ap (λ z. act.Keep k z span most ∷ []) (sym (same_key-eq key x e.1))
    ∙ ap (λ z. act.Keep k key (record { 0 = z }) most ∷ []) (sym (eqb-true idle.0 span.0 e.2)) ∙ ap (λ z. act.Keep k key idle z ∷ []) (sym (eqb-true size most e.3))
next-keep k key idle size (a ∷ acts) h = bad h

next-timer : {J : Type 0} → (at : Ms) (g : TimerAnswer) (acts : List (Act J)) → does_next (Timer at g) acts ≡ true → (job : J) × (acts ≡ act.Timer at job ∷ [])
next-timer at g [] h = bad h
next-timer at g (act.Timer due job ∷ []) h = (job, ap (λ z. act.Timer (record { 0 = z }) job ∷ []) (sym (eqb-true at.0 due.0 h)))
next-timer at g (a ∷ acts) h = bad h

next-gone : {J : Type 0} → (acts : List (Act J)) → does_next Gone acts ≡ true → acts ≡ act.Gone ∷ []
next-gone [] h = bad h
next-gone (act.Gone ∷ []) h = refl
next-gone (a ∷ acts) h = bad h

module _ {J : Type 0} (b : Behavior J) where
  due-none : (es : List (LocalAction J)) → none_is_due b es ≡ true → NoneIsDue b es
  due-none es h on = is-none (due (moment es) (armed b es)) (if-so (is_waking es) (none (due (moment es) (armed b es))) h on)

  pub no-work : (es : List (LocalAction J)) → has_no_work b es ≡ true → HasNoWork b es
  no-work es h = let g = and7 (empty (todo b es)) (empty (waiting b es)) (empty (to_offer b es)) (none (offering b es)) (none_is_due b es) (not (is_stopping es)) (not (is_winding_up es)) h in record {
    no_act = is-empty (todo b es) g.0;
    no_thread = is-empty (waiting b es) g.1;
    no_place = is-empty (to_offer b es) g.2;
    no_offer = is-none (offering b es) g.3;
    no_deadline = due-none es g.4;
    no_stop = not-true (is_stopping es) g.5;
    no_end = not-true (is_winding_up es) g.6;
  }

  pub quiescent : (es : List (LocalAction J)) → is_quiescent b es ≡ true → IsQuiescent b es
  quiescent es h = record {
    idle = λ on. no-work es (sym (ap (λ c. if c then has_no_work b es else empty (open_places es)) on) ∙ h);
    closed = λ off. is-empty (open_places es) (sym (ap (λ c. if c then has_no_work b es else empty (open_places es)) off) ∙ h);
  }

  between : (es : List (LocalAction J)) → is_between b es ≡ true → IsBetween b es
  between es h = let g = and3 (lives es) (empty (todo b es)) (none (offering b es)) h in record { living = g.0; no_act = is-empty (todo b es) g.1; no_offer = is-none (offering b es) g.2 }

  given-at : (es : List (LocalAction J)) (q : Place) → is_given_at b es q ≡ true → IsGivenAt b es q
  given-at es q h = let g = and3 (lives es) (has_no_work b es) (is_open q es) h in record { living = g.0; idle = no-work es g.1; opened = g.2 }

  offered-at : (es : List (LocalAction J)) (q : Place) → is_offered_at b es q ≡ true → IsOfferedAt b es q
  offered-at es q h = let g = and3 (lives es) (empty (todo b es)) (is_place q (offering b es)) h in record { living = g.0; no_act = is-empty (todo b es) g.1; offered = is-place q (offering b es) g.2 }

  -- an action of one strand may come; of a dictionary's answer it must be known besides
  abbrev pub MayTell : LocalAction J → Type 0
  MayTell (Did (Dict z c g)) = MayAnswer c g
  MayTell a = Unit {0}

  pub may-come : (es : List (LocalAction J)) (a : LocalAction J) → enabled b es a ≡ true → MayTell a → Enabled b es a
  may-come es (Told w) h m = let g = and_parts (lives es) (has_no_work b es) h in (g.0, no-work es g.1)
  may-come es (Did (Began now how)) h m = is-empty es h
  may-come es (Did (Bytes q bytes)) h m = let g = and3 (is_given_at b es q) (not (has_ended q es)) (has_some bytes) h in (given-at es q g.0, not-true (has_ended q es) g.1, some-length bytes g.2)
  may-come es (Did (Ended q)) h m = given-at es q h
  may-come es (Did (Broken q)) h m = given-at es q h
  may-come es (Did (Ready q)) h m = given-at es q h
  may-come es (Did (Dialled k)) h m = given-at es (place.Sock k) h
  may-come es (Did (Refused k)) h m = given-at es (place.Sock k) h
  may-come es (Did (Put q bytes)) h m = let g = and3 (is_offered_at b es q) (has_some bytes) (starts_with bytes (piece b q es)) h in (offered-at es q g.0, some-length bytes g.1, prefix bytes (piece b q es) g.2)
  may-come es (Did (Later q)) h m = offered-at es q h
  may-come es (Did (Lost q)) h m = offered-at es q h
  may-come es (Did (Close q)) h m = elim (one-of (does_next (Close q) (todo b es) && is_open q es) (was_dropped es && first_place q (open_places es)) h) [
    | inl w ↦ (let g = and_parts (does_next (Close q) (todo b es)) (is_open q es) w in inl (next-close q (todo b es) g.0, g.1))
    | inr w ↦ (let g = and_parts (was_dropped es) (first_place q (open_places es)) w in inr (g.0, first-offer q (open_places es) g.1))
  ]
  may-come es (Did (Log text done)) h m = next-log text done (todo b es) h
  may-come es (Did (Dict z c g)) h m = (next-dict z c g (todo b es) h, m)
  may-come es (Did (Take key uses)) h m = next-take key uses (todo b es) h
  may-come es (Did (Dial host port done)) h m = next-dial host port done (todo b es) h
  may-come es (Did (Keep k key idle size)) h m = let g = and_parts (does_next (Keep k key idle size) (todo b es)) (is_open (place.Sock k) es) h in (next-keep k key idle size (todo b es) g.0, g.1)
  may-come es (Did (Timer at g)) h m = next-timer at g (todo b es) h
  may-come es (Did Dropped) h m = elim (one-of (lives es) (empty es) h) [
    | inl w ↦ inl w
    | inr w ↦ inr (is-empty es w)
  ]
  may-come es (Did (Run k)) h m =
      let g = and5 (is_between b es) (first_is k (waiting b es)) (not (in_offers es) || empty (to_offer b es)) (none_is_due b es) (not (is_stopping es)) h in
      (between es g.0, first-thread k (waiting b es) g.1, λ on. is-empty (to_offer b es) (if-so (in_offers es) (empty (to_offer b es)) g.2 on), due-none es g.3, not-true (is_stopping es) g.4)
  may-come es (Did (Offer q)) h m =
      let g = and5 (is_between b es) (first_place q (to_offer b es)) (in_offers es || empty (waiting b es)) (none_is_due b es) (not (is_stopping es)) h in (
        between es g.0,
        first-offer q (to_offer b es) g.1,
        λ off. is-empty (waiting b es) (elim (one-of (in_offers es) (empty (waiting b es)) g.2) [
          | inl w ↦ clash (in_offers es) w off
          | inr w ↦ w
        ]),
        due-none es g.3,
        not-true (is_stopping es) g.4,
      )
  may-come es (Did (Due n)) h m = let g = and3 (is_between b es) (is_waking es) (is_due n (due (moment es) (armed b es))) h in (between es g.0, g.1, due-first n (due (moment es) (armed b es)) g.2)
  may-come es (Did Halted) h m = let g = and_parts (is_between b es) (is_stopping es || (is_winding_up es && empty (waiting b es) && empty (to_offer b es))) h in (
    between es g.0,
    elim (one-of (is_stopping es) (is_winding_up es && empty (waiting b es) && empty (to_offer b es)) g.1) [
      | inl w ↦ inl w
      | inr w ↦ (let f = and3 (is_winding_up es) (empty (waiting b es)) (empty (to_offer b es)) w in inr (f.0, record { no_thread = is-empty (waiting b es) f.1; no_place = is-empty (to_offer b es) f.2 }))
    ],
  )
  may-come es (Did Gone) h m = next-gone (todo b es) h

  -- nothing is held back at the open places, and these are all
  held-at : (es : List (LocalAction J)) (ps : List Place) (q : Place) → holds_nothing_at b ps es ≡ true → is_among q ps ≡ true → (queued b q es ≡ []) ⊎ (was_put_off q es ≡ true)
  held-at es [] q h i = bad i
  held-at es (p ∷ ps) q h i =
      let g = and_parts (not (is_some_left (queued b p es)) || was_put_off p es) (holds_nothing_at b ps es) h in
      elim (one-of (same_place q p) (is_among q ps) i) [
        | inl w ↦ subst (λ (r : Place). (queued b r es ≡ []) ⊎ (was_put_off r es ≡ true)) (sym (same-place q p w)) (elim (one-of (not (is_some_left (queued b p es))) (was_put_off p es) g.0) [
          | inl v ↦ inl (some-left (queued b p es) v)
          | inr v ↦ inr v
        ])
        | inr w ↦ held-at es ps q g.1 w
      ]

  pub keeps : (es : List (LocalAction J)) → holds_nothing b es ≡ true → lives es ≡ true → KeepsNothingBack b es
  keeps es h on q opened = held-at es (open_places es) q (if-so (lives es) (holds_nothing_at b (open_places es) es) h on) (sym (open-among q es) ∙ opened)
