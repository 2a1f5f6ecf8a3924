-- Small executions: of deadlines, of jobs that begin after Stop, of readiness and of drops.
use Rattle.std.proofs.Common.{◌≡◌, ◌⊎◌, inl, inr, ℕ, max, true, false, List, [], ◌∷◌, Option, Some, None, if◌then◌else◌, refl, sym, ap, ◌∙◌, le-leb, le_refl, lit<, arith}
use Rattle.resty_base.specs.declared.names.StrandId.{StrandId}
use Rattle.resty_base.specs.BoolLaws.{clash}
use Rattle.strand_contract.specs.declared.turns.Place.{Place}
use Rattle.strand_contract.specs.declared.turns.Place.TheVariants as place
use Rattle.strand_contract.specs.declared.turns.Start.TheVariants as start
use Rattle.strand_contract.specs.Actions.{Moment, Action, Began, Bytes, Ready, Run, Offer, Due, Halted, Dropped, LocalAction, Told, Did, is_given}
use Rattle.executions.specs.Executions.{GlobalAction, Of, projection}
use Rattle.strand_contract.specs.Behaviors.{Behavior}
use Rattle.strand_contract.specs.Alone.{lives, is_open, open_places, was_put_off, is_winding_up, queued, due, Enabled, IsExecution, IsQuiescent, KeepsNothingBack}
use Rattle.executions.specs.Strands.{is_under_way, NoneUnderWay}
use Rattle.executions.proofs.Strands.{none-is-so}
use Rattle.executions.specs.Lawful.{IsLawful}
use Rattle.strand_contract.specs.Laws.{Grows, WakesQuietly}
use Rattle.strand_contract.specs.Mute.{was_halted}
use Rattle.strand_contract.specs.OpenPlaceLaws.{place-self}
use Rattle.executions.specs.Ordered.{IsOrdered}
use Rattle.execution_laws.specs.Examples.{waker, begun, sends_anew, arms_at_a_moment, began_premature, begins_turn}

at-now : (now at : ℕ) → at ≡ now → due at ((0, now) ∷ []) ≡ Some (0, now)
at-now now at e = ap (λ n. due n ((0, now) ∷ [])) e ∙ ap (λ v. if v then Some (0, now) else None) (le-leb now now (le_refl now))

max-same : (n : ℕ) → max n n ≡ n
max-same n = omega arith

some-open : {C : Type 0} (ps rest : List Place) (q : Place) → ps ≡ [] → ps ≡ q ∷ rest → C
some-open ps rest q none some = absurd (let e : [] ≡ q ∷ rest = sym none ∙ some in cc)

module _ {J : Type 0} where
  -- a deadline that is armed for now
  pub begun-rests : (now c : ℕ) → IsExecution {J = J} waker (begun now c) × IsQuiescent {J = J} waker (begun now c)
  begun-rests now c = (
    (tt, refl),
    record {
      idle = λ live. record { no_act = refl; no_thread = refl; no_place = refl; no_offer = refl; no_deadline = λ waking. clash waking refl; no_stop = refl; no_end = refl };
      closed = λ off. clash refl off;
    },
  )

  pub begun-waits : (now c n : ℕ) → Enabled {J = J} waker (begun now c) (Did (Due n)) → ⊥
  begun-waits now c n may = clash may.1 refl

  pub told-due : (now c : ℕ) → Enabled {J = J} waker (Told (Moment now) ∷ begun now c) (Did (Due 0))
  told-due now c = (record { living = refl; no_act = refl; no_offer = refl }, refl, (now, at-now now (max now now) (max-same now)))

  -- a job that began after Stop
  pub ended : (es : List (LocalAction J)) → began_premature es ≡ true → is_winding_up es ≡ false → was_halted es ≡ true
  ended [] began off = clash began refl
  ended (Did (Began now (start.Job j premature job)) ∷ es) began off = clash began off
  ended (Did Halted ∷ es) began off = refl
  ended (a ∷ es) began off = ended es began off

  pub premature-ended : (b : Behavior J) (es : List (LocalAction J)) → began_premature es ≡ true → lives es ≡ true → IsQuiescent b es → was_halted es ≡ true
  premature-ended b es began live rests = ended es began (rests.idle live).no_end

  -- a place that takes bytes again
  pub ready-place : (q : Place) (es : List (LocalAction J)) → was_put_off q (Did (Ready q) ∷ es) ≡ false
  ready-place q es = ap (λ v. if v then false else was_put_off q es) (place-self q)

  pub ready-offered : (b : Behavior J) (q : Place) (es : List (LocalAction J)) → KeepsNothingBack b (Did (Ready q) ∷ es) → is_open q es ≡ true → queued b q (Did (Ready q) ∷ es) ≡ []
  ready-offered b q es keeps on = elim (keeps q on) [ inl empty ↦ empty | inr later ↦ clash later (ready-place q es) ]

  -- a drop in the place of the beginning
  pub dropped-first : (b : Behavior J) → IsExecution b (Did Dropped ∷ []) × IsQuiescent b (Did Dropped ∷ [])
  dropped-first b = ((tt, inr refl), record { idle = λ live. clash live refl; closed = λ off. refl })

  still-open : (b : Behavior J) (s : StrandId) (q : Place) (rest : List Place) (ms : List (GlobalAction J)) → lives (projection s ms) ≡ false → open_places (projection s ms) ≡ q ∷ rest → NoneUnderWay b ms → ⊥
  still-open b s q rest ms gone open_ none = clash (way gone open_) (none-is-so (is_under_way b) ms refl none s)
    where
      way : lives (projection s ms) ≡ false → open_places (projection s ms) ≡ q ∷ rest → is_under_way b (projection s ms) ≡ true
      way off some = rw (off, some) refl

  -- what a dropped strand leaves open is closed first
  pub closed-first : (b : Behavior J) (s t : StrandId) (x : Action J) (n : Option ℕ) (q : Place) (rest : List Place) (ms : List (GlobalAction J))
      → lives (projection s ms) ≡ false → open_places (projection s ms) ≡ q ∷ rest
      → IsLawful b (Of t x n ∷ ms) → IsOrdered b (Of t x n ∷ ms) → (begins_turn x ≡ true) ⊎ (is_given x ≡ true) → ⊥
  closed-first b s t x n q rest ms gone open_ lawful ordered (inr given) = some-open _ rest q (((lawful.given.1 given).each s).closed gone) open_
  closed-first b s t (Run k) n q rest ms gone open_ lawful ordered (inl begins) = still-open b s q rest ms gone open_ ordered.1.0
  closed-first b s t (Offer p) n q rest ms gone open_ lawful ordered (inl begins) = still-open b s q rest ms gone open_ ordered.1.0
  closed-first b s t (Due k) n q rest ms gone open_ lawful ordered (inl begins) = still-open b s q rest ms gone open_ ordered.1.0
  closed-first b s t Halted n q rest ms gone open_ lawful ordered (inl begins) = still-open b s q rest ms gone open_ ordered.1.0
  closed-first b s t x n q rest ms gone open_ lawful ordered (inl begins) = clash begins refl

  -- a reply that is sent anew isn't behind what was sent
  abbrev came : List (LocalAction J)
  came = Did (Bytes place.Client (1 ∷ [])) ∷ begun 0 1

  pub not-grows : Grows {J = J} sends_anew → ⊥
  not-grows grows =
      let part = grows place.Client (Did (Bytes place.Client (2 ∷ []))) came ((((tt, refl), given), given2)) in
      let e : 1 ∷ part.0 ≡ 2 ∷ [] = part.1 in cc
    where
      given : Enabled {J = J} sends_anew (begun 0 1) (Did (Bytes place.Client (1 ∷ [])))
      given = (record { living = refl; idle = record { no_act = refl; no_thread = refl; no_place = refl; no_offer = refl; no_deadline = λ waking. clash waking refl; no_stop = refl; no_end = refl }; opened = refl }, refl, lit< tt)

      given2 : Enabled {J = J} sends_anew came (Did (Bytes place.Client (2 ∷ [])))
      given2 = (record { living = refl; idle = record { no_act = refl; no_thread = refl; no_place = refl; no_offer = refl; no_deadline = λ waking. clash waking refl; no_stop = refl; no_end = refl }; opened = refl }, refl, lit< tt)

  -- a deadline that is armed when one is due
  pub not-quiet : WakesQuietly {J = J} arms_at_a_moment → ⊥
  not-quiet quiet = quiet (Did (Due 0)) (Told (Moment 0) ∷ begun 0 1) (((tt, refl), told), taken) refl
    where
      told : Enabled {J = J} arms_at_a_moment (begun 0 1) (Told (Moment 0))
      told = (refl, record { no_act = refl; no_thread = refl; no_place = refl; no_offer = refl; no_deadline = λ waking. clash waking refl; no_stop = refl; no_end = refl })

      taken : Enabled {J = J} arms_at_a_moment (Told (Moment 0) ∷ begun 0 1) (Did (Due 0))
      taken = (record { living = refl; no_act = refl; no_offer = refl }, refl, (0, refl))
