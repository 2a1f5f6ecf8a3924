-- A plan that may ask nothing has its client's connection alone.
use Rattle.strand_contract.specs.Actions.{LocalAction, Told, Did}
use Rattle.strand_contract.specs.Actions.{Take, Dial, Dropped}
use Rattle.strand_contract.specs.Alone.{was_dropped, moment}
use Rattle.strand_contract.specs.Alone.{IsExecution}
use Rattle.strand_contract.specs.ClientOnlyLaws.{clash}
use Rattle.strand_plans.specs.Questions.{Question}
use Rattle.strand_plans.specs.Questions as question
use Rattle.strand_plans.specs.Ledgers.{has, entered}
use Rattle.strand_plans.specs.Moves.{State}
use Rattle.strand_plans.specs.Plans.{Plan, move_of, state_of, behavior_of}
use Rattle.strand_plans.specs.Conditions.{IsPlan}
use Rattle.strand_plans.specs.Tidiness.{PlacesOnce}
use Rattle.std.proofs.Common.{◌≡◌, ℕ, Bool, true, false, ◌||◌, List, [], ◌∷◌, Some, if◌then◌else◌, refl, sym, ap, ◌∙◌, arith}
use Rattle.strand_contract.specs.declared.turns.Place.{Place}
use Rattle.strand_contract.specs.declared.turns.Place.TheVariants as place
use Rattle.strand_contract.specs.OpenPlaceLaws.{place-self}
use Rattle.strand_plans.proofs.Ledgers.{unmoved}
use Rattle.strand_plans.proofs.Executions.{agrees, comes}

none-has : (qs : List Place) → ((q : Place) → has q qs ≡ false) → qs ≡ []
none-has [] h = refl
none-has (q ∷ qs) h = clash (has q (q ∷ qs)) (rw (place-self q) refl) (h q)

client-alone : (qs : List Place) → PlacesOnce qs → ((k : ℕ) → has (place.Sock k) qs ≡ false) → qs ≡ (if has place.Client qs then place.Client ∷ [] else [])
client-alone [] once none = refl
client-alone (place.Client ∷ qs) once none = ap (λ ps. place.Client ∷ ps) (none-has qs every)
  where
    every : (q : Place) → has q qs ≡ false
    every place.Client = once.0
    every (place.Sock k) = none k
client-alone (place.Sock k ∷ qs) once none = clash (has (place.Sock k) (place.Sock k ∷ qs)) (rw (place-self (place.Sock k)) refl) (none k)

module _ {J S : Type 0} (p : Plan J S) (holds : State J S → Type 0) (may_ask : Question J → Type 0) (plan : IsPlan p holds may_ask) (nothing : (q : Question J) → may_ask q → ⊥) where
  asked : {C : Type 0} (es : List (LocalAction J)) (q : Question J) → IsExecution (behavior_of p) es → was_dropped es ≡ false → (state_of p es).ledger.asked ≡ Some q → C
  asked es q f d e = absurd (nothing q (plan.asks (state_of p es) q (agrees p holds may_ask plan es f d).inner e))

  counted : (a : LocalAction J) (es : List (LocalAction J)) → (entered a (state_of p es).ledger).count ≡ 0 → (state_of p (a ∷ es)).ledger.count ≡ 0
  counted a es e = let st = state_of p es in (unmoved (move_of p (moment (a ∷ es)) a st) (entered a st.ledger) st.inner).3 ∙ e

  none-counted : (es : List (LocalAction J)) → IsExecution (behavior_of p) es → was_dropped es ≡ false → (state_of p es).ledger.count ≡ 0
  none-counted [] f d = refl
  none-counted (Told w ∷ es) f d = counted (Told w) es (none-counted es f.0 d)
  none-counted (Did (Take key uses) ∷ es) f d = asked es (question.Take key) f.0 d (comes p holds may_ask plan (Did (Take key uses)) es (agrees p holds may_ask plan es f.0 d) f.1)
  none-counted (Did (Dial host port done) ∷ es) f d = asked es (question.Dial host port) f.0 d (comes p holds may_ask plan (Did (Dial host port done)) es (agrees p holds may_ask plan es f.0 d) f.1)
  none-counted (Did Dropped ∷ es) f d = clash true refl d
  none-counted (Did x ∷ es) f d = counted (Did x) es (none-counted es f.0 d)

  pub alone : (es : List (LocalAction J)) → IsExecution (behavior_of p) es → was_dropped es ≡ false → let b = (state_of p es).ledger in b.opened ≡ (if has place.Client b.opened then place.Client ∷ [] else [])
  alone es f d =
      let b = (state_of p es).ledger in
      let n = (agrees p holds may_ask plan es f d).numbered in
      let none = none-counted es f d in
      client-alone b.opened n.once (λ k. n.there k (omega (arith, none)))

one-place : (c : Bool) (q : Place) → has q (if c then place.Client ∷ [] else []) ≡ true → q ≡ place.Client
one-place c place.Client h = refl
one-place true (place.Sock k) h = clash false h refl
one-place false (place.Sock k) h = clash false h refl

-- a place that is open is the client's line
pub is-client : (qs : List Place) (q : Place) → qs ≡ (if has place.Client qs then place.Client ∷ [] else []) → has q qs ≡ true → q ≡ place.Client
is-client qs q e h = one-place (has place.Client qs) q (sym (ap (has q) e) ∙ h)
