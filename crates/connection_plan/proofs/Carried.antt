-- The acts of a run's turn are acts of its connection's turn, one for one: a step for each deed that is no word.
use Rattle.std.proofs.Common.{◌≡◌, ℕ, not, Bool, true, false, List, [], ◌∷◌, ◌++◌, refl}
use Rattle.strand_contract.specs.declared.turns.Act.{Act}
use Rattle.strand_contract.specs.declared.turns.Act.TheVariants as act
use Rattle.strand_contract.specs.declared.turns.Place.TheVariants as place
use Rattle.strand_plans.specs.Ledgers.{Ledger, has, has_number, wants_offer}
use Rattle.strand_plans.specs.Moves.{Move, Performed, with_sent, with_offer, with_thread, hung_up, after_act_if, perform}
use Rattle.run_contract.specs.declared.turns.RunAct.{RunAct}
use Rattle.run_contract.specs.declared.turns.RunAct.TheVariants as made
use Rattle.run_contract.specs.Deeds as deed
use Rattle.run_contract.specs.Deeds.{Deed, made_if}
use Rattle.connection_plan.specs.Lifts.{lifted_deed}
use Rattle.connection_plan.specs.Services.{Service, Both}
use Rattle.connection_plan.specs.Turns.{says}

module _ {J R : Type 0} (site : Service J R) (now : ℕ) where
  -- the acts among what a run did, in order
  abbrev pub acts_in : List (RunAct J) → List (Act J)
  acts_in [] = []
  acts_in (made.Act a ∷ rest) = a ∷ acts_in rest
  acts_in (made.Say w ∷ rest) = acts_in rest

  one : (c : Bool) (a : Act J) (p : Performed J (Both R)) → after_act_if c a p ≡ record { state = p.state; acts = acts_in (made_if c a) ++ p.acts }
  one true a p = refl
  one false a p = refl

  abbrev IsWord : Deed → Type 0
  IsWord (deed.Say w) = Unit {0}
  IsWord d = ⊥

  -- a deed that is no word, and what comes after it: first its act, if it is one in this ledger
  pub deed-carried : (d : Deed) (m : Move J (Both R)) (b : Ledger J) (s : Both R) → (IsWord d → ⊥)
      → perform (lifted_deed (says site now) d m) b s
      ≡ (let p = perform m (deed.ledger_by d b) s in record { state = p.state; acts = acts_in (deed.made_by d b) ++ p.acts })
  deed-carried (deed.Ready k) m b s h = one (not (has_number k b.threads)) (act.Ready k) (perform m (with_thread k b) s)
  deed-carried (deed.HangUp k) m b s h = one (has (place.Sock k) b.opened) (act.HangUp (place.Sock k)) (perform m (hung_up (place.Sock k) b) s)
  deed-carried (deed.Send k bytes) m b s h =
      let c = with_sent (place.Sock k) bytes b in one (wants_offer (place.Sock k) c) (act.Offer (place.Sock k)) (perform m (with_offer (place.Sock k) c) s)
  deed-carried (deed.Unready k) m b s h = refl
  deed-carried (deed.Arm k at) m b s h = refl
  deed-carried (deed.Cancel k) m b s h = refl
  deed-carried (deed.Log line) m b s h = refl
  deed-carried (deed.Say w) m b s h = absurd (h tt)
