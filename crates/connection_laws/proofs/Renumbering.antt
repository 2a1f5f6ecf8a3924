-- An execution of a strand that doesn't know its number is one under any other number.
use Rattle.std.proofs.Common.{◌≡◌, inl, inr, ℕ, false, List, [], ◌∷◌, refl, sym, ap, ◌∙◌}
use Rattle.strand_contract.specs.declared.turns.Place.{Place}
use Rattle.strand_contract.specs.declared.turns.Place.TheVariants as place
use Rattle.strand_contract.specs.declared.turns.Start.TheVariants as start
use Rattle.strand_contract.specs.declared.turns.Act.{Act}
use Rattle.strand_contract.specs.declared.turns.Act.TheVariants as act
use Rattle.strand_contract.specs.Actions.{LocalAction, Told, Did, Began, Bytes, Ended, Broken, Ready, Dialled, Refused, Put, Later, Lost, Close, Log, Dict, Take, Dial, Keep, Timer, Dropped, Run, Offer, Due, Halted, Gone}
use Rattle.strand_contract.specs.Behaviors.{Behavior}
use Rattle.strand_contract.specs.Alone.{was_dropped, Enabled, IsExecution, HasNoWork, IsQuiescent, NoneIsDue, IsBetween, IsGivenAt, IsOfferedAt, IsOutOfLine, IsNextAct}
use Rattle.strand_contract.specs.Laws.{IsQuiet}
use Rattle.executions.specs.Histories.{without_internal}
use Rattle.execution_laws.specs.StrandInputs.{gave}
use Rattle.execution_laws.proofs.Alone.{one-at-rest}
use Rattle.connection_laws.specs.Numbers.{DoTheSame, with_number, renumbered}
use Rattle.connection_laws.proofs.Alike.{AreAlike, alike, piece-alike, offering-alike, due-alike}

module _ {J : Type 0} (b : Behavior J) where
  -- what may come after the one may come after the other
  module _ (fs es : List (LocalAction J)) (h : AreAlike b fs es) where
    none-due : NoneIsDue b es → NoneIsDue b fs
    none-due m = λ c. due-alike b fs es h ∙ m (sym h.waking ∙ c)

    no-work : HasNoWork b es → HasNoWork b fs
    no-work m = record {
      no_act = h.acts_left ∙ m.no_act;
      no_thread = h.threads ∙ m.no_thread;
      no_place = h.queue ∙ m.no_place;
      no_offer = offering-alike b fs es h ∙ m.no_offer;
      no_deadline = none-due m.no_deadline;
      no_stop = h.stopping ∙ m.no_stop;
      no_end = h.winding ∙ m.no_end;
    }

    rests : IsQuiescent b es → IsQuiescent b fs
    rests m = record { idle = λ on. no-work (m.idle (sym h.living ∙ on)); closed = λ off. h.places ∙ m.closed (sym h.living ∙ off) }

    between : IsBetween b es → IsBetween b fs
    between m = record { living = h.living ∙ m.living; no_act = h.acts_left ∙ m.no_act; no_offer = offering-alike b fs es h ∙ m.no_offer }

    given-at : (q : Place) → IsGivenAt b es q → IsGivenAt b fs q
    given-at q m = record { living = h.living ∙ m.living; idle = no-work m.idle; opened = h.opened q ∙ m.opened }

    offered-at : (q : Place) → IsOfferedAt b es q → IsOfferedAt b fs q
    offered-at q m = record { living = h.living ∙ m.living; no_act = h.acts_left ∙ m.no_act; offered = offering-alike b fs es h ∙ m.offered }

    next-act : (x : Act J) → IsNextAct b es x → IsNextAct b fs x
    next-act x m = (m.0, h.acts_left ∙ m.1)

    out-of-line : IsOutOfLine b es → IsOutOfLine b fs
    out-of-line m = record { no_thread = h.threads ∙ m.no_thread; no_place = h.queue ∙ m.no_place }

    enabled : (n : ℕ) (a : LocalAction J) → (es ≡ [] → fs ≡ []) → Enabled b es a → Enabled b fs (with_number n a)
    enabled n (Told w) none m = (h.living ∙ m.0, no-work m.1)
    enabled n (Did (Began now (start.Client c))) none m = none m
    enabled n (Did (Began now (start.Job j premature job))) none m = none m
    enabled n (Did (Bytes q bytes)) none m = (given-at q m.0, h.ended q ∙ m.1, m.2)
    enabled n (Did (Ended q)) none m = given-at q m
    enabled n (Did (Broken q)) none m = given-at q m
    enabled n (Did (Ready q)) none m = given-at q m
    enabled n (Did (Dialled k)) none m = given-at (place.Sock k) m
    enabled n (Did (Refused k)) none m = given-at (place.Sock k) m
    enabled n (Did (Put q bytes)) none m = (offered-at q m.0, m.1, (m.2.0, m.2.1 ∙ sym (piece-alike b fs es h q)))
    enabled n (Did (Later q)) none m = offered-at q m
    enabled n (Did (Lost q)) none m = offered-at q m
    enabled n (Did (Close q)) none m = elim m [
      | inl next ↦ inl (next-act (act.HangUp q) next.0, h.opened q ∙ next.1)
      | inr first ↦ inr (h.dropped ∙ first.0, (first.1.0, first.1.1 ∙ sym h.places))
    ]
    enabled n (Did (Log line done)) none m = next-act (act.Log line) m
    enabled n (Did (Dict zone call answer)) none m = (h.acts_left ∙ m.0, m.1)
    enabled n (Did (Take key uses)) none m = h.acts_left ∙ m
    enabled n (Did (Dial host port done)) none m = h.acts_left ∙ m
    enabled n (Did (Keep k key idle size)) none m = (h.acts_left ∙ m.0, h.opened (place.Sock k) ∙ m.1)
    enabled n (Did (Timer at answer)) none m = (m.0, h.acts_left ∙ m.1)
    enabled n (Did Dropped) none m = elim m [ inl on ↦ inl (h.living ∙ on) | inr e ↦ inr (none e) ]
    enabled n (Did (Run k)) none m = (between m.0, (m.1.0, m.1.1 ∙ sym h.threads), λ c. h.queue ∙ m.2 (sym h.at_offers ∙ c), none-due m.3, h.stopping ∙ m.4)
    enabled n (Did (Offer q)) none m = (between m.0, (m.1.0, m.1.1 ∙ sym h.queue), λ c. h.threads ∙ m.2 (sym h.at_offers ∙ c), none-due m.3, h.stopping ∙ m.4)
    enabled n (Did (Due k)) none m = (between m.0, h.waking ∙ m.1, (m.2.0, due-alike b fs es h ∙ m.2.1))
    enabled n (Did Halted) none m = (between m.0, elim m.1 [ inl stop ↦ inl (h.stopping ∙ stop) | inr wind ↦ inr (h.winding ∙ wind.0, out-of-line wind.1) ])
    enabled n (Did Gone) none m = h.acts_left ∙ m

  -- a strand that does the same under that number
  module _ (n : ℕ) (same : (es : List (LocalAction J)) → DoTheSame b (renumbered n es) es) where
    execution : (es : List (LocalAction J)) → IsExecution b es → IsExecution b (renumbered n es)
    execution [] f = tt
    execution (a ∷ es) f = (execution es f.0, enabled (renumbered n es) es (alike b n same es) n a (λ none. ap (λ (l : List (LocalAction J)). renumbered n l) none) f.1)

    -- to which the same came as to another, but for the numbers, did the same
    pub one-renumbered : (es fs : List (LocalAction J)) → IsQuiet b → IsExecution b es → IsExecution b fs → was_dropped es ≡ false → was_dropped fs ≡ false
        → IsQuiescent b es → IsQuiescent b fs → gave (renumbered n es) ≡ gave fs → renumbered n es ≡ fs
    one-renumbered es fs quiet f g v w s t e = let h = alike b n same es in
        one-at-rest b (renumbered n es) fs quiet (execution es f) g (h.dropped ∙ v) w (rests (renumbered n es) es h s) t e

module _ {J : Type 0} (n : ℕ) where
  -- what leaves no entry is no beginning
  pub renumbered-shown : (es : List (LocalAction J)) → renumbered n (without_internal es) ≡ without_internal (renumbered n es)
  renumbered-shown [] = refl
  renumbered-shown (Told w ∷ es) = ap (λ (l : List (LocalAction J)). Told w ∷ l) (renumbered-shown es)
  renumbered-shown (Did (Began now (start.Client c)) ∷ es) = ap (λ (l : List (LocalAction J)). Did (Began now (start.Client n)) ∷ l) (renumbered-shown es)
  renumbered-shown (Did (Began now (start.Job j premature job)) ∷ es) = ap (λ (l : List (LocalAction J)). Did (Began now (start.Job n premature job)) ∷ l) (renumbered-shown es)
  renumbered-shown (Did (Run k) ∷ es) = renumbered-shown es
  renumbered-shown (Did (Offer q) ∷ es) = renumbered-shown es
  renumbered-shown (Did (Due k) ∷ es) = renumbered-shown es
  renumbered-shown (Did Halted ∷ es) = renumbered-shown es
  renumbered-shown (Did Gone ∷ es) = renumbered-shown es
  renumbered-shown (Did x ∷ es) = ap (λ (l : List (LocalAction J)). Did x ∷ l) (renumbered-shown es)
