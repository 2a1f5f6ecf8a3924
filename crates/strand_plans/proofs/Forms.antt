-- What a plan's conditions need, by the form of a move.
use Rattle.strand_contract.specs.Actions.{LocalAction}
use Rattle.strand_contract.specs.Laws.{is_still, IsMild, IsEnding}
use Rattle.strand_contract.specs.ClientOnly.{IsClientOnly}
use Rattle.strand_plans.specs.Ledgers.{Ledger, has, has_number, wants_offer, entered}
use Rattle.strand_plans.specs.Moves.{Move, Done, Ready, Unready, Send, Arm, Cancel, HangUp, Log, Set, Look, Ask, End, State, with_sent, with_offer, with_thread, without_thread, with_deadline, without_deadline, hung_up, ending, act_if, perform}
use Rattle.strand_plans.specs.Plans.{Plan, move_of, stepped}
use Rattle.strand_plans.specs.Conditions.{NeverAsks, OnlyWakes, OnlyQueues, EndsLife}
use Rattle.std.proofs.Common.{◌≡◌, ℕ, not, Bool, true, false, List, [], ◌∷◌, None, if◌then◌else◌, refl, ◌∙◌}
use Rattle.strand_contract.specs.declared.turns.Place.{Place}
use Rattle.strand_contract.specs.declared.turns.Act.{Act}
use Rattle.strand_contract.specs.declared.turns.Act.TheVariants as act

pub either : {A : Type 0} (P : A → Type 0) (c : Bool) (x y : A) → P x → P y → P (if c then x else y)
either P true x y p q = p
either P false x y p q = q

wakes-if : {J : Type 0} (c : Bool) (a : Act J) (acts : List (Act J)) → (IsMild acts → IsMild (a ∷ acts)) → IsMild acts → IsMild (act_if c a acts)
wakes-if true a acts f h = f h
wakes-if false a acts f h = h

queues-if : {J : Type 0} (c : Bool) (a : Act J) (acts : List (Act J)) → (IsClientOnly acts → IsClientOnly (a ∷ acts)) → IsClientOnly acts → IsClientOnly (act_if c a acts)
queues-if true a acts f h = f h
queues-if false a acts f h = h

queues-end : (J : Type 0) (qs : List Place) → IsClientOnly (ending {J = J} qs)
queues-end J [] = tt
queues-end J (q ∷ qs) = queues-end J qs

ends-if : {J : Type 0} (c : Bool) (a : Act J) (acts : List (Act J)) → (IsEnding acts → IsEnding (a ∷ acts)) → IsEnding acts → IsEnding (act_if c a acts)
ends-if true a acts f h = f h
ends-if false a acts f h = h

wakes-end : (J : Type 0) (qs : List Place) → IsMild (ending {J = J} qs)
wakes-end J [] = tt
wakes-end J (q ∷ qs) = wakes-end J qs

ends-end : (J : Type 0) (qs : List Place) → IsEnding (ending {J = J} qs)
ends-end J [] = refl
ends-end J (q ∷ qs) = ends-end J qs

module _ {J S : Type 0} where
  pub never-asks : (m : Move J S) (b : Ledger J) (s : S) → NeverAsks m → (perform m b s).state.ledger.asked ≡ b.asked
  never-asks Done b s h = refl
  never-asks (Ready k m) b s h = never-asks m (with_thread k b) s h
  never-asks (Unready k m) b s h = never-asks m (without_thread k b) s h
  never-asks (Send q bytes m) b s h = let c = with_sent q bytes b in never-asks m (with_offer q c) s h
  never-asks (Arm n at m) b s h = never-asks m (with_deadline n at b) s h
  never-asks (Cancel n m) b s h = never-asks m (without_deadline n b) s h
  never-asks (HangUp q m) b s h = never-asks m (hung_up q b) s h
  never-asks (Log line m) b s h = never-asks m b s h
  never-asks (Set f m) b s h = never-asks m b (f s) h
  never-asks (Look go) b s h = never-asks (go b s) b s (h b s)
  never-asks (Ask q) b s h = absurd h
  never-asks End b s h = refl

  pub only-wakes : (m : Move J S) (b : Ledger J) (s : S) → OnlyWakes m → IsMild (perform m b s).acts
  only-wakes Done b s h = tt
  only-wakes (Ready k m) b s h = wakes-if (not (has_number k b.threads)) (act.Ready k) _ (λ w. w) (only-wakes m (with_thread k b) s h)
  only-wakes (Unready k m) b s h = only-wakes m (without_thread k b) s h
  only-wakes (Send q bytes m) b s h = let c = with_sent q bytes b in wakes-if (wants_offer q c) (act.Offer q) _ (λ w. w) (only-wakes m (with_offer q c) s h)
  only-wakes (Arm n at m) b s h = absurd h
  only-wakes (Cancel n m) b s h = only-wakes m (without_deadline n b) s h
  only-wakes (HangUp q m) b s h = wakes-if (has q b.opened) (act.HangUp q) _ (λ w. w) (only-wakes m (hung_up q b) s h)
  only-wakes (Log line m) b s h = only-wakes m b s h
  only-wakes (Set f m) b s h = only-wakes m b (f s) h
  only-wakes (Look go) b s h = only-wakes (go b s) b s (h b s)
  only-wakes (Ask q) b s h = absurd h
  only-wakes End b s h = wakes-end J b.opened

  pub only-queues : (m : Move J S) (b : Ledger J) (s : S) → OnlyQueues m → IsClientOnly (perform m b s).acts
  only-queues Done b s h = tt
  only-queues (Ready k m) b s h = queues-if (not (has_number k b.threads)) (act.Ready k) _ (λ w. w) (only-queues m (with_thread k b) s h)
  only-queues (Unready k m) b s h = only-queues m (without_thread k b) s h
  only-queues (Send q bytes m) b s h = let c = with_sent q bytes b in queues-if (wants_offer q c) (act.Offer q) _ (λ w. w) (only-queues m (with_offer q c) s h)
  only-queues (Arm n at m) b s h = absurd h
  only-queues (Cancel n m) b s h = absurd h
  only-queues (HangUp q m) b s h = queues-if (has q b.opened) (act.HangUp q) _ (λ w. w) (only-queues m (hung_up q b) s h)
  only-queues (Log line m) b s h = absurd h
  only-queues (Set f m) b s h = only-queues m b (f s) h
  only-queues (Look go) b s h = only-queues (go b s) b s (h b s)
  only-queues (Ask x) b s h = absurd h
  only-queues End b s h = queues-end J b.opened

  pub ends-life : (m : Move J S) (b : Ledger J) (s : S) → EndsLife m → IsEnding (perform m b s).acts
  ends-life Done b s h = absurd h
  ends-life (Ready k m) b s h = absurd h
  ends-life (Unready k m) b s h = ends-life m (without_thread k b) s h
  ends-life (Send q bytes m) b s h = absurd h
  ends-life (Arm n at m) b s h = absurd h
  ends-life (Cancel n m) b s h = ends-life m (without_deadline n b) s h
  ends-life (HangUp q m) b s h = ends-if (has q b.opened) (act.HangUp q) _ (λ w. w) (ends-life m (hung_up q b) s h)
  ends-life (Log line m) b s h = ends-life m b s h
  ends-life (Set f m) b s h = ends-life m b (f s) h
  ends-life (Look go) b s h = ends-life (go b s) b s (h b s)
  ends-life (Ask q) b s h = absurd h
  ends-life End b s h = ends-end J b.opened

  -- a plan that never asks
  pub asks-nothing : (p : Plan J S) (now : ℕ) (a : LocalAction J) (st : State J S) → NeverAsks (p.turn now a (entered a st.ledger) st.inner) → st.ledger.asked ≡ None → (stepped p now a st).state.ledger.asked ≡ None
  asks-nothing p now a st h none =
      never-asks (move_of p now a st) (entered a st.ledger) st.inner (either NeverAsks (is_still a) Done _ tt h)
      ∙ either (λ x. x ≡ None) (is_still a) st.ledger.asked None none refl
