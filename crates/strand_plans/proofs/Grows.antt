-- What is sent only grows.
use Rattle.strand_contract.specs.Actions.{same_place}
use Rattle.strand_contract.specs.Alone.{moment}
use Rattle.strand_contract.specs.Alone.{IsPrefixOf}
use Rattle.strand_contract.specs.Laws.{Grows}
use Rattle.strand_plans.specs.Ledgers.{Ledger, has, entered}
use Rattle.strand_plans.specs.Moves.{Move, Done, Ready, Unready, Send, Arm, Cancel, HangUp, Log, Set, Look, Ask, End, with_sent, with_offer, with_thread, without_thread, with_deadline, without_deadline, hung_up, perform}
use Rattle.strand_plans.specs.Plans.{Plan, move_of, state_of, behavior_of}
use Rattle.std.proofs.Common.{ℕ, Bool, true, false, ◌&&◌, List, [], ◌∷◌, ◌++◌, if◌then◌else◌, sym, ◌∙◌, append-nil, append_assoc}
use Rattle.strand_contract.specs.declared.turns.Place.{Place}

prefix-self : {A : Type 0} (xs : List A) → IsPrefixOf xs xs
prefix-self xs = ([], append-nil xs)

prefix-sends : (c : Bool) (xs bytes ys : List ℕ) → IsPrefixOf (if c then xs ++ bytes else xs) ys → IsPrefixOf xs ys
prefix-sends true xs bytes ys h = (bytes ++ h.0, sym (append_assoc xs bytes h.0) ∙ h.1)
prefix-sends false xs bytes ys h = h

module _ {J S : Type 0} where
  pub performed-grows : (q : Place) (m : Move J S) (b : Ledger J) (s : S) → IsPrefixOf (b.sent q) ((perform m b s).state.ledger.sent q)
  performed-grows q Done b s = prefix-self (b.sent q)
  performed-grows q (Ready k m) b s = performed-grows q m (with_thread k b) s
  performed-grows q (Unready k m) b s = performed-grows q m (without_thread k b) s
  performed-grows q (Send p bytes m) b s = let c = with_sent p bytes b in
      prefix-sends (has p b.opened && same_place q p) (b.sent q) bytes _ (performed-grows q m (with_offer p c) s)
  performed-grows q (Arm n at m) b s = performed-grows q m (with_deadline n at b) s
  performed-grows q (Cancel n m) b s = performed-grows q m (without_deadline n b) s
  performed-grows q (HangUp p m) b s = performed-grows q m (hung_up p b) s
  performed-grows q (Log line m) b s = performed-grows q m b s
  performed-grows q (Set f m) b s = performed-grows q m b (f s)
  performed-grows q (Look go) b s = performed-grows q (go b s) b s
  performed-grows q (Ask x) b s = prefix-self (b.sent q)
  performed-grows q End b s = prefix-self (b.sent q)

pub grows : {J S : Type 0} (p : Plan J S) → Grows (behavior_of p)
grows p q a es f = let st = state_of p es in performed-grows q (move_of p (moment (a ∷ es)) a st) (entered a st.ledger) st.inner
