-- What the calls of a strand take for granted.
use Rattle.strand_contract.specs.Actions.{Action, LocalAction, Told, Did, Began, Bytes, Ended, Broken, Ready, Dialled, Refused}
use Rattle.strand_contract.specs.Actions.{Put, Later, Lost, Close, Log, Dict, Take, Dial, Keep, Timer, Dropped, Run, Offer, Due, Halted, Gone}
use Rattle.strand_contract.specs.Alone.{lives, was_dropped, moment, todo, left_by, carried, offering, is_some_left}
use Rattle.strand_contract.specs.Alone.{IsExecution}
use Rattle.strand_contract.specs.Calls.{action_of, answered}
use Rattle.strand_contract.specs.Laws.{is_still}
use Rattle.strand_contract.specs.ClientOnlyLaws.{over, clash}
use Rattle.strand_plans.specs.Questions.{Question, asking}
use Rattle.strand_plans.specs.Questions as question
use Rattle.strand_plans.specs.Ledgers.{Ledger, has, has_number, left_at, wants_offer, entered}
use Rattle.strand_plans.specs.Moves.{Move, Done, Unready, Send, Arm, Cancel, HangUp, Set, Look, Ask, End, State, with_sent, with_offer, with_thread, without_thread, with_deadline, without_deadline, hung_up, ending, act_if, perform}
use Rattle.strand_plans.specs.Moves as move
use Rattle.strand_plans.specs.Plans.{Plan, move_of, state_of, behavior_of}
use Rattle.strand_plans.specs.Conditions.{IsServed, IsPlan}
use Rattle.std.proofs.Common.{◌≡◌, ℕ, not, Bool, true, false, ◌||◌, List, [], ◌∷◌, ◌++◌, Some, None, drop, refl, sym, ap, ◌∙◌, subst, append-nil, inl, inr}
use Rattle.strand_contract.specs.declared.turns.Place.{Place}
use Rattle.strand_contract.specs.declared.turns.Act.{Act}
use Rattle.strand_contract.specs.declared.turns.Act.TheVariants as act
use Rattle.strand_contract.specs.declared.turns.Seen.{Seen}
use Rattle.strand_contract.specs.declared.turns.Seen.TheVariants as seen
use Rattle.strand_contract.specs.declared.turns.Answer.{Answer}
use Rattle.strand_contract.specs.declared.turns.Answer.TheVariants as answer
use Rattle.strand_plans.proofs.Executions.{ComesTo, quiet, comes, is-idle, none-begun}
use Rattle.strand_plans.proofs.PlanLaws.{lived, may-be-asked}
use Rattle.strand_plans.proofs.Tidy.{IsTidyLedger, kept-tidy}

-- a still action leaves all but the line of places and what is being offered
pub record IsUntouched {J S : Type 0} (a b : State J S) : Type 0 where
  pub threads : b.ledger.threads ≡ a.ledger.threads
  pub armed : b.ledger.armed ≡ a.ledger.armed
  pub put_off : b.ledger.put_off ≡ a.ledger.put_off
  pub taken : b.ledger.taken ≡ a.ledger.taken
  pub sent : b.ledger.sent ≡ a.ledger.sent
  pub opened : b.ledger.opened ≡ a.ledger.opened
  pub count : b.ledger.count ≡ a.ledger.count
  pub asked : b.ledger.asked ≡ a.ledger.asked
  pub ended : b.ledger.ended ≡ a.ledger.ended
  pub inner : b.inner ≡ a.inner

pub still-same : {J S : Type 0} (p : Plan J S) (a : LocalAction J) (es : List (LocalAction J)) → is_still a ≡ true → IsUntouched (state_of p es) (state_of p (a ∷ es))
still-same p (Told w) es h = record { threads = refl; armed = refl; put_off = refl; taken = refl; sent = refl; opened = refl; count = refl; asked = refl; ended = refl; inner = refl }
still-same p (Did (Close q)) es h = record { threads = refl; armed = refl; put_off = refl; taken = refl; sent = refl; opened = refl; count = refl; asked = refl; ended = refl; inner = refl }
still-same p (Did (Log line done)) es h = record { threads = refl; armed = refl; put_off = refl; taken = refl; sent = refl; opened = refl; count = refl; asked = refl; ended = refl; inner = refl }
still-same p (Did (Offer q)) es h = record { threads = refl; armed = refl; put_off = refl; taken = refl; sent = refl; opened = refl; count = refl; asked = refl; ended = refl; inner = refl }
still-same p (Did Gone) es h = record { threads = refl; armed = refl; put_off = refl; taken = refl; sent = refl; opened = refl; count = refl; asked = refl; ended = refl; inner = refl }
still-same p (Did Dropped) es h = record { threads = refl; armed = refl; put_off = refl; taken = refl; sent = refl; opened = refl; count = refl; asked = refl; ended = refl; inner = refl }
still-same p a es h = clash false h refl

-- the last act is the end of a life
abbrev pub IsLastGone : {J : Type 0} → List (Act J) → Type 0
IsLastGone [] = ⊥
IsLastGone (act.Gone ∷ acts) = acts ≡ []
IsLastGone (a ∷ acts) = IsLastGone acts

-- a life that was ended ends with the acts that are to be done
gone-if : {J : Type 0} (c : Bool) (q : Place) (acts : List (Act J)) → IsLastGone (carried acts) → IsLastGone (carried (act_if c (act.HangUp q) acts))
gone-if true q acts h = h
gone-if false q acts h = h

gone-ready : {J : Type 0} (c : Bool) (k : ℕ) (acts : List (Act J)) → IsLastGone (carried acts) → IsLastGone (carried (act_if c (act.Ready k) acts))
gone-ready true k acts h = h
gone-ready false k acts h = h

gone-offer : {J : Type 0} (c : Bool) (q : Place) (acts : List (Act J)) → IsLastGone (carried acts) → IsLastGone (carried (act_if c (act.Offer q) acts))
gone-offer true q acts h = h
gone-offer false q acts h = h

gone-end : (J : Type 0) (qs : List Place) → IsLastGone (carried (ending {J = J} qs))
gone-end J [] = refl
gone-end J (q ∷ qs) = gone-end J qs

module _ {J S : Type 0} where
  performed-ended : (m : Move J S) (b : Ledger J) (s : S) → b.ended ≡ false → (perform m b s).state.ledger.ended ≡ true → IsLastGone (carried (perform m b s).acts)
  performed-ended Done b s e h = clash b.ended h e
  performed-ended (move.Ready k m) b s e h = gone-ready (not (has_number k b.threads)) k _ (performed-ended m (with_thread k b) s e h)
  performed-ended (Unready k m) b s e h = performed-ended m (without_thread k b) s e h
  performed-ended (Send q bytes m) b s e h = let c = with_sent q bytes b in gone-offer (wants_offer q c) q _ (performed-ended m (with_offer q c) s e h)
  performed-ended (Arm n at m) b s e h = performed-ended m (with_deadline n at b) s e h
  performed-ended (Cancel n m) b s e h = performed-ended m (without_deadline n b) s e h
  performed-ended (HangUp q m) b s e h = gone-if (has q b.opened) q _ (performed-ended m (hung_up q b) s e h)
  performed-ended (move.Log line m) b s e h = performed-ended m b s e h
  performed-ended (Set f m) b s e h = performed-ended m b (f s) e h
  performed-ended (Look go) b s e h = performed-ended (go b s) b s e h
  performed-ended (Ask x) b s e h = clash b.ended h e
  performed-ended End b s e h = gone-end J b.opened

-- between two turns a living strand hasn't ended
abbrev IsEnded : {J S : Type 0} → Plan J S → List (LocalAction J) → Type 0
IsEnded p es = lives es ≡ true → (state_of p es).ledger.ended ≡ true → IsLastGone (todo (behavior_of p) es)

between-ended : {J S : Type 0} (p : Plan J S) (es : List (LocalAction J)) → IsEnded p es → lives es ≡ true → todo (behavior_of p) es ≡ [] → (state_of p es).ledger.ended ≡ false
between-ended p es on l t = test (state_of p es).ledger.ended refl
  where
    test : (c : Bool) → (state_of p es).ledger.ended ≡ c → (state_of p es).ledger.ended ≡ false
    test true e = absurd (subst IsLastGone t (on l e))
    test false e = e

turn-ended : {J S : Type 0} (p : Plan J S) (a : LocalAction J) (es : List (LocalAction J)) → left_by a (todo (behavior_of p) es) ≡ [] → (state_of p es).ledger.ended ≡ false → IsEnded p (a ∷ es)
turn-ended p a es t none l h = let st = state_of p es in rw t (performed-ended (move_of p (moment (a ∷ es)) a st) (entered a st.ledger) st.inner none h)

-- an act that asks isn't the end
answered-ended : {J S : Type 0} (p : Plan J S) (a : LocalAction J) (es : List (LocalAction J)) (x : Act J) → todo (behavior_of p) es ≡ x ∷ [] → (IsLastGone (x ∷ []) → ⊥) → lives es ≡ true → IsEnded p es → left_by a (x ∷ []) ≡ [] → IsEnded p (a ∷ es)
answered-ended p a es x t asks l on left = turn-ended p a es (ap (left_by a) t ∙ left) (test (state_of p es).ledger.ended refl)
  where
    test : (c : Bool) → (state_of p es).ledger.ended ≡ c → (state_of p es).ledger.ended ≡ false
    test true e = absurd (asks (subst IsLastGone t (on l e)))
    test false e = e

dropped-first : {J : Type 0} (xs rest : List (Act J)) (x : Act J) → xs ≡ x ∷ rest → (IsLastGone (x ∷ rest) → IsLastGone rest) → IsLastGone xs → IsLastGone (drop 1 xs ++ [])
dropped-first xs rest x e f h = subst (λ ys. IsLastGone (drop 1 ys ++ [])) (sym e) (subst IsLastGone (sym (append-nil rest)) (f (subst IsLastGone e h)))

module _ {J S : Type 0} (p : Plan J S) (holds : State J S → Type 0) (may_ask : Question J → Type 0) (plan : IsPlan p holds may_ask) where
  pub ended : (es : List (LocalAction J)) → IsExecution (behavior_of p) es → IsEnded p es
  ended [] f l h = clash false h refl
  ended (Told w ∷ es) f l h = turn-ended p (Told w) es f.1.1.no_act (between-ended p es (ended es f.0) f.1.0 f.1.1.no_act) l h
  ended (Did (Began now begin) ∷ es) f l h = subst (λ xs. IsEnded p (Did (Began now begin) ∷ xs)) (sym f.1) (turn-ended p (Did (Began now begin)) [] refl refl) l h
  ended (Did (Bytes q bytes) ∷ es) f l h = turn-ended p (Did (Bytes q bytes)) es f.1.0.idle.no_act (between-ended p es (ended es f.0) f.1.0.living f.1.0.idle.no_act) l h
  ended (Did (Ended q) ∷ es) f l h = turn-ended p (Did (Ended q)) es f.1.idle.no_act (between-ended p es (ended es f.0) f.1.living f.1.idle.no_act) l h
  ended (Did (Broken q) ∷ es) f l h = turn-ended p (Did (Broken q)) es f.1.idle.no_act (between-ended p es (ended es f.0) f.1.living f.1.idle.no_act) l h
  ended (Did (Ready q) ∷ es) f l h = turn-ended p (Did (Ready q)) es f.1.idle.no_act (between-ended p es (ended es f.0) f.1.living f.1.idle.no_act) l h
  ended (Did (Dialled k) ∷ es) f l h = turn-ended p (Did (Dialled k)) es f.1.idle.no_act (between-ended p es (ended es f.0) f.1.living f.1.idle.no_act) l h
  ended (Did (Refused k) ∷ es) f l h = turn-ended p (Did (Refused k)) es f.1.idle.no_act (between-ended p es (ended es f.0) f.1.living f.1.idle.no_act) l h
  ended (Did (Put q bytes) ∷ es) f l h = turn-ended p (Did (Put q bytes)) es f.1.0.no_act (between-ended p es (ended es f.0) f.1.0.living f.1.0.no_act) l h
  ended (Did (Later q) ∷ es) f l h = turn-ended p (Did (Later q)) es f.1.no_act (between-ended p es (ended es f.0) f.1.living f.1.no_act) l h
  ended (Did (Lost q) ∷ es) f l h = turn-ended p (Did (Lost q)) es f.1.no_act (between-ended p es (ended es f.0) f.1.living f.1.no_act) l h
  ended (Did (Close q) ∷ es) f l h = elim f.1 [
    | inl w ↦ dropped-first _ w.0.0 (act.HangUp q) w.0.1 (λ g. g) (ended es f.0 l h)
    | inr w ↦ clash (lives es) l (over (behavior_of p) (quiet p) es f.0 w.0).dead
  ]
  ended (Did (Log line done) ∷ es) f l h = dropped-first _ f.1.0 (act.Log line) f.1.1 (λ g. g) (ended es f.0 l h)
  ended (Did (Dict zone call answer) ∷ es) f l h = answered-ended p (Did (Dict zone call answer)) es (act.Dict zone call) f.1.0 (λ g. g) l (ended es f.0) refl l h
  ended (Did (Take key uses) ∷ es) f l h = answered-ended p (Did (Take key uses)) es (act.Take key) f.1 (λ g. g) l (ended es f.0) refl l h
  ended (Did (Dial host port done) ∷ es) f l h = answered-ended p (Did (Dial host port done)) es (act.Dial host port) f.1 (λ g. g) l (ended es f.0) refl l h
  ended (Did (Keep k key idle size) ∷ es) f l h = answered-ended p (Did (Keep k key idle size)) es (act.Keep k key idle size) f.1.0 (λ g. g) l (ended es f.0) refl l h
  ended (Did (Timer at answer) ∷ es) f l h = answered-ended p (Did (Timer at answer)) es (act.Timer at f.1.0) f.1.1 (λ g. g) l (ended es f.0) refl l h
  ended (Did Dropped ∷ es) f l h = clash false l refl
  ended (Did (Run k) ∷ es) f l h = turn-ended p (Did (Run k)) es f.1.0.no_act (between-ended p es (ended es f.0) f.1.0.living f.1.0.no_act) l h
  ended (Did (Offer q) ∷ es) f l h = turn-ended p (Did (Offer q)) es f.1.0.no_act (between-ended p es (ended es f.0) f.1.0.living f.1.0.no_act) l h
  ended (Did (Due n) ∷ es) f l h = turn-ended p (Did (Due n)) es f.1.0.no_act (between-ended p es (ended es f.0) f.1.0.living f.1.0.no_act) l h
  ended (Did Halted ∷ es) f l h = turn-ended p (Did Halted) es f.1.0.no_act (between-ended p es (ended es f.0) f.1.0.living f.1.0.no_act) l h
  ended (Did Gone ∷ es) f l h = clash false l refl

-- what is known where a call is made
pub record IsCalled {J S : Type 0} (p : Plan J S) (holds : State J S → Type 0) (a : LocalAction J) (es : List (LocalAction J)) : Type 0 where
  pub comes : ComesTo p a es
  pub served : (q : Place) → IsServed q (state_of p es).ledger
  pub tidy : IsTidyLedger (state_of p es).ledger
  pub going : (state_of p es).ledger.ended ≡ false
  pub undropped : was_dropped es ≡ false
  pub settled : offering (behavior_of p) es ≡ None → let b = (state_of p es).ledger in (q : Place) → has q b.opened ≡ true → is_some_left (left_at q b) ≡ true → (b.put_off q || (has q b.places || false)) ≡ true
  pub inner : holds (state_of p es)

module _ {J S : Type 0} (p : Plan J S) (holds : State J S → Type 0) (may_ask : Question J → Type 0) (plan : IsPlan p holds may_ask) where
  called : (a : LocalAction J) (es : List (LocalAction J)) → IsExecution (behavior_of p) (a ∷ es) → lives es ≡ true → todo (behavior_of p) es ≡ [] → IsCalled p holds a es
  called a es f l t =
      let g = lived p holds may_ask plan es f.0 l in
      record {
        comes = comes p holds may_ask plan a es g f.1;
        served = g.served;
        tidy = kept-tidy p holds may_ask plan es f.0 (undropped es l f.0);
        going = between-ended p es (ended p holds may_ask plan es f.0) l t;
        undropped = undropped es l f.0;
        settled = λ none q h k. subst (λ x. ((state_of p es).ledger.put_off q || (has q (state_of p es).ledger.places || x)) ≡ true) (none-begun p es q (is-idle p holds es g t) none h k) (g.served q h k);
        inner = g.inner;
      }
    where
      undropped : (es : List (LocalAction J)) → lives es ≡ true → IsExecution (behavior_of p) es → was_dropped es ≡ false
      undropped es l f = test (was_dropped es) refl
        where
          test : (c : Bool) → was_dropped es ≡ c → was_dropped es ≡ false
          test true e = clash (lives es) l (over (behavior_of p) (quiet p) es f e).dead
          test false e = e

  -- of what it is shown
  pub shown : (s : Seen) (es : List (LocalAction J)) → IsExecution (behavior_of p) (Did (action_of (behavior_of p) es s) ∷ es) → IsCalled p holds (Did (action_of (behavior_of p) es s)) es
  shown (seen.Bytes q bytes) es f = called _ es f f.1.0.living f.1.0.idle.no_act
  shown (seen.Ended q) es f = called _ es f f.1.living f.1.idle.no_act
  shown (seen.Broken q) es f = called _ es f f.1.living f.1.idle.no_act
  shown (seen.Ready q) es f = called _ es f f.1.living f.1.idle.no_act
  shown (seen.Took q n) es f = called _ es f f.1.0.living f.1.0.no_act
  shown (seen.Later q) es f = called _ es f f.1.living f.1.no_act
  shown (seen.Lost q) es f = called _ es f f.1.living f.1.no_act
  shown (seen.Dialled k) es f = called _ es f f.1.living f.1.idle.no_act
  shown (seen.Refused k) es f = called _ es f f.1.living f.1.idle.no_act
  shown (seen.Due n) es f = called _ es f f.1.0.living f.1.0.no_act
  shown (seen.Run k) es f = called _ es f f.1.0.living f.1.0.no_act
  shown seen.Stop es f = called _ es f f.1.0.living f.1.0.no_act

none-some : {A C : Type 0} (x : A) → None ≡ Some x → C
none-some x e = absurd (cc e)

-- what is answered was asked
pub answered-asks : {J : Type 0} (acts : List (Act J)) (given : Answer) (x : Action J) → answered acts given ≡ Some x → (q : Question J) × (acts ≡ asking q ∷ [])
answered-asks (act.Dict zone call ∷ []) (answer.Dict given) x e = (question.Dict zone call, refl)
answered-asks (act.Take key ∷ []) (answer.Took uses) x e = (question.Take key, refl)
answered-asks (act.Dial host port ∷ []) (answer.Dialled done) x e = (question.Dial host port, refl)
answered-asks (act.Keep k key idle size ∷ []) answer.Kept x e = (question.Keep k key idle size, refl)
answered-asks (act.Timer at job ∷ []) (answer.Timer given) x e = (question.Timer at job, refl)
answered-asks acts given x e = none-some x e

-- a plan that may ask nothing is answered nothing
pub unasked : {J S : Type 0} {C : Type 0} (p : Plan J S) (holds : State J S → Type 0) (may_ask : Question J → Type 0) → IsPlan p holds may_ask → ((q : Question J) → may_ask q → ⊥)
    → (es : List (LocalAction J)) (given : Answer) (x : Action J) → IsExecution (behavior_of p) es → answered (todo (behavior_of p) es) given ≡ Some x → C
unasked p holds may_ask plan none es given x f e = let a = answered-asks (todo (behavior_of p) es) given x e in absurd (none a.0 (may-be-asked p holds may_ask plan es a.0 f a.1))
