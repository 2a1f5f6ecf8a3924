-- The laws that a strand owes, of each plan.
use Rattle.strand_contract.specs.Actions.{LocalAction, Told, Did, Began, Bytes, Ended, Broken, Ready, Dialled, Refused}
use Rattle.strand_contract.specs.Actions.{Put, Later, Lost, Close, Log, Dict, Take, Dial, Keep, Timer, Dropped, Run, Offer, Due, Halted, Gone}
use Rattle.strand_contract.specs.Behaviors.{Behavior}
use Rattle.strand_contract.specs.Alone.{lives, was_dropped, moment, is_open, queued, piece, todo, is_some_left}
use Rattle.strand_contract.specs.Alone.{IsExecution, HasNoWork}
use Rattle.strand_contract.specs.Laws.{IsQuiet, IsSilent, IsMild, IsAskedRight, AsksFit, HangsUpOpen, LeavesNothingOpen, Keeps, WakesQuietly, EndsAtStop}
use Rattle.strand_contract.specs.ClientOnlyLaws.{over, clash}
use Rattle.strand_plans.specs.Questions.{Question, asking}
use Rattle.strand_plans.specs.Questions as question
use Rattle.strand_plans.specs.Ledgers.{has, is_place, left_at, entered}
use Rattle.strand_plans.specs.Moves.{Done, State, perform}
use Rattle.strand_plans.specs.Plans.{Plan, state_of, acts_of, behavior_of}
use Rattle.strand_plans.specs.Conditions.{IsPlan}
use Rattle.std.proofs.Common.{◌≡◌, ℕ, Bool, true, false, ◌||◌, List, [], ◌∷◌, take, ◌-◌, ◌%◌, if◌then◌else◌, refl, sym, ◌∙◌, subst, inl, inr, ◌⊎◌}
use Rattle.strand_contract.specs.declared.turns.Place.{Place}
use Rattle.strand_contract.specs.declared.turns.Start.TheVariants as start
use Rattle.strand_contract.specs.declared.turns.Act.{Act}
use Rattle.strand_contract.specs.declared.turns.Act.TheVariants as act
use Rattle.strand_plans.proofs.Opened.{Leads}
use Rattle.strand_plans.proofs.Ledgers.{places-are, put-off-is, taken-is}
use Rattle.strand_plans.proofs.Executions.{quiet, Agrees, agrees, comes, is-idle, IsIdle, queued-is, none-begun}

filled : {A C : Type 0} (xs rest : List A) (x : A) → xs ≡ x ∷ rest → xs ≡ [] → C
filled xs rest x p q = absurd (let e : x ∷ rest ≡ [] = sym p ∙ q in cc)

-- a strand without a life has nothing to do
pub dead : {J : Type 0} (b : Behavior J) → IsQuiet b → (es : List (LocalAction J)) → IsExecution b es → lives es ≡ false → todo b es ≡ []
dead b still [] f l = refl
dead b still (Told w ∷ es) f l = clash (lives es) f.1.0 l
dead b still (Did (Began now begin) ∷ es) f l = clash true refl l
dead b still (Did (Bytes q bytes) ∷ es) f l = clash (lives es) f.1.0.living l
dead b still (Did (Ended q) ∷ es) f l = clash (lives es) f.1.living l
dead b still (Did (Broken q) ∷ es) f l = clash (lives es) f.1.living l
dead b still (Did (Ready q) ∷ es) f l = clash (lives es) f.1.living l
dead b still (Did (Dialled k) ∷ es) f l = clash (lives es) f.1.living l
dead b still (Did (Refused k) ∷ es) f l = clash (lives es) f.1.living l
dead b still (Did (Put q bytes) ∷ es) f l = clash (lives es) f.1.0.living l
dead b still (Did (Later q) ∷ es) f l = clash (lives es) f.1.living l
dead b still (Did (Lost q) ∷ es) f l = clash (lives es) f.1.living l
dead b still (Did (Close q) ∷ es) f l = rw (dead b still es f.0 l, still (Did (Close q)) es refl) refl
dead b still (Did (Log line done) ∷ es) f l = filled _ _ _ f.1.1 (dead b still es f.0 l)
dead b still (Did (Dict zone call answer) ∷ es) f l = filled _ _ _ f.1.0 (dead b still es f.0 l)
dead b still (Did (Take key uses) ∷ es) f l = filled _ _ _ f.1 (dead b still es f.0 l)
dead b still (Did (Dial host port done) ∷ es) f l = filled _ _ _ f.1 (dead b still es f.0 l)
dead b still (Did (Keep k key idle size) ∷ es) f l = filled _ _ _ f.1.0 (dead b still es f.0 l)
dead b still (Did (Timer at answer) ∷ es) f l = filled _ _ _ f.1.1 (dead b still es f.0 l)
dead b still (Did Dropped ∷ es) f l = rw (still (Did Dropped) es refl) refl
dead b still (Did (Run k) ∷ es) f l = clash (lives es) f.1.0.living l
dead b still (Did (Offer q) ∷ es) f l = clash (lives es) f.1.0.living l
dead b still (Did (Due n) ∷ es) f l = clash (lives es) f.1.0.living l
dead b still (Did Halted ∷ es) f l = clash (lives es) f.1.0.living l
dead b still (Did Gone ∷ es) f l = rw (f.1, still (Did Gone) es refl) refl

-- what has something to do lives, and wasn't dropped
busy-lives : {J : Type 0} (b : Behavior J) → IsQuiet b → (es : List (LocalAction J)) (x : Act J) (rest : List (Act J)) → IsExecution b es → todo b es ≡ x ∷ rest → lives es ≡ true
busy-lives b still es x rest f t = test (lives es) refl
  where
    test : (c : Bool) → lives es ≡ c → lives es ≡ true
    test true e = e
    test false e = filled _ _ _ t (dead b still es f e)

pub undropped : {J : Type 0} (b : Behavior J) → IsQuiet b → (es : List (LocalAction J)) → IsExecution b es → lives es ≡ true → was_dropped es ≡ false
undropped b still es f l = test (was_dropped es) refl
  where
    test : (c : Bool) → was_dropped es ≡ c → was_dropped es ≡ false
    test true e = clash (lives es) l (over b still es f e).dead
    test false e = e

none-left : (xs : List ℕ) → is_some_left xs ≡ false → xs ≡ []
none-left [] h = refl
none-left (x ∷ xs) h = clash true refl h

put-off : (a g : Bool) → g ≡ false → (a || (false || g)) ≡ true → a ≡ true
put-off true g e h = refl
put-off false g e h = clash g h e

pub silent : {J S : Type 0} (p : Plan J S) → IsSilent (behavior_of p)
silent p q a es h = subst (λ c. (perform (if c then Done else p.turn (moment (a ∷ es)) a (entered a (state_of p es).ledger) (state_of p es).inner) (entered a (state_of p es).ledger) (state_of p es).inner).state.ledger.sent q ≡ (state_of p es).ledger.sent q) (sym h) refl

module _ {J S : Type 0} (p : Plan J S) (holds : State J S → Type 0) (may_ask : Question J → Type 0) (plan : IsPlan p holds may_ask) where
  pub busy : (es : List (LocalAction J)) (x : Act J) (rest : List (Act J)) → IsExecution (behavior_of p) es → todo (behavior_of p) es ≡ x ∷ rest → Agrees p holds es
  busy es x rest f t = agrees p holds may_ask plan es f (undropped (behavior_of p) (quiet p) es f (busy-lives (behavior_of p) (quiet p) es x rest f t))

  pub lived : (es : List (LocalAction J)) → IsExecution (behavior_of p) es → lives es ≡ true → Agrees p holds es
  lived es f l = agrees p holds may_ask plan es f (undropped (behavior_of p) (quiet p) es f l)

  pub leads-to : (es : List (LocalAction J)) (x : Act J) (rest : List (Act J)) → IsExecution (behavior_of p) es → todo (behavior_of p) es ≡ x ∷ rest
      → Leads (λ q. is_open q es) (x ∷ rest) (λ q. has q (state_of p es).ledger.opened) (state_of p es).ledger.asked
  leads-to es x rest f t = subst (λ acts. Leads (λ q. is_open q es) acts (λ q. has q (state_of p es).ledger.opened) (state_of p es).ledger.asked) t (busy es x rest f t).leads

  pub hangs-up-open : HangsUpOpen (behavior_of p)
  hangs-up-open es q rest f t = (busy-lives (behavior_of p) (quiet p) es (act.HangUp q) rest f t, (leads-to es (act.HangUp q) rest f t).0)

  pub leaves-nothing-open : LeavesNothingOpen (behavior_of p)
  leaves-nothing-open es q f t = (leads-to es act.Gone [] f t).0 q

  keeps-at : (es : List (LocalAction J)) (q : Place) → Agrees p holds es → IsIdle p es → HasNoWork (behavior_of p) es → is_open q es ≡ true → (c : Bool) → is_some_left (left_at q (state_of p es).ledger) ≡ c
      → (queued (behavior_of p) q es ≡ []) ⊎ ((state_of p es).ledger.put_off q ≡ true)
  keeps-at es q g free w o true e =
      let b = (state_of p es).ledger in
      let h : has q b.opened ≡ true = sym (free.opens q) ∙ o in
      inr (put-off (b.put_off q) (is_place q b.begun) (none-begun p es q free w.no_offer h e)
      (subst (λ ps. (b.put_off q || (has q ps || is_place q b.begun)) ≡ true) (sym (places-are p es) ∙ w.no_place) (g.served q h e)))
  keeps-at es q g free w o false e = inl (queued-is p es q o ∙ none-left _ e)

  pub keeps : Keeps (behavior_of p)
  keeps es f l w q o =
      let g = lived es f l in
      elim (keeps-at es q g (is-idle p holds es g w.no_act) w o _ refl) [
        | inl e ↦ inl e
        | inr e ↦ inr (put-off-is p q es ∙ e)
      ]

  -- what is asked is what the plan may ask
  pub may-be-asked : (es : List (LocalAction J)) (x : Question J) → IsExecution (behavior_of p) es → todo (behavior_of p) es ≡ asking x ∷ [] → may_ask x
  may-be-asked es (question.Dict zone call) f t = plan.asks (state_of p es) _ (busy es _ [] f t).inner (leads-to es (act.Dict zone call) [] f t).2
  may-be-asked es (question.Take key) f t = plan.asks (state_of p es) _ (busy es _ [] f t).inner (leads-to es (act.Take key) [] f t).2
  may-be-asked es (question.Dial host port) f t = plan.asks (state_of p es) _ (busy es _ [] f t).inner (leads-to es (act.Dial host port) [] f t).2
  may-be-asked es (question.Keep k key idle size) f t = plan.asks (state_of p es) _ (busy es _ [] f t).inner (leads-to es (act.Keep k key idle size) [] f t).2
  may-be-asked es (question.Timer at job) f t = plan.asks (state_of p es) _ (busy es _ [] f t).inner (leads-to es (act.Timer at job) [] f t).2

  asked-right : (es : List (LocalAction J)) (acts : List (Act J)) → IsExecution (behavior_of p) es → todo (behavior_of p) es ≡ acts → IsAskedRight (behavior_of p) es acts
  asked-right es (act.Dict zone call ∷ rest) f t = plan.fits (question.Dict zone call) (plan.asks (state_of p es) _ (busy es _ rest f t).inner (leads-to es (act.Dict zone call) rest f t).2)
  asked-right es (act.Keep k key idle size ∷ rest) f t =
      let h = leads-to es (act.Keep k key idle size) rest f t in
      (h.3, plan.fits (question.Keep k key idle size) (plan.asks (state_of p es) _ (busy es _ rest f t).inner h.2))
  asked-right es acts f t = tt

  pub asks-fit : AsksFit (behavior_of p)
  asks-fit es f = asked-right es (todo (behavior_of p) es) f refl

  pub wakes-quietly : WakesQuietly (behavior_of p)
  wakes-quietly (Did (Due n)) es f h = let g = lived es f.0 f.1.0.living in plan.due (moment es) n (state_of p es) g.inner (comes p holds may_ask plan (Did (Due n)) es g f.1)
  wakes-quietly (Did (Began now (start.Job j premature job))) es f h = subst (λ es. IsMild (acts_of p (Did (Began now (start.Job j premature job)) ∷ es))) (sym f.1) (plan.job now now j premature job)
  wakes-quietly a es f h = clash false h refl

  pub ends-at-stop : EndsAtStop (behavior_of p)
  ends-at-stop es f = plan.ends (moment es) (state_of p es) (lived es f.0 f.1.0.living).inner

  -- between two turns of a living strand the ledger has what is open
  pub is-opened : (es : List (LocalAction J)) (q : Place) → IsExecution (behavior_of p) es → lives es ≡ true → todo (behavior_of p) es ≡ [] → is_open q es ≡ has q (state_of p es).ledger.opened
  is-opened es q f l t = (is-idle p holds es (lived es f l) t).opens q

  -- what a living strand offers, by the ledger
  pub piece-is : (es : List (LocalAction J)) (q : Place) → IsExecution (behavior_of p) es → lives es ≡ true → todo (behavior_of p) es ≡ []
      → piece (behavior_of p) q es ≡ (let b = (state_of p es).ledger in take (16_384 - b.taken q % 16_384) (if has q b.opened then left_at q b else []))
  piece-is es q f l t =
      let b = (state_of p es).ledger in
      let free = is-idle p holds es (lived es f l) t in
      rw (free.opens q, taken-is p q es) refl
