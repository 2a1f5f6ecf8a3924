-- What a prefix of a connection's moves comes to: acts of its own, and a state from which whatever follows goes on.
use Rattle.std.proofs.Common.{◌≡◌, ℕ, suc, ◌&&◌, not, Bool, true, false, List, [], ◌∷◌, ◌++◌, if◌then◌else◌, refl, sym, ap, ◌∙◌, append_assoc}
use Rattle.strand_contract.specs.declared.turns.Act.{Act}
use Rattle.strand_contract.specs.declared.turns.Act.TheVariants as act
use Rattle.strand_contract.specs.declared.turns.Place.TheVariants as place
use Rattle.strand_plans.specs.Ledgers.{Ledger, has, has_number, numbers, wants_offer}
use Rattle.strand_plans.specs.Moves.{Move, Done, Cancel, Performed, with_sent, with_offer, with_thread, without_thread, with_deadline, without_deadline, hung_up, after_act_if, perform}
use Rattle.strand_plans.specs.Moves as move
use Rattle.run_contract.specs.Deeds as deed
use Rattle.run_contract.specs.Deeds.{Deed, Say}
use Rattle.run_contract.specs.declared.turns.Said.{Said}
use Rattle.run_contract.specs.declared.turns.Said.TheVariants as said
use Rattle.connection_plan.specs.Clients.{Reply, Client, Unsent, Begun, Whole, with_more, begun}
use Rattle.connection_plan.specs.Clients as stage
use Rattle.connection_plan.specs.Services.{Service, Both}
use Rattle.connection_plan.specs.Timers.{Timer, number_of}
use Rattle.connection_plan.specs.Timers as timer
use Rattle.connection_plan.specs.Turns.{is_there, change, send, begin_timer, end_timer, continue_reply, let_send, may_come, wait_more, waits_of, await_body, says}
use Rattle.connection_plan.specs.Lifts.{lifted}

module _ {J S : Type 0} where
  -- these acts, and then what was done
  abbrev pub before : List (Act J) → Performed J S → Performed J S
  before acts p = record { state = p.state; acts = acts ++ p.acts }

  -- what was done, and then these moves
  abbrev pub followed : Performed J S → Move J S → Performed J S
  followed p m = before p.acts (perform m p.state.ledger p.state.inner)

  -- what a prefix comes to by itself: the state that it leaves, and its acts
  abbrev pub went : (Move J S → Move J S) → Ledger J → S → Performed J S
  went f b s = perform (f Done) b s

  -- whatever follows a prefix, it is what the prefix comes to and then that
  abbrev pub Precedes : (Move J S → Move J S) → Ledger J → S → Type 0
  Precedes f b s = (m : Move J S) → perform (f m) b s ≡ followed (went f b s) m

  pub regrouped : (acts : List (Act J)) (p : Performed J S) (m : Move J S) → before acts (followed p m) ≡ followed (before acts p) m
  regrouped acts p m =
      let more = perform m p.state.ledger p.state.inner in
      let with_acts : List (Act J) → Performed J S = λ xs. record { state = more.state; acts = xs } in
      ap with_acts (sym (append_assoc acts p.acts more.acts))

  -- two prefixes, one after the other
  pub both-precede : (f g : Move J S → Move J S) (b : Ledger J) (s : S) → Precedes f b s
      → (let d = went f b s in Precedes g d.state.ledger d.state.inner) → Precedes (λ m. f (g m)) b s
  both-precede f g b s x y m =
      let d = went f b s in
      x (g m) ∙ ap (before d.acts) (y m) ∙ regrouped d.acts (went g d.state.ledger d.state.inner) m ∙ sym (ap (λ p. followed p m) (x (g Done)))

  offer-precedes : (c : Bool) (a : Act J) (p : Performed J S) → after_act_if c a p ≡ before (if c then a ∷ [] else []) p
  offer-precedes true a p = refl
  offer-precedes false a p = refl

module _ {J R : Type 0} (site : Service J R) (now : ℕ) where
  pub change-precedes : (g : Client → Client) (b : Ledger J) (s : Both R) → Precedes (change g) b s
  change-precedes g b s m = refl

  pub begin_timer-precedes : (t : Timer) (b : Ledger J) (s : Both R) → Precedes (begin_timer site now t) b s
  begin_timer-precedes t b s m = refl

  pub end_timer-precedes : (t : Timer) (b : Ledger J) (s : Both R) → Precedes (end_timer site now t) b s
  end_timer-precedes t b s m = by (has_number (number_of t) (numbers b.armed))
    where
      by : (c : Bool) → perform {S = Both R} (if c then Cancel (number_of t) m else m) b s ≡ followed (perform (if c then Cancel (number_of t) Done else Done) b s) m
      by true = refl
      by false = refl

  -- bytes are sent to the client's place, which may be there or not
  pub to_client-precedes : (bytes : List ℕ) (b : Ledger J) (s : Both R) → Precedes (move.Send place.Client bytes) b s
  to_client-precedes bytes b s m =
      let c = with_sent place.Client bytes b in offer-precedes (wants_offer place.Client c) (act.Offer place.Client) (perform m (with_offer place.Client c) s) ∙ by (wants_offer place.Client c)
    where
      by : (o : Bool) → let d = with_offer place.Client (with_sent place.Client bytes b) in
          before (if o then act.Offer place.Client ∷ [] else []) (perform m d s) ≡ followed (after_act_if o (act.Offer place.Client) (perform Done d s)) m
      by true = refl
      by false = refl

  pub send-precedes : (bytes : List ℕ) (b : Ledger J) (s : Both R) → Precedes (send site now bytes) b s
  send-precedes bytes b s m = by (is_there b)
    where
      by : (c : Bool) → let told : Move J (Both R) → Move J (Both R) = λ m. change (λ c. record c { exchanges = with_more bytes c.exchanges }) (move.Send place.Client bytes m) in
          perform (if c then told m else m) b s ≡ followed (perform (if c then told Done else Done) b s) m
      by true = to_client-precedes bytes b (record s { client = record s.client { exchanges = with_more bytes s.client.exchanges } }) m
      by false = refl

  pub let_send-precedes : (c : Client) (r : Reply) (b : Ledger J) (s : Both R) → Precedes (let_send site now c r) b s
  let_send-precedes c Begun b s m = refl
  let_send-precedes c (Whole closes) b s m = refl
  let_send-precedes c Unsent b s m = by c.waited
    where
      waiting : Both R
      waiting = record s { client = record s.client { waited = true } }

      asked : (x : Bool) → perform (if x then send site now continue_reply m else m) b waiting ≡ followed (perform (if x then send site now continue_reply Done else Done) b waiting) m
      asked true = send-precedes continue_reply b waiting m
      asked false = refl

      by : (w : Bool) → let first : Move J (Both R) → Move J (Both R) = λ m. change (λ c. record c { waited = true }) (if c.expects then send site now continue_reply m else m) in
          perform (if w then m else first m) b s ≡ followed (perform (if w then Done else first Done) b s) m
      by true = refl
      by false = asked c.expects

  pub wait_more-precedes : (c : Client) (b : Ledger J) (s : Both R) → Precedes (wait_more site now c) b s
  wait_more-precedes c b s m = both-precede (let_send site now c c.reply) (begin_timer site now timer.Body) b s (let_send-precedes c c.reply b s) (λ m. refl) m

  pub await_body-precedes : (b : Ledger J) (s : Both R) → Precedes (await_body site now) b s
  await_body-precedes b s m = by ((waits_of site now s).body && may_come site now b s.client)
    where
      by : (c : Bool) → let f : Move J (Both R) → Move J (Both R) = wait_more site now s.client in
          perform (if c then f m else m) b s ≡ followed (perform (if c then f Done else Done) b s) m
      by true = wait_more-precedes s.client b s m
      by false = refl

  pub says-precedes : (w : Said) (b : Ledger J) (s : Both R) → Precedes (says site now w) b s
  says-precedes (said.Send bytes) b s m = send-precedes bytes b (record s { client = record s.client { reply = begun s.client.reply } }) m
  says-precedes said.WantsNoBody b s m = end_timer-precedes timer.Body b s m
  says-precedes (said.Times times) b s m = refl
  says-precedes (said.Ended closes) b s m = refl
  says-precedes said.Over b s m =
      both-precede (end_timer site now timer.Body) (change (λ c. record c { stage = stage.Flush })) b s (end_timer-precedes timer.Body b s) (λ m. refl) m

  -- a prefix behind an act that is there or not
  act-precedes : (c : Bool) (a : Act J) (f : Move J (Both R) → Move J (Both R)) (b : Ledger J) (s : Both R) → Precedes f b s → (m : Move J (Both R))
      → after_act_if c a (perform (f m) b s) ≡ followed (after_act_if c a (perform (f Done) b s)) m
  act-precedes true a f b s h m = ap (after_act_if true a) (h m)
  act-precedes false a f b s h m = ap (after_act_if false a) (h m)

  -- deeds before other moves come to a prefix of all
  pub deeds-precede : (ds : List Deed) (b : Ledger J) (s : Both R) → Precedes (lifted (says site now) ds) b s
  deeds-precede [] b s m = refl
  deeds-precede (Say w ∷ ds) b s m =
      let d = went (says site now w) b s in
      both-precede (says site now w) (lifted (says site now) ds) b s (says-precedes w b s) (deeds-precede ds d.state.ledger d.state.inner) m
  deeds-precede (deed.Ready k ∷ ds) b s m =
      act-precedes (not (has_number k b.threads)) (act.Ready k) (lifted (says site now) ds) (with_thread k b) s (deeds-precede ds (with_thread k b) s) m
  deeds-precede (deed.Unready k ∷ ds) b s m = act-precedes true (act.Unready k) (lifted (says site now) ds) (without_thread k b) s (deeds-precede ds (without_thread k b) s) m
  deeds-precede (deed.Send k bytes ∷ ds) b s m =
      let c = with_sent (place.Sock k) bytes b in
      act-precedes (wants_offer (place.Sock k) c) (act.Offer (place.Sock k)) (lifted (says site now) ds) (with_offer (place.Sock k) c) s (deeds-precede ds (with_offer (place.Sock k) c) s) m
  deeds-precede (deed.Arm k at ∷ ds) b s m =
      act-precedes true (act.Arm (suc (suc k)) at) (lifted (says site now) ds) (with_deadline (suc (suc k)) at b) s (deeds-precede ds (with_deadline (suc (suc k)) at b) s) m
  deeds-precede (deed.Cancel k ∷ ds) b s m =
      act-precedes true (act.Cancel (suc (suc k))) (lifted (says site now) ds) (without_deadline (suc (suc k)) b) s (deeds-precede ds (without_deadline (suc (suc k)) b) s) m
  deeds-precede (deed.HangUp k ∷ ds) b s m =
      act-precedes (has (place.Sock k) b.opened) (act.HangUp (place.Sock k)) (lifted (says site now) ds) (hung_up (place.Sock k) b) s (deeds-precede ds (hung_up (place.Sock k) b) s) m
  deeds-precede (deed.Log line ∷ ds) b s m = act-precedes true (act.Log line) (lifted (says site now) ds) b s (deeds-precede ds b s) m
