-- A client is hung up only once it took all that was sent to it, unless it is cut off.
use Rattle.std.proofs.Common.{inl, inr, ◌⊎◌, ◌≡◌, ℕ, zero, suc, ◌+◌, ◌&&◌, ◌||◌, Bool, true, false, List, [], ◌∷◌, ◌++◌, length, drop, Option, Some, None, if◌then◌else◌, refl, sym, ap, ◌∙◌, subst, append-nil, arith}
use Rattle.std.specs.Prelude.{not, is_some}
use Rattle.uri_args.specs.declared.targets.Target.{Target}
use Rattle.http_in.specs.declared.heads.Head.{Head}
use Rattle.client_line.specs.declared.requests.LineOut.{LineOut}
use Rattle.client_line.specs.declared.requests.LineOut.TheVariants as out
use Rattle.client_line.specs.declared.line.Held.{Held}
use Rattle.client_line.specs.declared.line.Held.TheVariants as held
use Rattle.client_line.specs.Records.{At as LineAt, Came}
use Rattle.client_line.specs.Records as line
use Rattle.client_line.specs.Lines.{nothing, came_at as came_so, after_body, settled, answer_dropping, LeadsAt, IsFed, after_asked, body_answer, done, held_in}
use Rattle.client_line.specs.Messages.{AreRequests}
use Rattle.client_line.specs.Readings.{ReadsOn}
use Rattle.client_line.proofs.FeedAnswers.{is-fed}
use Rattle.http_in.specs.declared.heads.HeadRead.TheVariants as read
use Rattle.http_bodies.specs.declared.states.BodyState.{BodyState}
use Rattle.http_bodies.specs.declared.states.BodyState.TheVariants as state
use Rattle.http_bodies.specs.Skips.{skipped, skip_count}
use Rattle.client_line.specs.Feeding.{Fed, fed}
use Rattle.strand_contract.specs.declared.turns.Place.{Place}
use Rattle.strand_contract.specs.declared.turns.Place.TheVariants as place
use Rattle.strand_contract.specs.declared.turns.Start.TheVariants as start
use Rattle.strand_contract.specs.declared.turns.Act.{Act}
use Rattle.strand_contract.specs.declared.turns.Act.TheVariants as act
use Rattle.strand_contract.specs.Actions.{Action, LocalAction, Told, Did, same_place, Began, Bytes, Ended, Broken, Ready, Dialled, Refused}
use Rattle.strand_contract.specs.Actions.{Put, Later, Lost, Close, Log, Dict, Take, Dial, Keep, Timer, Dropped, Run, Offer, Due, Halted, Gone}
use Rattle.strand_contract.specs.Alone.{moment, is_some_left, Enabled, IsExecution}
use Rattle.strand_plans.specs.Questions.{Question, asking_if}
use Rattle.strand_plans.specs.Questions as question
use Rattle.strand_plans.specs.Ledgers.{Ledger, has, has_number, numbers, left_at, wants_offer, entered}
use Rattle.strand_plans.specs.Moves.{Move, Done, Unready, Send, Arm, Cancel, HangUp, Set, Look, Ask, End, State, with_sent, with_offer, with_thread, without_thread, with_deadline, without_deadline, hung_up, asked_of, ended, ending, act_if, sends, perform}
use Rattle.strand_plans.specs.Moves as move
use Rattle.strand_plans.specs.Plans.{move_of, state_of}
use Rattle.strand_plans.proofs.Places.{has-without, has-append}
use Rattle.strand_plans.proofs.Ledgers.{taken-is}
use Rattle.run_contract.specs.declared.turns.RunSeen.{RunSeen}
use Rattle.run_contract.specs.declared.turns.RunSeen.TheVariants as seen
use Rattle.run_contract.specs.declared.turns.Asking.{Asking}
use Rattle.run_contract.specs.declared.turns.Asking.TheVariants as asking
use Rattle.run_contract.specs.declared.turns.Said.{Said}
use Rattle.run_contract.specs.declared.turns.Said.TheVariants as said
use Rattle.run_contract.specs.Deeds as deed
use Rattle.run_contract.specs.Deeds.{Deed, Say, Turn, Asks, Nothing, Outside, Within, ledger_by}
use Rattle.connection_plan.specs.Clients.{Stage, Reply, Client, Unsent, Begun, Whole, with_more, with_request, with_refusal, with_times, begun, closes_after}
use Rattle.connection_plan.specs.Clients as stage
use Rattle.connection_plan.specs.Services.{Service, Both}
use Rattle.connection_plan.specs.Timers.{number_of, time_of, later}
use Rattle.connection_plan.specs.Timers as timer
use Rattle.connection_plan.specs.Lifts.{lifted}
use Rattle.connection_plan.specs.Turns.{is_there, is_all_taken, is_to_close, change, finish, send, begin_timer, end_timer, continue_reply, let_send, may_come, wait_more, waits_of, await_body, says, asks_then, run_turn, tell, lose_at, lose}
use Rattle.connection_plan.specs.Turns.{begin, close_if_taken, refuse, wait_for, heard_by, heard, next, body_told, tell_body, ask_body, answer_body, busy_at, busy, flush, settled_at, tells, settle_for, settle}
use Rattle.connection_plan.specs.Connections.{came_at, ends_at, to_run, is_due, connection_plan, connection_behavior}
use Rattle.connection_plan.specs.Connections as turns
use Rattle.connection_plan.proofs.OwnMoves.{deed-leaves-client}
use Rattle.connection_plan.specs.Asked.{bytes_of, asked_so_far, asked_in}
use Rattle.connection_plan.proofs.Readings.{fed-has-room, asks-all}
use Rattle.connection_plan.proofs.Ordered.{AwaitsBytes, reads-next}
use Rattle.connection_laws.specs.Between.{is_between, IsBetweenRequests}
use Rattle.connection_laws.specs.Taken.{cuts_off, hangs_up_client, TookAllBefore}

-- nothing of what was sent to the client is left
abbrev IsTaken : {J : Type 0} → Ledger J → Type 0
IsTaken b = is_some_left (left_at place.Client b) ≡ false

none-left : (xs : List ℕ) → is_some_left xs ≡ false → xs ≡ []
none-left [] h = refl
none-left (x ∷ xs) h = absurd (let e : true ≡ false = h in cc)

drop-more : (n m : ℕ) (xs : List ℕ) → is_some_left (drop n xs) ≡ false → is_some_left (drop (n + m) xs) ≡ false
drop-more n m [] h = none (n + m)
  where
    none : (k : ℕ) → is_some_left (drop k []) ≡ false
    none zero = refl
    none (suc k) = refl
drop-more zero m (x ∷ xs) h = absurd (let e : true ≡ false = h in cc)
drop-more (suc n) m (x ∷ xs) h =
    let e : suc (n + m) ≡ suc n + m = omega arith in subst (λ (k : ℕ). is_some_left (drop k (x ∷ xs)) ≡ false) e (drop-more n m xs h)

-- ---- a client that is gone

if-gone : (x y : Bool) → y ≡ false → (if x then false else y) ≡ false
if-gone true y h = refl
if-gone false y h = h

-- nothing is sent to it
unsent : (q : Place) (bytes : List ℕ) (qs : List Place) (sent : Place → List ℕ) → has place.Client qs ≡ false → sends (has q qs) q bytes sent place.Client ≡ sent place.Client
unsent place.Client bytes qs sent h = ap (λ (c : Bool). if c && true then sent place.Client ++ bytes else sent place.Client) h
unsent (place.Sock k) bytes qs sent h = by (has (place.Sock k) qs)
  where
    by : (c : Bool) → (if c && false then sent place.Client ++ bytes else sent place.Client) ≡ sent place.Client
    by true = refl
    by false = refl

module _ {J S : Type 0} where
  -- it stays so, and what is left of it is the same
  gone-stays : (m : Move J S) (b : Ledger J) (s : S) → has place.Client b.opened ≡ false
      → let c = (perform m b s).state.ledger in (has place.Client c.opened ≡ false) × (left_at place.Client c ≡ left_at place.Client b)
  gone-stays Done b s h = (h, refl)
  gone-stays (move.Ready k m) b s h = gone-stays m (with_thread k b) s h
  gone-stays (Unready k m) b s h = gone-stays m (without_thread k b) s h
  gone-stays (Send q bytes m) b s h =
      let x = gone-stays m (with_offer q (with_sent q bytes b)) s h in
      (x.0, x.1 ∙ ap (drop (b.taken place.Client)) (unsent q bytes b.opened b.sent h))
  gone-stays (Arm n at m) b s h = gone-stays m (with_deadline n at b) s h
  gone-stays (Cancel n m) b s h = gone-stays m (without_deadline n b) s h
  gone-stays (HangUp q m) b s h =
      gone-stays m (hung_up q b) s (has-without place.Client q b.opened ∙ if-gone (same_place place.Client q) (has place.Client b.opened) h)
  gone-stays (move.Log line m) b s h = gone-stays m b s h
  gone-stays (Set f m) b s h = gone-stays m b (f s) h
  gone-stays (Look go) b s h = gone-stays (go b s) b s h
  gone-stays (Ask x) b s h = (h, refl)
  gone-stays End b s h = (refl, refl)

ending-hangs : (J : Type 0) (qs : List Place) → hangs_up_client {J = J} (ending qs) ≡ true → has place.Client qs ≡ true
ending-hangs J [] h = h
ending-hangs J (place.Client ∷ qs) h = refl
ending-hangs J (place.Sock k ∷ qs) h = ending-hangs J qs h

module _ {J : Type 0} where
  hangs-if : (c : Bool) (a : Act J) (acts : List (Act J)) → hangs_up_client (a ∷ acts) ≡ hangs_up_client acts → hangs_up_client (act_if c a acts) ≡ hangs_up_client acts
  hangs-if true a acts h = h
  hangs-if false a acts h = refl

  asking-hangs : (o : Option (Question J)) → hangs_up_client (asking_if o) ≡ false
  asking-hangs None = refl
  asking-hangs (Some (question.Dict zone call)) = refl
  asking-hangs (Some (question.Take key)) = refl
  asking-hangs (Some (question.Dial host port)) = refl
  asking-hangs (Some (question.Keep k key idle size)) = refl
  asking-hangs (Some (question.Timer at job)) = refl

module _ {J S : Type 0} where
  -- whoever is hung up was there, and isn't any more
  hung-up : (m : Move J S) (b : Ledger J) (s : S) → hangs_up_client (perform m b s).acts ≡ true
      → (has place.Client b.opened ≡ true) × (has place.Client (perform m b s).state.ledger.opened ≡ false)
  hung-up Done b s h = absurd (let e : false ≡ true = h in cc)
  hung-up (move.Ready k m) b s h =
      hung-up m (with_thread k b) s (sym (hangs-if (not (has_number k b.threads)) (act.Ready k) (perform m (with_thread k b) s).acts refl) ∙ h)
  hung-up (Unready k m) b s h = hung-up m (without_thread k b) s h
  hung-up (Send q bytes m) b s h =
      let c = with_sent q bytes b in
      hung-up m (with_offer q c) s (sym (hangs-if (wants_offer q c) (act.Offer q) (perform m (with_offer q c) s).acts refl) ∙ h)
  hung-up (Arm n at m) b s h = hung-up m (with_deadline n at b) s h
  hung-up (Cancel n m) b s h = hung-up m (without_deadline n b) s h
  hung-up (HangUp place.Client m) b s h = by (has place.Client b.opened) refl h (hung-up m c s)
    where
      c : Ledger J
      c = hung_up place.Client b

      gone : has place.Client c.opened ≡ false
      gone = has-without place.Client place.Client b.opened

      by : (x : Bool) → has place.Client b.opened ≡ x → hangs_up_client (act_if x (act.HangUp place.Client) (perform m c s).acts) ≡ true
          → (hangs_up_client (perform m c s).acts ≡ true → (has place.Client c.opened ≡ true) × (has place.Client (perform m c s).state.ledger.opened ≡ false))
          → (has place.Client b.opened ≡ true) × (has place.Client (perform m c s).state.ledger.opened ≡ false)
      by true e h rest = (e, (gone-stays m c s gone).0)
      by false e h rest = absurd (let f : false ≡ true = sym gone ∙ (rest h).0 in cc)
  hung-up (HangUp (place.Sock k) m) b s h =
      let c = hung_up (place.Sock k) b in
      let x = hung-up m c s (sym (hangs-if (has (place.Sock k) b.opened) (act.HangUp (place.Sock k)) (perform m c s).acts refl) ∙ h) in
      (sym (has-without place.Client (place.Sock k) b.opened) ∙ x.0, x.1)
  hung-up (move.Log line m) b s h = hung-up m b s h
  hung-up (Set f m) b s h = hung-up m b (f s) h
  hung-up (Look go) b s h = hung-up (go b s) b s h
  hung-up (Ask x) b s h = absurd (let e : false ≡ true = sym (asking-hangs (asked_of x b)) ∙ h in cc)
  hung-up End b s h = (ending-hangs J b.opened h, refl)

-- ---- what a turn leaves

-- a run goes on, or its reply isn't wholly taken
abbrev is_serving : Stage → Bool
is_serving stage.Busy = true
is_serving stage.Flush = true
is_serving st = false

awaits : (st : Stage) → is_between st ≡ true → AwaitsBytes st
awaits stage.Idle h = tt
awaits stage.Head h = tt
awaits stage.Drop h = tt
awaits stage.Busy h = absurd (let e : false ≡ true = h in cc)
awaits stage.Flush h = absurd (let e : false ≡ true = h in cc)
awaits stage.Over h = absurd (let e : false ≡ true = h in cc)

not-serving : (st : Stage) → is_between st ≡ true → is_serving st ≡ false
not-serving stage.Idle h = refl
not-serving stage.Head h = refl
not-serving stage.Drop h = refl
not-serving stage.Busy h = absurd (let e : false ≡ true = h in cc)
not-serving stage.Flush h = absurd (let e : false ≡ true = h in cc)
not-serving stage.Over h = refl

-- all that was sent is taken, where the client is there and nothing is left
all-taken : (x y : Bool) → x ≡ true → not (x && y) ≡ true → y ≡ false
all-taken true true e h = absurd (let f : false ≡ true = h in cc)
all-taken true false e h = refl
all-taken false y e h = absurd (let f : false ≡ true = e in cc)

and-left : (x y : Bool) → (x && y) ≡ true → x ≡ true
and-left true y h = refl
and-left false y h = h

-- the bytes that are held ask nothing more
abbrev IsRead : Came → Type 0
IsRead came = ReadsOn came [] [] out.Waiting

-- of a client that isn't served: nothing is left for it, and where its next bytes are waited for those that are held ask nothing
pub record IsRested {J R : Type 0} (b : Ledger J) (s : Both R) : Type 0 where
  pub taken : IsTaken b
  pub read : is_there b ≡ true → is_between s.client.stage ≡ true → IsRead s.client.came

nothing-asks : IsRead nothing
nothing-asks = AreRequests.waits (read.More, refl, refl)

-- a body that is dropped has had all bytes
dropping-holds-none : (at : LineAt) (bytes : List ℕ) (far : BodyState) → (settled at bytes).at ≡ line.Dropping far → (settled at bytes).held ≡ []
dropping-holds-none line.Head bytes far e = absurd (cc)
dropping-holds-none (line.Present body kind skips) bytes far e = absurd (cc)
dropping-holds-none (line.Over code) bytes far e = refl
dropping-holds-none (line.Dropping was) bytes far e = by (skipped was bytes) (drop (skip_count was bytes) bytes) e
  where
    by : (y : BodyState) (rest : List ℕ) → (after_body y rest).at ≡ line.Dropping far → (after_body y rest).held ≡ []
    by state.Whole rest e = absurd (cc)
    by (state.Refused code) rest e = refl
    by (state.Data more of) rest e = refl
    by (state.Digits size n) rest e = refl
    by (state.Blanks size n) rest e = refl
    by (state.Extension size n) rest e = refl
    by (state.Return size n) rest e = refl
    by state.DataEnd rest e = refl
    by state.DataReturn rest e = refl
    by (state.Trailers n) rest e = refl
    by (state.TrailersReturn n) rest e = refl
    by (state.TrailersLine n) rest e = refl

still-dropped : (far : BodyState) → out.Waiting ≡ answer_dropping far → IsRead (came_so (line.Dropping far) [])
still-dropped state.Whole h = nothing-asks
still-dropped (state.Refused code) h = absurd (let e : out.Waiting ≡ out.Refused 400 = h in cc)
still-dropped (state.Data more of) h = (refl, refl)
still-dropped (state.Digits size n) h = (refl, refl)
still-dropped (state.Blanks size n) h = (refl, refl)
still-dropped (state.Extension size n) h = (refl, refl)
still-dropped (state.Return size n) h = (refl, refl)
still-dropped state.DataEnd h = (refl, refl)
still-dropped state.DataReturn h = (refl, refl)
still-dropped (state.Trailers n) h = (refl, refl)
still-dropped (state.TrailersReturn n) h = (refl, refl)
still-dropped (state.TrailersLine n) h = (refl, refl)

-- so it is where they are answered by waiting
waiting-asks : (came after : Came) (piece : List ℕ) → IsFed came piece out.Waiting after → IsRead after
waiting-asks came after piece is = by (settled came.at (came.held ++ piece)).at (settled came.at (came.held ++ piece)).held is (dropping-holds-none came.at (came.held ++ piece))
  where
    by : (at : LineAt) (bytes : List ℕ) → LeadsAt at bytes out.Waiting after → ((far : BodyState) → at ≡ line.Dropping far → bytes ≡ []) → IsRead after
    by line.Head bytes h none = subst IsRead (sym h.1) (subst (λ (bs : List ℕ). AreRequests bs [] out.Waiting) (sym (append-nil bytes)) (AreRequests.waits h.0))
    by (line.Present body kind skips) bytes h none = subst IsRead (sym h.1) (refl, refl)
    by (line.Dropping far) bytes h none = subst IsRead (sym (h.1 ∙ ap (came_so (line.Dropping far)) (none far refl))) (still-dropped far h.0)
    by (line.Over code) bytes h none = absurd (let e : out.Waiting ≡ out.Refused code = h.0 in cc)

never : {A : Type 0} (x : Bool) → x ≡ false → x ≡ true → A
never x h k = absurd (let e : false ≡ true = sym h ∙ k in cc)

module _ {J R : Type 0} (site : Service J R) (now : ℕ) where
  abbrev IsServing : Ledger J → Both R → Type 0
  IsServing b s = (is_there b ≡ true) × (is_serving s.client.stage ≡ true)

  -- a client that is there is served, or nothing is left for it
  abbrev IsTidy : State J (Both R) → Type 0
  IsTidy st = IsServing st.ledger st.inner ⊎ IsRested st.ledger st.inner

  abbrev Tidies : Move J (Both R) → Ledger J → Both R → Type 0
  Tidies m b s = IsTidy (perform m b s).state

  -- from wherever the client is served
  abbrev Keeps : Move J (Both R) → Type 0
  Keeps m = (b : Ledger J) (s : Both R) → IsServing b s → Tidies m b s

  done-keeps : Keeps Done
  done-keeps b s h = inl h

  ends-from : (t : timer.Timer) (m : Move J (Both R)) (b : Ledger J) (s : Both R) → Tidies m (without_deadline (number_of t) b) s → Tidies m b s → Tidies (end_timer site now t m) b s
  ends-from t m b s x y = by (has_number (number_of t) (numbers b.armed))
    where
      by : (c : Bool) → Tidies (if c then Cancel (number_of t) m else m) b s
      by true = x
      by false = y

  ends-keeps : (t : timer.Timer) (m : Move J (Both R)) → Keeps m → Keeps (end_timer site now t m)
  ends-keeps t m f b s h = ends-from t m b s (f (without_deadline (number_of t) b) s h) (f b s h)

  sends-keeps : (bytes : List ℕ) (m : Move J (Both R)) → Keeps m → Keeps (send site now bytes m)
  sends-keeps bytes m f b s h = by (is_there b)
    where
      by : (c : Bool) → Tidies (if c then change (λ c. record c { exchanges = with_more bytes c.exchanges }) (Send place.Client bytes m) else m) b s
      by true = f (with_offer place.Client (with_sent place.Client bytes b)) (record s { client = record s.client { exchanges = with_more bytes s.client.exchanges } }) h
      by false = f b s h

  lets-keeps : (c : Client) (r : Reply) (m : Move J (Both R)) → Keeps m → Keeps (let_send site now c r m)
  lets-keeps c Begun m f b s h = f b s h
  lets-keeps c (Whole closes) m f b s h = f b s h
  lets-keeps c Unsent m f b s h = by c.waited
    where
      told : Both R
      told = record s { client = record s.client { waited = true } }

      asked : (x : Bool) → Tidies (if x then send site now continue_reply m else m) b told
      asked true = sends-keeps continue_reply m f b told h
      asked false = f b told h

      by : (w : Bool) → Tidies (if w then m else change (λ c. record c { waited = true }) (if c.expects then send site now continue_reply m else m)) b s
      by true = f b s h
      by false = asked c.expects

  waits-keeps : (c : Client) (m : Move J (Both R)) → Keeps m → Keeps (wait_more site now c m)
  waits-keeps c m f = lets-keeps c c.reply (begin_timer site now timer.Body m)
      (λ b s h. f (with_deadline (number_of timer.Body) (later now (time_of site.default_times s.client.times timer.Body)) b) s h)

  awaits-keeps : (m : Move J (Both R)) → Keeps m → Keeps (await_body site now m)
  awaits-keeps m f b s h = by ((waits_of site now s).body && may_come site now b s.client)
    where
      by : (c : Bool) → Tidies (if c then wait_more site now s.client m else m) b s
      by true = waits-keeps s.client m f b s h
      by false = f b s h

  -- ---- turns of a run

  says-keeps : (w : Said) (m : Move J (Both R)) → Keeps m → Keeps (says site now w m)
  says-keeps (said.Send bytes) m f b s h = sends-keeps bytes m f b (record s { client = record s.client { reply = begun s.client.reply } }) h
  says-keeps said.WantsNoBody m f b s h = ends-keeps timer.Body m f b s h
  says-keeps (said.Times times) m f b s h = f b (record s { client = with_times times s.client }) h
  says-keeps (said.Ended closes) m f b s h = f b (record s { client = record s.client { reply = Whole closes } }) h
  says-keeps said.Over m f b s h =
      ends-keeps timer.Body (change (λ c. record c { stage = stage.Flush }) m) (λ c t k. f c (record t { client = record t.client { stage = stage.Flush } }) (k.0, refl)) b s h

  deed-there : (d : Deed) (b : Ledger J) (s : Both R) → IsServing b s → IsServing (ledger_by d b) s
  deed-there d b s h = ((deed-leaves-client d b).opened ∙ h.0, h.1)

  deeds-keep : (ds : List Deed) (m : Move J (Both R)) → Keeps m → Keeps (lifted (says site now) ds m)
  deeds-keep [] m f b s h = f b s h
  deeds-keep (Say w ∷ ds) m f b s h = says-keeps w (lifted (says site now) ds m) (deeds-keep ds m f) b s h
  deeds-keep (deed.Ready k ∷ ds) m f b s h = deeds-keep ds m f (ledger_by (deed.Ready k) b) s (deed-there (deed.Ready k) b s h)
  deeds-keep (deed.Unready k ∷ ds) m f b s h = deeds-keep ds m f (ledger_by (deed.Unready k) b) s (deed-there (deed.Unready k) b s h)
  deeds-keep (deed.Arm k at ∷ ds) m f b s h = deeds-keep ds m f (ledger_by (deed.Arm k at) b) s (deed-there (deed.Arm k at) b s h)
  deeds-keep (deed.Cancel k ∷ ds) m f b s h = deeds-keep ds m f (ledger_by (deed.Cancel k) b) s (deed-there (deed.Cancel k) b s h)
  deeds-keep (deed.HangUp k ∷ ds) m f b s h = deeds-keep ds m f (ledger_by (deed.HangUp k) b) s (deed-there (deed.HangUp k) b s h)
  deeds-keep (deed.Send k bytes ∷ ds) m f b s h = deeds-keep ds m f (ledger_by (deed.Send k bytes) b) s (deed-there (deed.Send k bytes) b s h)
  deeds-keep (deed.Log line ∷ ds) m f b s h = deeds-keep ds m f b s h

  asks-keeps : (a : Asks J) (m : Move J (Both R)) → Keeps m → Keeps (asks_then site now a m)
  asks-keeps Nothing m f b s h = f b s h
  asks-keeps (Within q) m f b s h = f b s h
  asks-keeps (Outside x) m f b s h = by (is_some (asked_of x b))
    where
      by : (c : Bool) → Tidies (if c then Ask x else m) b s
      by true = inl h
      by false = f b s h

  turn-keeps : (t : Turn J R) (m : Move J (Both R)) → Keeps m → Keeps (run_turn site now t m)
  turn-keeps t m f b s h = deeds-keep t.does (asks_then site now t.asks m) (asks-keeps t.asks m f) b (record s { run = t.run }) h

  tell-keeps : (x : RunSeen) (m : Move J (Both R)) → Keeps m → Keeps (tell site now x m)
  tell-keeps x m f b s h = turn-keeps (site.runs.turn now x b s.run) m f b s h

  -- ---- the client's end, where nothing is left for it

  finishes : (b : Ledger J) (s : Both R) → IsTaken b → Tidies finish b s
  finishes b s k = inr (record { taken = k; read = λ l e. never false refl l })

  loses : (b : Ledger J) (s : Both R) → IsTaken b → Tidies (lose site now) b s
  loses b s k = by s.client.stage
    where
      by : (st : Stage) → Tidies (lose_at site now st s) b s
      by stage.Busy =
          let rest = end_timer site now timer.Body (end_timer site now timer.Send (if (waits_of site now s).client then tell site now seen.ClientGone Done else Done)) in
          let gone = gone-stays rest (hung_up place.Client b) s (has-without place.Client place.Client b.opened) in
          inr (record { taken = ap is_some_left gone.1 ∙ k; read = λ l e. never (is_there (perform rest (hung_up place.Client b) s).state.ledger) gone.0 l })
      by stage.Idle = finishes b s k
      by stage.Head = finishes b s k
      by stage.Flush = finishes b s k
      by stage.Drop = finishes b s k
      by stage.Over = finishes b s k

  -- ---- requests in turn

  closes : (b : Ledger J) (s : Both R) → IsServing b s → Tidies (close_if_taken site now) b s
  closes b s h = by (is_all_taken b) refl
    where
      by : (c : Bool) → is_all_taken b ≡ c → Tidies (if c then finish else Done) b s
      by true e = finishes b s (all-taken (is_there b) (is_some_left (left_at place.Client b)) h.0 e)
      by false e = inl h

  refuses : (at : LineAt) (code : ℕ) (b : Ledger J) (s : Both R) → is_there b ≡ true → IsTaken b → Tidies (refuse site now at code) b s
  refuses (line.Over status) code b s there k =
      sends-keeps (site.refusal code now) (close_if_taken site now) closes b (record s { client = with_refusal code site.default_times s.client }) (there, refl)
  refuses line.Head code b s there k = finishes b s k
  refuses (line.Present body kind skips) code b s there k = finishes b s k
  refuses (line.Dropping far) code b s there k = finishes b s k

  waits-for : (w : Held) (b : Ledger J) (s : Both R) → IsTaken b → IsRead s.client.came → Tidies (wait_for site now w) b s
  waits-for held.Body b s k r = inr (record { taken = k; read = λ l e. r })
  waits-for held.Nothing b s k r = inr (record { taken = k; read = λ l e. r })
  waits-for held.Begun b s k r = inr (record { taken = k; read = λ l e. r })
  waits-for held.Request b s k r = inr (record { taken = k; read = λ l e. r })

  begins : (rest : Move J (Both R)) (head : Head) (target : Target) → Keeps rest → (b : Ledger J) (s : Both R) → is_there b ≡ true → Tidies (begin site now rest head target) b s
  begins rest head target f b s there =
      turn-keeps (site.runs.begun now head target b) rest f b (record { client = with_request head target (site.times_of head target) s.client; run = site.runs.unborn }) (there, refl)

  hears : (anew : Bool) (rest : Move J (Both R)) (ended : Bool) (came : Came) (piece : List ℕ) → Keeps rest → (b : Ledger J) (s : Both R) → is_there b ≡ true → IsTaken b
      → Tidies (heard site now anew rest ended (fed came piece)) b s
  hears anew rest ended came piece fine b s there k = by f.answer refl
    where
      f : Fed
      f = fed came piece

      t : Both R
      t = record s { client = record s.client { came = f.after } }

      more : IsRead f.after → (c d : Bool) → Tidies (if c then finish else (if d then wait_for site now (held_in f.after.at f.after.held) else Done)) b t
      more r true d = finishes b t k
      more r false true = waits-for (held_in f.after.at f.after.held) b t k r
      more r false false = inr (record { taken = k; read = λ l e. r })

      by : (answer : LineOut) → f.answer ≡ answer → Tidies (heard_by site now anew rest f.after ended answer) b t
      by (out.Request head target) e = ends-from timer.Header (begin site now rest head target) b t (begins rest head target fine (without_deadline (number_of timer.Header) b) t there) (begins rest head target fine b t there)
      by (out.Refused code) e = ends-from timer.Header (refuse site now f.after.at code) b t (refuses f.after.at code (without_deadline (number_of timer.Header) b) t there k) (refuses f.after.at code b t there k)
      by out.Waiting e = more (waiting-asks came f.after piece (subst (λ (a : LineOut). IsFed came piece a f.after) e (is-fed came piece))) ended anew
      by out.Memory e = absurd (fed-has-room came piece e)

  -- ---- what a run asks, and what it waits for

  body-keeps : (again : Move J (Both R)) → Keeps again → (o : Option RunSeen) → Keeps (tell_body site now again o)
  body-keeps again f None = done-keeps
  body-keeps again f (Some x) = ends-keeps timer.Body (tell site now x again) (tell-keeps x again f)

  answers-keeps : (again : Move J (Both R)) → Keeps again → (o : Option RunSeen) → Keeps (answer_body site now again o)
  answers-keeps again f None b s h = waits-keeps s.client (tell site now seen.NotYet again) (tell-keeps seen.NotYet again f) b s h
  answers-keeps again f (Some x) b s h = ends-keeps timer.Body (tell site now x again) (tell-keeps x again f) b s h

  busy-keeps : (again : Move J (Both R)) → Keeps again → (b : Ledger J) (s : Both R) → IsServing b s → Tidies (busy site now again b s) b s
  busy-keeps again f b s h = by (waits_of site now s).asks
    where
      third : (c : Bool) → Tidies (if c then ask_body site now again b s.client else Done) b s
      third true =
          body-keeps again f (body_told (is_there b && not s.client.ended) s.client (body_answer s.client.came s.client.limit)) b (record s { client = record s.client { came = after_asked s.client.came s.client.limit } }) h
      third false = inl h

      second : (c : Bool) → is_to_close b s.client ≡ c → Tidies (if c then lose site now else (if (waits_of site now s).body then ask_body site now again b s.client else Done)) b s
      second true e = loses b s (all-taken (is_there b) (is_some_left (left_at place.Client b)) h.0 (and-left (is_all_taken b) (is_there b) (and-left (is_all_taken b && is_there b) _ e)))
      second false e = third (waits_of site now s).body

      first : (c : Bool) → Tidies (if c then tell site now seen.AllTaken again else (if is_to_close b s.client then lose site now else (if (waits_of site now s).body then ask_body site now again b s.client else Done))) b s
      first true = tell-keeps seen.AllTaken again f b s h
      first false = second (is_to_close b s.client) refl

      all : (c : Bool) → Tidies (tell site now (if c then seen.AllTaken else seen.NotYet) again) b s
      all true = tell-keeps seen.AllTaken again f b s h
      all false = tell-keeps seen.NotYet again f b s h

      by : (q : Option Asking) → Tidies (busy_at site now q again b s) b s
      by None = first (is_all_taken b && (waits_of site now s).taken)
      by (Some asking.AllTaken) = all (is_all_taken b)
      by (Some (asking.Body max)) =
          answers-keeps again f (body_told (is_there b && not s.client.ended) (record s.client { limit = max }) (body_answer s.client.came max)) b
          (record s { client = record s.client { limit = max; came = after_asked s.client.came max } }) h

  flush-keeps : (rest : Move J (Both R)) → Keeps rest → (b : Ledger J) (s : Both R) → IsServing b s → Tidies (flush site now rest b s.client) b s
  flush-keeps rest f b s h = by (is_all_taken b) refl (not (is_there b) || closes_after s.client.reply)
    where
      by : (c : Bool) → is_all_taken b ≡ c → (d : Bool) → Tidies (if not c then Done else (if d then finish else next site now rest s.client)) b s
      by false e d = inl h
      by true e true = finishes b s (all-taken (is_there b) (is_some_left (left_at place.Client b)) h.0 e)
      by true e false = hears true rest s.client.ended (done s.client.came) [] f b s h.0 (all-taken (is_there b) (is_some_left (left_at place.Client b)) h.0 e)

  -- at a stage at which nothing is settled it is as before
  settled-keeps : (st : Stage) (again rest : Move J (Both R)) → Keeps again → Keeps rest → (b : Ledger J) (s : Both R) → s.client.stage ≡ st → is_there b ≡ true → IsTidy (record { ledger = b; inner = s })
      → (is_serving st ≡ true → IsServing b s) → Tidies (settled_at site now st again rest b s) b s
  settled-keeps stage.Busy again rest f g b s e there x h = busy-keeps again f b s (h refl)
  settled-keeps stage.Flush again rest f g b s e there x h = flush-keeps rest g b s (h refl)
  settled-keeps stage.Idle again rest f g b s e there x h = x
  settled-keeps stage.Head again rest f g b s e there x h = x
  settled-keeps stage.Drop again rest f g b s e there x h = x
  settled-keeps stage.Over again rest f g b s e there x h = x

  -- from wherever the client is there, and it is tidy
  abbrev KeepsTidy : Move J (Both R) → Type 0
  KeepsTidy m = (b : Ledger J) (s : Both R) → is_there b ≡ true → IsTidy (record { ledger = b; inner = s }) → Tidies m b s

  tells-keep : (rest : Move J (Both R)) (n : ℕ) → Keeps rest → KeepsTidy (tells site now rest n)
  tells-keep rest zero g b s there x = settled-keeps s.client.stage Done rest done-keeps g b s refl there x (λ e. (there, e))
  tells-keep rest (suc n) g b s there x = settled-keeps s.client.stage (tells site now rest n) rest (λ b s h. tells-keep rest n g b s h.0 (inl h)) g b s refl there x (λ e. (there, e))

  settle-for-keeps : (n : ℕ) → KeepsTidy (settle_for site now n)
  settle-for-keeps zero b s there x = x
  settle-for-keeps (suc n) b s there x = tells-keep (settle_for site now n) (site.runs.tells_left s.run) (λ b s h. settle-for-keeps n b s h.0 (inl h)) b s there x

  settle-tidy : KeepsTidy (settle site now)
  settle-tidy b s there x = settle-for-keeps (suc (length s.client.came.held)) b s there x

  settle-keeps : Keeps (settle site now)
  settle-keeps b s h = settle-tidy b s h.0 (inl h)

  -- ---- what comes to the strand

  -- a client that is there and isn't served has nothing left
  abbrev IsReady : Ledger J → Both R → Type 0
  IsReady b s = (is_there b ≡ true) × (is_serving s.client.stage ≡ false → IsRested b s)

  tidy-so : (b : Ledger J) (s : Both R) → IsReady b s → IsTidy (record { ledger = b; inner = s })
  tidy-so b s h = by (is_serving s.client.stage) refl
    where
      by : (c : Bool) → is_serving s.client.stage ≡ c → IsTidy (record { ledger = b; inner = s })
      by true e = inl (h.0, e)
      by false e = inr (h.1 e)

  -- by the stage: one at which a run goes on, or another
  to-run : (rest : Move J (Both R)) → Keeps rest → (x : RunSeen) (b : Ledger J) (s : Both R) → IsReady b s → Tidies (to_run site now rest s.client.stage x) b s
  to-run rest f x b s h = by s.client.stage refl
    where
      by : (st : Stage) → s.client.stage ≡ st → Tidies (to_run site now rest st x) b s
      by stage.Busy e = tell-keeps x rest f b s (h.0, ap is_serving e)
      by stage.Idle e = tidy-so b s h
      by stage.Head e = tidy-so b s h
      by stage.Flush e = tidy-so b s h
      by stage.Drop e = tidy-so b s h
      by stage.Over e = tidy-so b s h

  given : (x : Action J) (b : Ledger J) (s : Both R) → IsReady b s → Tidies (turns.answered site now s.client.stage x b s) b s
  given x b s h = by s.client.stage refl
    where
      by : (st : Stage) → s.client.stage ≡ st → Tidies (turns.answered site now st x b s) b s
      by stage.Busy e = turn-keeps (site.runs.answered now x b s.run) (settle site now) settle-keeps b s (h.0, ap is_serving e)
      by stage.Idle e = tidy-so b s h
      by stage.Head e = tidy-so b s h
      by stage.Flush e = tidy-so b s h
      by stage.Drop e = tidy-so b s h
      by stage.Over e = tidy-so b s h

  comes : (piece : List ℕ) (b : Ledger J) (s : Both R) → IsReady b s → Tidies (came_at site now s.client.stage (fed s.client.came piece) s) b s
  comes piece b s h = by s.client.stage refl
    where
      f : Fed
      f = fed s.client.came piece

      t : Both R
      t = record s { client = record s.client { came = f.after } }

      by : (st : Stage) → s.client.stage ≡ st → Tidies (came_at site now st f s) b s
      by stage.Busy e = awaits-keeps (settle site now) settle-keeps b t (h.0, ap is_serving e)
      by stage.Head e = hears false (settle site now) s.client.ended s.client.came piece settle-keeps b s h.0 (h.1 (ap is_serving e)).taken
      by stage.Idle e = hears true (settle site now) s.client.ended s.client.came piece settle-keeps b s h.0 (h.1 (ap is_serving e)).taken
      by stage.Drop e = hears true (settle site now) s.client.ended s.client.came piece settle-keeps b s h.0 (h.1 (ap is_serving e)).taken
      by stage.Flush e = inl (h.0, ap is_serving e)
      by stage.Over e = inr (record { taken = (h.1 (ap is_serving e)).taken; read = λ l g. never (is_between s.client.stage) (ap is_between e) g })

  client-ends : (b : Ledger J) (s : Both R) → IsReady b s → Tidies (ends_at site now s.client.stage s) b s
  client-ends b s h = by s.client.stage refl
    where
      t : Both R
      t = record s { client = record s.client { ended = true } }

      goes : is_serving s.client.stage ≡ true → (c : Bool) → Tidies (if c then tell site now seen.ClientEnded (settle site now) else settle site now) b t
      goes e true = tell-keeps seen.ClientEnded (settle site now) settle-keeps b t (h.0, e)
      goes e false = settle-keeps b t (h.0, e)

      by : (st : Stage) → s.client.stage ≡ st → Tidies (ends_at site now st s) b s
      by stage.Busy e = goes (ap is_serving e) (waits_of site now s).client
      by stage.Flush e = inl (h.0, ap is_serving e)
      by stage.Head e = finishes b s (h.1 (ap is_serving e)).taken
      by stage.Idle e = finishes b s (h.1 (ap is_serving e)).taken
      by stage.Drop e = finishes b s (h.1 (ap is_serving e)).taken
      by stage.Over e = finishes b s (h.1 (ap is_serving e)).taken

  -- an offer is asked for
  offers : (b : Ledger J) (s : Both R) → IsReady b s → Tidies (Send place.Client [] Done) b s
  offers b s h = elim (tidy-so b s h) [
    | inl k ↦ inl k
    | inr k ↦ inr (record { taken = by (has place.Client b.opened) k.taken; read = k.read })
  ]
    where
      by : (c : Bool) → is_some_left (left_at place.Client b) ≡ false
          → is_some_left (drop (b.taken place.Client) (if c && true then b.sent place.Client ++ [] else b.sent place.Client)) ≡ false
      by true k = ap (λ (xs : List ℕ). is_some_left (drop (b.taken place.Client) xs)) (append-nil (b.sent place.Client)) ∙ k
      by false k = k

  ends-send : (b : Ledger J) (s : Both R) → IsReady b s → Tidies (end_timer site now timer.Send (Send place.Client [] Done)) b s
  ends-send b s h = ends-from timer.Send (Send place.Client [] Done) b s
      (offers (without_deadline (number_of timer.Send) b) s (h.0, λ e. let k = h.1 e in record { taken = k.taken; read = k.read })) (offers b s h)

  later-keeps : (t : timer.Timer) (b : Ledger J) (s : Both R) → IsReady b s → Tidies (begin_timer site now t Done) b s
  later-keeps t b s h = elim (tidy-so b s h) [
    | inl k ↦ inl k
    | inr k ↦ inr (record { taken = k.taken; read = k.read })
  ]

  -- a turn that nothing cuts off
  turn-tidies : (a : LocalAction J) (b : Ledger J) (s : Both R) → IsReady b s → cuts_off a ≡ false → Tidies (turns.connection_turn site now a b s) b s
  turn-tidies (Did (Began at (start.Client c))) b s h cut = later-keeps timer.Header b s h
  turn-tidies (Did (Began at (start.Job n premature job))) b s h cut =
      turn-keeps (site.runs.begun_job now premature job b) Done done-keeps b (record s { client = record s.client { stage = stage.Busy } }) (h.0, refl)
  turn-tidies (Did (Bytes place.Client bytes)) b s h cut = comes bytes b s h
  turn-tidies (Did (Ended place.Client)) b s h cut = client-ends b s h
  turn-tidies (Did (Ready place.Client)) b s h cut = ends-send b s h
  turn-tidies (Did (Put place.Client bytes)) b s h cut = settle-tidy b s h.0 (tidy-so b s h)
  turn-tidies (Did (Later place.Client)) b s h cut = later-keeps timer.Send b s h
  turn-tidies (Did (Broken place.Client)) b s h cut = absurd (let e : true ≡ false = cut in cc)
  turn-tidies (Did (Lost place.Client)) b s h cut = absurd (let e : true ≡ false = cut in cc)
  turn-tidies (Did Halted) b s h cut = absurd (let e : true ≡ false = cut in cc)
  turn-tidies (Did (Due zero)) b s h cut = absurd (let e : true ≡ false = cut in cc)
  turn-tidies (Did (Due (suc zero))) b s h cut = absurd (let e : true ≡ false = cut in cc)
  turn-tidies (Did (Due (suc (suc n)))) b s h cut = to-run Done done-keeps (seen.Due (suc (suc n))) b s h
  turn-tidies (Did (Bytes (place.Sock k) bytes)) b s h cut = to-run (settle site now) settle-keeps _ b s h
  turn-tidies (Did (Ended (place.Sock k))) b s h cut = to-run (settle site now) settle-keeps _ b s h
  turn-tidies (Did (Broken (place.Sock k))) b s h cut = to-run (settle site now) settle-keeps _ b s h
  turn-tidies (Did (Ready (place.Sock k))) b s h cut = to-run (settle site now) settle-keeps _ b s h
  turn-tidies (Did (Put (place.Sock k) bytes)) b s h cut = to-run (settle site now) settle-keeps _ b s h
  turn-tidies (Did (Later (place.Sock k))) b s h cut = to-run (settle site now) settle-keeps _ b s h
  turn-tidies (Did (Lost (place.Sock k))) b s h cut = to-run (settle site now) settle-keeps _ b s h
  turn-tidies (Did (Dialled k)) b s h cut = to-run (settle site now) settle-keeps _ b s h
  turn-tidies (Did (Refused k)) b s h cut = to-run (settle site now) settle-keeps _ b s h
  turn-tidies (Did (Run k)) b s h cut = to-run (settle site now) settle-keeps _ b s h
  turn-tidies (Did (Dict zone call answer)) b s h cut = given (Dict zone call answer) b s h
  turn-tidies (Did (Take key uses)) b s h cut = given (Take key uses) b s h
  turn-tidies (Did (Dial host port did)) b s h cut = given (Dial host port did) b s h
  turn-tidies (Did (Keep k key idle size)) b s h cut = given (Keep k key idle size) b s h
  turn-tidies (Did (Timer at answer)) b s h cut = given (Timer at answer) b s h
  turn-tidies (Told w) b s h cut = tidy-so b s h
  turn-tidies (Did (Close q)) b s h cut = tidy-so b s h
  turn-tidies (Did (Log line did)) b s h cut = tidy-so b s h
  turn-tidies (Did (Offer q)) b s h cut = tidy-so b s h
  turn-tidies (Did Gone) b s h cut = tidy-so b s h
  turn-tidies (Did Dropped) b s h cut = tidy-so b s h

  -- one that cuts off the client leaves it gone
  abbrev IsGoneAfter : Move J (Both R) → Ledger J → Both R → Type 0
  IsGoneAfter m b s = is_there (perform m b s).state.ledger ≡ false

  lost : (b : Ledger J) (s : Both R) → IsGoneAfter (lose site now) b s
  lost b s = by s.client.stage
    where
      by : (st : Stage) → IsGoneAfter (lose_at site now st s) b s
      by stage.Busy =
          let rest = end_timer site now timer.Body (end_timer site now timer.Send (if (waits_of site now s).client then tell site now seen.ClientGone Done else Done)) in
          (gone-stays rest (hung_up place.Client b) s (has-without place.Client place.Client b.opened)).0
      by stage.Idle = refl
      by stage.Head = refl
      by stage.Flush = refl
      by stage.Drop = refl
      by stage.Over = refl

  turn-cuts : (a : LocalAction J) (b : Ledger J) (s : Both R) → cuts_off a ≡ true → IsGoneAfter (turns.connection_turn site now a b s) b s
  turn-cuts (Did (Broken place.Client)) b s cut = lost b s
  turn-cuts (Did (Lost place.Client)) b s cut = lost b s
  turn-cuts (Did Halted) b s cut = refl
  turn-cuts (Did (Due zero)) b s cut = lost b s
  turn-cuts (Did (Due (suc zero))) b s cut = lost b s
  turn-cuts (Did (Due (suc (suc n)))) b s cut = absurd (let e : false ≡ true = cut in cc)
  turn-cuts (Did (Broken (place.Sock k))) b s cut = absurd (let e : false ≡ true = cut in cc)
  turn-cuts (Did (Lost (place.Sock k))) b s cut = absurd (let e : false ≡ true = cut in cc)
  turn-cuts a b s cut = absurd (let e : false ≡ true = cut in cc)

module _ {J R : Type 0} (site : Service J R) where
  abbrev At : List (LocalAction J) → State J (Both R)
  At es = state_of (connection_plan site) es

  -- a client that is there and isn't served has nothing left
  abbrev IsKept : List (LocalAction J) → Type 0
  IsKept es = is_there (At es).ledger ≡ true → is_serving (At es).inner.client.stage ≡ false → IsRested (At es).ledger (At es).inner

  abbrev Enters : LocalAction J → List (LocalAction J) → Type 0
  Enters a es = is_there (entered a (At es).ledger) ≡ true → is_serving (At es).inner.client.stage ≡ false → IsRested (entered a (At es).ledger) (At es).inner

  enters : (a : LocalAction J) (es : List (LocalAction J)) → Enabled (connection_behavior site) es a → IsKept es → Enters a es
  enters (Did (Began at begin)) es en h = subst (λ (xs : List (LocalAction J)). Enters (Did (Began at begin)) xs) (sym en) (λ there e. record { taken = refl; read = λ l g. nothing-asks })
  enters (Did (Put place.Client bytes)) es en h = λ there e. let k = h there e in
      record { taken = drop-more ((At es).ledger.taken place.Client) (length bytes) ((At es).ledger.sent place.Client) k.taken; read = k.read }
  enters (Did (Dial host port true)) es en h = λ there e. let same = sym (has-append place.Client (place.Sock (At es).ledger.count) (At es).ledger.opened) in
      let k = h (same ∙ there) e in record { taken = k.taken; read = λ l g. k.read (same ∙ l) g }
  enters (Did (Take key (Some uses))) es en h = λ there e. let same = sym (has-append place.Client (place.Sock (At es).ledger.count) (At es).ledger.opened) in
      let k = h (same ∙ there) e in record { taken = k.taken; read = λ l g. k.read (same ∙ l) g }
  enters (Did (Keep k key idle size)) es en h = λ there e. let same = sym (has-without place.Client (place.Sock k) (At es).ledger.opened) in
      let r = h (same ∙ there) e in record { taken = r.taken; read = λ l g. r.read (same ∙ l) g }
  enters a es en h = λ there e. let k = h there e in record { taken = k.taken; read = k.read }

  -- what is no turn does nothing, and its moves say the same
  abbrev NextTurn : LocalAction J → List (LocalAction J) → Move J (Both R)
  NextTurn a es = move_of (connection_plan site) (moment (a ∷ es)) a (At es)

  moves-are : (a : LocalAction J) (es : List (LocalAction J)) → NextTurn a es ≡ turns.connection_turn site (moment (a ∷ es)) a (entered a (At es).ledger) (At es).inner
  moves-are (Told w) es = refl
  moves-are (Did (Close q)) es = refl
  moves-are (Did (Log line did)) es = refl
  moves-are (Did (Offer q)) es = refl
  moves-are (Did Gone) es = refl
  moves-are (Did Dropped) es = refl
  moves-are a es = refl

  tidied : (a : LocalAction J) (es : List (LocalAction J)) → Enabled (connection_behavior site) es a → IsKept es → is_there (entered a (At es).ledger) ≡ true → cuts_off a ≡ false
      → IsTidy site (moment (a ∷ es)) (At (a ∷ es))
  tidied a es en h there cut =
      subst (λ (m : Move J (Both R)). Tidies site (moment (a ∷ es)) m (entered a (At es).ledger) (At es).inner) (sym (moves-are a es))
      (turn-tidies site (moment (a ∷ es)) a (entered a (At es).ledger) (At es).inner (there, λ e. enters a es en h there e) cut)

  kept : (es : List (LocalAction J)) → IsExecution (connection_behavior site) es → IsKept es
  kept [] x = λ there e. absurd (let f : false ≡ true = there in cc)
  kept (a ∷ es) x = by (is_there b) refl (cuts_off a) refl (tidied a es x.1 (kept es x.0))
    where
      b : Ledger J
      b = entered a (At es).ledger

      by : (c : Bool) → is_there b ≡ c → (d : Bool) → cuts_off a ≡ d → (is_there b ≡ true → cuts_off a ≡ false → IsTidy site (moment (a ∷ es)) (At (a ∷ es))) → IsKept (a ∷ es)
      by false e d f tidy = λ there g. never (is_there (At (a ∷ es)).ledger) (gone-stays (NextTurn a es) b (At es).inner e).0 there
      by true e true f tidy = λ there g. never (is_there (At (a ∷ es)).ledger)
          (subst (λ (m : Move J (Both R)). IsGoneAfter site (moment (a ∷ es)) m b (At es).inner) (sym (moves-are a es)) (turn-cuts site (moment (a ∷ es)) a b (At es).inner f)) there
      by true e false f tidy = λ there g. elim (tidy e f) [
        | inl k ↦ never (is_serving (At (a ∷ es)).inner.client.stage) g k.1
        | inr k ↦ k
      ]

  pub hangs-up-taken : (es : List (LocalAction J)) → IsExecution (connection_behavior site) es → TookAllBefore (connection_behavior site) es
  hangs-up-taken [] x = tt
  hangs-up-taken (a ∷ es) x = λ cut hangs.
      let h = hung-up (NextTurn a es) (entered a (At es).ledger) (At es).inner hangs in
      elim (tidied a es x.1 (kept es x.0) h.0 cut) [
        | inl k ↦ never (is_there (At (a ∷ es)).ledger) h.1 k.0
        | inr k ↦ none-left _ (subst (λ (n : ℕ). is_some_left (drop n ((At (a ∷ es)).ledger.sent place.Client)) ≡ false) (sym (taken-is (connection_plan site) place.Client (a ∷ es))) k.taken)
      ]

  pub asks-all-between : (es : List (LocalAction J)) → IsExecution (connection_behavior site) es → IsBetweenRequests (At es) → asked_so_far (At es).inner.client.exchanges ≡ asked_in (bytes_of es)
  asks-all-between es x h =
      asks-all (At es).inner.client.came (bytes_of es) (asked_so_far (At es).inner.client.exchanges) (reads-next site es x (At es).inner.client.stage refl (awaits (At es).inner.client.stage h.waits)) ((kept es x h.there (not-serving (At es).inner.client.stage h.waits)).read h.there h.waits)

  pub takes-all-between : (es : List (LocalAction J)) → IsExecution (connection_behavior site) es → IsBetweenRequests (At es) → left_at place.Client (At es).ledger ≡ []
  takes-all-between es x h = none-left _ (kept es x h.there (not-serving (At es).inner.client.stage h.waits)).taken
