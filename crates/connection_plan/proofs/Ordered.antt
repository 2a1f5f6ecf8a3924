-- What a connection takes from its client, in order, is a beginning of what all bytes that came ask.
use Rattle.std.proofs.Common.{◌≡◌, ℕ, zero, suc, ◌&&◌, Bool, true, false, List, [], ◌∷◌, ◌++◌, Option, Some, None, if◌then◌else◌, refl, sym, ap, ◌∙◌}
use Rattle.std.proofs.Common.{subst, inl, inr}
use Rattle.std.specs.Prelude.{◌⊎◌, ◌||◌, not, length, is_some}
use Rattle.uri_args.specs.declared.targets.Target.{Target}
use Rattle.http_in.specs.declared.heads.Head as http
use Rattle.client_line.specs.declared.requests.LineOut.{LineOut}
use Rattle.client_line.specs.declared.requests.LineOut.TheVariants as out
use Rattle.client_line.specs.declared.line.Held.{Held}
use Rattle.client_line.specs.declared.line.Held.TheVariants as held
use Rattle.client_line.specs.Records.{At, Came}
use Rattle.client_line.specs.Records as line
use Rattle.client_line.specs.Lines.{nothing, after_asked, done, held_in, IsFed}
use Rattle.client_line.specs.Readings.{IsPresent}
use Rattle.client_line.specs.Feeding.{fed}
use Rattle.client_line.proofs.FeedAnswers.{is-fed}
use Rattle.strand_contract.specs.declared.turns.Place.{Place}
use Rattle.strand_contract.specs.declared.turns.Place.TheVariants as place
use Rattle.strand_contract.specs.declared.turns.Start.TheVariants as start
use Rattle.strand_contract.specs.Actions.{LocalAction, Told, Did, Began, Bytes, Ended, Broken, Ready, Dialled, Refused, same_place}
use Rattle.strand_contract.specs.Actions.{Action, Put, Later, Lost, Close, Log, Dict, Take, Dial, Keep, Timer, Dropped, Run, Offer, Due, Halted, Gone}
use Rattle.strand_contract.specs.Alone.{moment, is_open, Enabled, IsExecution}
use Rattle.strand_plans.specs.Ledgers.{Ledger, has, has_number, numbers, entered}
use Rattle.strand_plans.specs.Moves.{Move, Done, Unready, Send, Arm, Cancel, HangUp, Set, Look, Ask, End, with_sent, with_offer, with_thread, without_thread}
use Rattle.strand_plans.specs.Moves.{with_deadline, without_deadline, hung_up, asked_of, ended, perform}
use Rattle.strand_plans.specs.Moves as move
use Rattle.strand_plans.specs.Plans.{state_of, move_of}
use Rattle.strand_plans.proofs.Places.{false-either, has-without, has-append}
use Rattle.run_contract.specs.declared.turns.RunSeen.{RunSeen}
use Rattle.run_contract.specs.declared.turns.RunSeen.TheVariants as seen
use Rattle.run_contract.specs.declared.turns.Said.{Said}
use Rattle.run_contract.specs.declared.turns.Said.TheVariants as said
use Rattle.run_contract.specs.Deeds as deed
use Rattle.run_contract.specs.Deeds.{Deed, Say, Asks, Turn}
use Rattle.run_contract.specs.declared.turns.Asking.TheVariants as asking
use Rattle.run_contract.specs.declared.turns.Asking as questions
use Rattle.connection_plan.specs.Clients.{Stage, Reply, Client, Exchange, Unsent, Begun, Whole, with_more, closes_after}
use Rattle.connection_plan.specs.Clients as stage
use Rattle.connection_plan.specs.Services.{Service, Both}
use Rattle.connection_plan.specs.Timers as timer
use Rattle.connection_plan.specs.Turns.{continue_reply, is_there, is_all_taken, is_to_close, may_come, wait_more, waits_of, asks_then, answer_body, taken_answer, waiting, busy_at, change, finish, send, begin_timer, end_timer}
use Rattle.connection_plan.specs.Turns.{let_send, await_body, says, run_turn, tell, lose_at, lose, begin, close_if_taken, refuse, wait_for, heard_by, heard}
use Rattle.connection_plan.specs.Turns.{tell_body, ask_body, busy, flush, settled_at, tells, settle_for, settle}
use Rattle.connection_plan.specs.Connections.{came_at, ends_at, to_run, is_due, connection_plan, connection_behavior}
use Rattle.connection_plan.specs.Connections as turns
use Rattle.connection_plan.specs.Asked.{bytes_of, asked_so_far, AsksInOrder}
use Rattle.connection_plan.specs.InStep.{IsInStep}
use Rattle.connection_plan.specs.Lifts.{lifted}
use Rattle.connection_plan.proofs.Bodies.{asked-in-step, fed-in-step, done-in-step}
use Rattle.connection_plan.proofs.Readings.{Follows, Begins, begins, followed, begins-on, waited, requested, held-on, asked-on, refused, fed-has-room}
use Rattle.connection_plan.proofs.Readings.{fed-present, stays-present, asked-present, begins-so}

-- ---- what is known at each stage

-- the strand is a job: it began as one
abbrev is_job : {J : Type 0} → List (LocalAction J) → Bool
is_job [] = false
is_job (Did (Began now (start.Job n premature job)) ∷ es) = true
is_job (Did (Began now (start.Client c)) ∷ es) = false
is_job (a ∷ es) = is_job es

-- a request is present, where there is a client, and what is read after it was not asked yet
abbrev Asking : Bool → List ℕ → Came → List LineOut → Type 0
Asking job all came asked = (job ≡ false → IsPresent came.at) × (IsInStep came.at × Follows (done came) [] all asked)

-- what is read was not asked yet
abbrev Waiting : List ℕ → Came → List LineOut → Type 0
Waiting all came asked = IsInStep came.at × Follows came [] all asked

-- the last reply is whole, and nothing is asked after it
abbrev Closing : List ℕ → Client → Type 0
Closing all c = (c.reply ≡ Whole true) × Begins all (asked_so_far c.exchanges)

-- something was asked
abbrev IsSome : List Exchange → Type 0
IsSome [] = ⊥
IsSome (e ∷ es) = Unit {0}

abbrev AtStage : Stage → Bool → List ℕ → Client → Type 0
AtStage stage.Busy job all c = (job ≡ false → IsSome c.exchanges) × Asking job all c.came (asked_so_far c.exchanges)
AtStage stage.Flush job all c = Asking job all c.came (asked_so_far c.exchanges) ⊎ Closing all c
AtStage stage.Over job all c = Begins all (asked_so_far c.exchanges)
AtStage stage.Idle job all c = Waiting all c.came (asked_so_far c.exchanges)
AtStage stage.Head job all c = Waiting all c.came (asked_so_far c.exchanges)
AtStage stage.Drop job all c = Waiting all c.came (asked_so_far c.exchanges)

abbrev Holds : Bool → List ℕ → Client → Type 0
Holds job all c = AtStage c.stage job all c

-- the client's next bytes are waited for
abbrev pub AwaitsBytes : Stage → Type 0
AwaitsBytes stage.Idle = Unit {0}
AwaitsBytes stage.Head = Unit {0}
AwaitsBytes stage.Drop = Unit {0}
AwaitsBytes st = ⊥

-- a run goes on
abbrev Runs : Bool → List ℕ → Client → Type 0
Runs job all c = (c.stage ≡ stage.Busy) × AtStage stage.Busy job all c

runs-hold : (job : Bool) (all : List ℕ) (c : Client) → Runs job all c → Holds job all c
runs-hold job all c r = subst (λ (st : Stage). AtStage st job all c) (sym r.0) r.1

-- the stage while deeds are done: busy, or past the word that ends the run
abbrev Going : Bool → List ℕ → Client → Type 0
Going job all c = ((c.stage ≡ stage.Busy) ⊎ (c.stage ≡ stage.Flush)) × AtStage stage.Busy job all c

going-hold : (job : Bool) (all : List ℕ) (c : Client) → Going job all c → Holds job all c
going-hold job all c g = elim g.0 [
  | inl e ↦ subst (λ (st : Stage). AtStage st job all c) (sym e) g.1
  | inr e ↦ subst (λ (st : Stage). AtStage st job all c) (sym e) (inl g.1.1)
]

-- a reply is whole, after which nothing is asked
abbrev Closes : Bool → List ℕ → Client → Type 0
Closes job all c = (c.stage ≡ stage.Flush) × (IsSome c.exchanges × Closing all c)

asking-begins : (job : Bool) (all : List ℕ) (came : Came) (asked : List LineOut) → Asking job all came asked → Begins all asked
asking-begins job all came asked h = begins (done came) all asked h.1.1

stage-begins : (st : Stage) (job : Bool) (all : List ℕ) (c : Client) → AtStage st job all c → Begins all (asked_so_far c.exchanges)
stage-begins stage.Busy job all c h = asking-begins job all c.came (asked_so_far c.exchanges) h.1
stage-begins stage.Flush job all c h = elim h [
  | inl a ↦ asking-begins job all c.came (asked_so_far c.exchanges) a
  | inr w ↦ w.1
]
stage-begins stage.Over job all c h = h
stage-begins stage.Idle job all c h = begins c.came all (asked_so_far c.exchanges) h.1
stage-begins stage.Head job all c h = begins c.came all (asked_so_far c.exchanges) h.1
stage-begins stage.Drop job all c h = begins c.came all (asked_so_far c.exchanges) h.1

holds-begins : (job : Bool) (all : List ℕ) (c : Client) → Holds job all c → Begins all (asked_so_far c.exchanges)
holds-begins job all c h = stage-begins c.stage job all c h

-- more of a reply asks nothing
same-asked : (more : List ℕ) (es : List Exchange) → IsSome es → asked_so_far es ≡ asked_so_far (with_more more es)
same-asked more [] is = absurd is
same-asked more (e ∷ es) is = refl

some-more : (more : List ℕ) (es : List Exchange) → IsSome es → IsSome (with_more more es)
some-more more [] is = absurd is
some-more more (e ∷ es) is = tt

abbrev IsOfAsked : Bool → (Client → Type 0) → Type 0
IsOfAsked job Q = (more : List ℕ) (c : Client) → job ≡ false → Q c → Q (record c { exchanges = with_more more c.exchanges })

runs-asked : (job : Bool) (all : List ℕ) → IsOfAsked job (Runs job all)
runs-asked job all more c j r =
    (r.0, ((λ e. some-more more c.exchanges (r.1.0 e)), subst (Asking job all c.came) (same-asked more c.exchanges (r.1.0 j)) r.1.1))

going-asked : (job : Bool) (all : List ℕ) → IsOfAsked job (Going job all)
going-asked job all more c j r =
    (r.0, ((λ e. some-more more c.exchanges (r.1.0 e)), subst (Asking job all c.came) (same-asked more c.exchanges (r.1.0 j)) r.1.1))

closes-asked : (job : Bool) (all : List ℕ) → IsOfAsked job (Closes job all)
closes-asked job all more c j r =
    (r.0, (some-more more c.exchanges r.1.0, (r.1.1.0, subst (Begins all) (same-asked more c.exchanges r.1.0) r.1.1.1)))

neither : (x y : Bool) → y ≡ true → (x || y) ≡ false → ⊥
neither true y h e = let f : true ≡ false = e in cc
neither false y h e = let f : true ≡ false = sym h ∙ e in cc

-- ---- the client's place

-- a job has none
abbrev HasNone : {J : Type 0} → Bool → Ledger J → Type 0
HasNone job b = job ≡ true → has place.Client b.opened ≡ false

none-hung : {J : Type 0} (job : Bool) (q : Place) (b : Ledger J) → HasNone job b → HasNone job (hung_up q b)
none-hung job q b k j =
    has-without place.Client q b.opened ∙ ap (λ (c : Bool). if same_place place.Client q then false else c) (k j) ∙ false-either (same_place place.Client q)

-- no move opens it
none-then : {J R : Type 0} (job : Bool) (m : Move J (Both R)) (b : Ledger J) (s : Both R) → HasNone job b → HasNone job (perform m b s).state.ledger
none-then job Done b s k = k
none-then job (move.Ready n m) b s k = none-then job m (with_thread n b) s k
none-then job (Unready n m) b s k = none-then job m (without_thread n b) s k
none-then job (Send q bytes m) b s k = none-then job m (with_offer q (with_sent q bytes b)) s k
none-then job (Arm n at m) b s k = none-then job m (with_deadline n at b) s k
none-then job (Cancel n m) b s k = none-then job m (without_deadline n b) s k
none-then job (HangUp q m) b s k = none-then job m (hung_up q b) s (none-hung job q b k)
none-then job (move.Log line m) b s k = none-then job m b s k
none-then job (Set f m) b s k = none-then job m b (f s) k
none-then job (Look go) b s k = none-then job (go b s) b s k
none-then job (Ask x) b s k = k
none-then job End b s k = λ j. refl

client-there : {J : Type 0} (job : Bool) (b : Ledger J) → HasNone job b → is_there b ≡ true → job ≡ false
client-there true b k e = absurd (let n : true ≡ false = sym e ∙ k refl in cc)
client-there false b k e = refl

-- ---- moves

module _ {J R : Type 0} (job : Bool) (all : List ℕ) where
  -- what is known at the stage to which the moves lead
  abbrev After : Move J (Both R) → Ledger J → Both R → Type 0
  After m b s = Holds job all (perform m b s).state.inner.client

  -- from where this is known
  abbrev From : (Client → Type 0) → Move J (Both R) → Type 0
  From Q m = (b : Ledger J) (s : Both R) → HasNone job b → Q s.client → After m b s

  done-from : From (Holds job all) Done
  done-from b s k h = h

  finish-from : From (Holds job all) finish
  finish-from b s k h = holds-begins job all s.client h

module _ {J R : Type 0} (site : Service J R) (now : ℕ) (job : Bool) (all : List ℕ) where
  abbrev Leads : (Client → Type 0) → Move J (Both R) → Type 0
  Leads Q m = From job all Q m

  send-from : (Q : Client → Type 0) → IsOfAsked job Q → (bytes : List ℕ) (m : Move J (Both R)) → Leads Q m → Leads Q (send site now bytes m)
  send-from Q of bytes m f b s k q = by (is_there b) refl
    where
      by : (c : Bool) → is_there b ≡ c
          → After job all (if c then change (λ c. record c { exchanges = with_more bytes c.exchanges }) (Send place.Client bytes m) else m) b s
      by true e =
          let told = record s { client = record s.client { exchanges = with_more bytes s.client.exchanges } } in
          f (with_offer place.Client (with_sent place.Client bytes b)) told k
          (of bytes s.client (client-there job b k e) q)
      by false e = f b s k q

  begin-timer-from : (Q : Client → Type 0) (t : timer.Timer) (m : Move J (Both R)) → Leads Q m → Leads Q (begin_timer site now t m)
  begin-timer-from Q t m f b s k q = f _ s k q

  end-timer-from : (Q : Client → Type 0) (t : timer.Timer) (m : Move J (Both R)) → Leads Q m → Leads Q (end_timer site now t m)
  end-timer-from Q t m f b s k q = by (has_number (timer.number_of t) (numbers b.armed))
    where
      by : (c : Bool) → After job all (if c then Cancel (timer.number_of t) m else m) b s
      by true = f (without_deadline (timer.number_of t) b) s k q
      by false = f b s k q

  let-send-from : (c : Client) (r : Reply) (m : Move J (Both R)) → Leads (Runs job all) m → Leads (Runs job all) (let_send site now c r m)
  let-send-from c Begun m f b s k q = f b s k q
  let-send-from c (Whole closes) m f b s k q = f b s k q
  let-send-from c Unsent m f b s k q = by c.waited
    where
      asked : (x : Bool) (s : Both R) → Runs job all s.client → After job all (if x then send site now continue_reply m else m) b s
      asked true s q = send-from (Runs job all) (runs-asked job all) continue_reply m f b s k q
      asked false s q = f b s k q

      by : (w : Bool)
          → After job all (if w then m else change (λ c. record c { waited = true }) (if c.expects then send site now continue_reply m else m)) b s
      by true = f b s k q
      by false = asked c.expects (record s { client = record s.client { waited = true } }) q

  wait-more-from : (c : Client) (m : Move J (Both R)) → Leads (Runs job all) m → Leads (Runs job all) (wait_more site now c m)
  wait-more-from c m f = let-send-from c c.reply (begin_timer site now timer.Body m) (begin-timer-from (Runs job all) timer.Body m f)

  await-from : (m : Move J (Both R)) → Leads (Runs job all) m → Leads (Runs job all) (await_body site now m)
  await-from m f b s k q = by ((waits_of site now s).body && may_come site now b s.client)
    where
      by : (c : Bool) → After job all (if c then wait_more site now s.client m else m) b s
      by true = wait-more-from s.client m f b s k q
      by false = f b s k q

  -- what is known leads on where a run goes on too
  of-runs : (m : Move J (Both R)) → Leads (Holds job all) m → Leads (Runs job all) m
  of-runs m f b s k r = f b s k (runs-hold job all s.client r)

  says-from : (w : Said) (m : Move J (Both R)) → Leads (Going job all) m → Leads (Going job all) (says site now w m)
  says-from (said.Send bytes) m f b s k r =
      send-from (Going job all) (going-asked job all) bytes m f b (record s { client = record s.client { reply = stage.begun s.client.reply } }) k r
  says-from said.WantsNoBody m f b s k r = end-timer-from (Going job all) timer.Body m f b s k r
  says-from (said.Times times) m f b s k r = f b (record s { client = stage.with_times times s.client }) k r
  says-from (said.Ended closes) m f b s k r = f b (record s { client = record s.client { reply = Whole closes } }) k r
  says-from said.Over m f b s k r =
      end-timer-from (Going job all) timer.Body (change (λ c. record c { stage = stage.Flush }) m)
      (λ c t k q. f c (record t { client = record t.client { stage = stage.Flush } }) k (inr refl, q.1)) b s k r

  -- deeds keep the order: their words send for the newest exchange
  lifted-from : (ds : List Deed) (m : Move J (Both R)) → Leads (Holds job all) m → Leads (Going job all) (lifted (says site now) ds m)
  lifted-from [] m f b s k q = f b s k (going-hold job all s.client q)
  lifted-from (Say w ∷ ds) m f b s k q = says-from w (lifted (says site now) ds m) (lifted-from ds m f) b s k q
  lifted-from (deed.Ready n ∷ ds) m f b s k q = lifted-from ds m f (with_thread n b) s k q
  lifted-from (deed.Unready n ∷ ds) m f b s k q = lifted-from ds m f (without_thread n b) s k q
  lifted-from (deed.Send n bytes ∷ ds) m f b s k q = lifted-from ds m f (with_offer (place.Sock n) (with_sent (place.Sock n) bytes b)) s k q
  lifted-from (deed.Arm n at ∷ ds) m f b s k q = lifted-from ds m f (with_deadline (suc (suc n)) at b) s k q
  lifted-from (deed.Cancel n ∷ ds) m f b s k q = lifted-from ds m f (without_deadline (suc (suc n)) b) s k q
  lifted-from (deed.HangUp n ∷ ds) m f b s k q = lifted-from ds m f (hung_up (place.Sock n) b) s (none-hung job (place.Sock n) b k) q
  lifted-from (deed.Log line ∷ ds) m f b s k q = lifted-from ds m f b s k q

  asks-from : (a : Asks J) (m : Move J (Both R)) → Leads (Holds job all) m → Leads (Holds job all) (asks_then site now a m)
  asks-from deed.Nothing m f b s k h = f b s k h
  asks-from (deed.Within q) m f b s k h = f b s k h
  asks-from (deed.Outside x) m f b s k h = by (is_some (asked_of x b))
    where
      by : (c : Bool) → After job all (if c then Ask x else m) b s
      by true = h
      by false = f b s k h

  turn-from : (t : Turn J R) (m : Move J (Both R)) → Leads (Holds job all) m → Leads (Runs job all) (run_turn site now t m)
  turn-from t m f b s k r = lifted-from t.does (asks_then site now t.asks m) (asks-from t.asks m f) b (record s { run = t.run }) k (inl r.0, r.1)

  tell-from : (x : RunSeen) (m : Move J (Both R)) → Leads (Holds job all) m → Leads (Runs job all) (tell site now x m)
  tell-from x m f b s k r = turn-from (site.runs.turn now x b s.run) m f b s k r

  lose-from : Leads (Holds job all) (lose site now)
  lose-from b s k h = by s.client.stage refl
    where
      gone : (c : Bool) → Leads (Runs job all) (if c then tell site now seen.ClientGone Done else Done)
      gone true = tell-from seen.ClientGone Done (done-from job all)
      gone false = of-runs Done (done-from job all)

      by : (st : Stage) → s.client.stage ≡ st → After job all (lose_at site now st s) b s
      by stage.Busy e =
          let told = if (site.runs.waits s.run).client then tell site now seen.ClientGone Done else Done in
          end-timer-from (Runs job all) timer.Body (end_timer site now timer.Send told)
          (end-timer-from (Runs job all) timer.Send told (gone (site.runs.waits s.run).client))
          (hung_up place.Client b) s (none-hung job place.Client b k) (e, subst (λ (st : Stage). AtStage st job all s.client) e h)
      by stage.Idle e = holds-begins job all s.client h
      by stage.Head e = holds-begins job all s.client h
      by stage.Flush e = holds-begins job all s.client h
      by stage.Drop e = holds-begins job all s.client h
      by stage.Over e = holds-begins job all s.client h

  closing-from : Leads (Closes job all) (close_if_taken site now)
  closing-from b s k q = by (is_all_taken b)
    where
      by : (c : Bool) → After job all (if c then finish else Done) b s
      by true = q.1.1.1
      by false = subst (λ (st : Stage). AtStage st job all s.client) (sym q.0) (inr q.1.1)

  -- a refusal is asked where a head was refused
  abbrev Refuses : At → ℕ → Client → Type 0
  Refuses (line.Over status) code c = Begins all (asked_so_far c.exchanges ++ out.Refused code ∷ [])
  Refuses at code c = Begins all (asked_so_far c.exchanges)

  refuse-from : (at : At) (code : ℕ) → Leads (Refuses at code) (refuse site now at code)
  refuse-from (line.Over status) code b s k q =
      send-from (Closes job all) (closes-asked job all) (site.refusal code now) (close_if_taken site now) closing-from b
      (record s { client = stage.with_refusal code site.default_times s.client }) k (refl, (tt, (refl, q)))
  refuse-from line.Head code b s k q = q
  refuse-from (line.Present body kind skips) code b s k q = q
  refuse-from (line.Dropping far) code b s k q = q

  wait-from : (w : Held) → Leads (λ c. Waiting all c.came (asked_so_far c.exchanges)) (wait_for site now w)
  wait-from held.Body b s k h = h
  wait-from held.Nothing b s k h = h
  wait-from held.Begun b s k h = h
  wait-from held.Request b s k h = h

  -- a request that came begins
  abbrev IsBegun : http.Head → Target → Client → Type 0
  IsBegun head target c = IsPresent c.came.at × (IsInStep c.came.at × Follows (done c.came) [] all (asked_so_far c.exchanges ++ out.Request head target ∷ []))

  begin-from : (rest : Move J (Both R)) (head : http.Head) (target : Target) → Leads (Holds job all) rest
      → Leads (IsBegun head target) (begin site now rest head target)
  begin-from rest head target fair b s k q =
      turn-from (site.runs.begun now head target b) rest fair b
      (record { client = stage.with_request head target (site.times_of head target) s.client; run = site.runs.unborn }) k
      (refl, ((λ e. tt), ((λ e. q.0), q.1)))

  refused-so : (came after : Came) (piece : List ℕ) (code : ℕ) (c : Client) → IsFed came piece (out.Refused code) after
      → Follows after [] all (asked_so_far c.exchanges)
      → (at : At) → after.at ≡ at → Refuses at code c
  refused-so came after piece code c is h (line.Over status) e = refused came after piece all status code (asked_so_far c.exchanges) is e h
  refused-so came after piece code c is h line.Head e = begins after all (asked_so_far c.exchanges) h
  refused-so came after piece code c is h (line.Present body kind skips) e = begins after all (asked_so_far c.exchanges) h
  refused-so came after piece code c is h (line.Dropping far) e = begins after all (asked_so_far c.exchanges) h

  heard-from : (anew : Bool) (rest : Move J (Both R)) (came : Came) (piece : List ℕ) (ended : Bool) (b : Ledger J) (s : Both R) → HasNone job b
      → Leads (Holds job all) rest
      → (anew ≡ false → s.client.stage ≡ stage.Head) → IsInStep came.at → Follows came piece all (asked_so_far s.client.exchanges)
      → After job all (heard site now anew rest ended (fed came piece)) b s
  heard-from anew rest came piece ended b s k fair at-head x h = by (fed came piece).answer refl
    where
      after : Came
      after = (fed came piece).after

      t : Both R
      t = record s { client = record s.client { came = after } }

      step : IsInStep after.at
      step = fed-in-step came piece x

      is : (answer : LineOut) → (fed came piece).answer ≡ answer → IsFed came piece answer after
      is answer e = subst (λ (a : LineOut). IsFed came piece a after) e (is-fed came piece)

      more : (c d : Bool) → anew ≡ d → Follows after [] all (asked_so_far s.client.exchanges)
          → After job all (if c then finish else (if d then wait_for site now (held_in after.at after.held) else Done)) b t
      more true d e h = begins after all (asked_so_far s.client.exchanges) h
      more false true e h = wait-from (held_in after.at after.held) b t k (step, h)
      more false false e h = subst (λ (st : Stage). AtStage st job all t.client) (sym (at-head e)) (step, h)

      by : (answer : LineOut) → (fed came piece).answer ≡ answer
          → After job all (heard_by site now anew rest after ended answer) b t
      by (out.Request head target) e =
          end-timer-from (IsBegun head target) timer.Header (begin site now rest head target) (begin-from rest head target fair) b t k (
            fed-present came after piece head target (is (out.Request head target) e),
            (step, requested came after piece all head target (asked_so_far s.client.exchanges) (is (out.Request head target) e) h),
          )
      by (out.Refused code) e =
          let follows = waited came after piece all (out.Refused code) (asked_so_far s.client.exchanges) (is (out.Refused code) e) (inr (code, refl)) h in
          end-timer-from (Refuses after.at code) timer.Header (refuse site now after.at code) (refuse-from after.at code) b t k
          (refused-so came after piece code t.client (is (out.Refused code) e) follows after.at refl)
      by out.Waiting e = more ended anew refl (waited came after piece all out.Waiting (asked_so_far s.client.exchanges) (is out.Waiting e) (inl refl) h)
      by out.Memory e = absurd (fed-has-room came piece e)

  told-from : (again : Move J (Both R)) (o : Option RunSeen) → Leads (Holds job all) again → Leads (Runs job all) (tell_body site now again o)
  told-from again None f b s k r = runs-hold job all s.client r
  told-from again (Some x) f b s k r = end-timer-from (Runs job all) timer.Body (tell site now x again) (tell-from x again f) b s k r

  asking-asks : (came : Came) (max : ℕ) (asked : List LineOut) → Asking job all came asked → Asking job all (after_asked came max) asked
  asking-asks came max asked h =
      ((λ e. asked-present came.at came.held max (h.0 e)), (asked-in-step came.at came.held max h.1.0, asked-on came max all asked h.1.0 h.1.1))

  answer-from : (again : Move J (Both R)) (o : Option RunSeen) → Leads (Holds job all) again → Leads (Runs job all) (answer_body site now again o)
  answer-from again None f b s k r = wait-more-from s.client (tell site now seen.NotYet again) (tell-from seen.NotYet again f) b s k r
  answer-from again (Some x) f b s k r = end-timer-from (Runs job all) timer.Body (tell site now x again) (tell-from x again f) b s k r

  waiting-from : (again : Move J (Both R)) (b : Ledger J) (s : Both R) → HasNone job b → Leads (Holds job all) again → Runs job all s.client
      → After job all (waiting site now again b s) b s
  waiting-from again b s k f r = first (is_all_taken b && (site.runs.waits s.run).taken) (is_to_close b s.client) (site.runs.waits s.run).body
    where
      first : (x y z : Bool)
          → After job all
          (if x then tell site now seen.AllTaken again else (if y then lose site now else (if z then ask_body site now again b s.client else Done))) b s
      first true y z = tell-from seen.AllTaken again f b s k r
      first false true z = lose-from b s k (runs-hold job all s.client r)
      first false false true =
          told-from again _ f b (record s { client = record s.client { came = after_asked s.client.came s.client.limit } }) k
          (r.0, (r.1.0, asking-asks s.client.came s.client.limit (asked_so_far s.client.exchanges) r.1.1))
      first false false false = runs-hold job all s.client r

  busy-from : (again : Move J (Both R)) (b : Ledger J) (s : Both R) → HasNone job b → Leads (Holds job all) again → Runs job all s.client
      → After job all (busy site now again b s) b s
  busy-from again b s k f r = by (site.runs.waits s.run).asks
    where
      by : (q : Option questions.Asking) → After job all (busy_at site now q again b s) b s
      by None = waiting-from again b s k f r
      by (Some asking.AllTaken) = tell-from (taken_answer site now b) again f b s k r
      by (Some (asking.Body max)) = answer-from again _ f b (record s { client = record s.client { limit = max; came = after_asked s.client.came max } }) k
          (r.0, (r.1.0, asking-asks s.client.came max (asked_so_far s.client.exchanges) r.1.1))

  flush-from : (rest : Move J (Both R)) (b : Ledger J) (s : Both R) → HasNone job b → Leads (Holds job all) rest → s.client.stage ≡ stage.Flush
      → AtStage stage.Flush job all s.client
      → After job all (flush site now rest b s.client) b s
  flush-from rest b s k f e h = by (not (is_all_taken b)) (not (is_there b) || closes_after s.client.reply) refl
    where
      by : (c d : Bool) → (not (is_there b) || closes_after s.client.reply) ≡ d
          → After job all (if c then Done else (if d then finish else heard site now true rest s.client.ended (fed (done s.client.came) []))) b s
      by true d n = subst (λ (st : Stage). AtStage st job all s.client) (sym e) h
      by false true n = stage-begins stage.Flush job all s.client h
      by false false n = elim h [
        | inl a ↦ heard-from true rest (done s.client.came) [] s.client.ended b s k f (λ g. absurd (let n : true ≡ false = g in cc))
            (done-in-step s.client.came.at s.client.came.held a.1.0) a.1.1
        | inr w ↦ absurd (neither (not (is_there b)) (closes_after s.client.reply) (ap closes_after w.0) n)
      ]

  settled-from : (st : Stage) (again rest : Move J (Both R)) (b : Ledger J) (s : Both R) → HasNone job b → s.client.stage ≡ st → Leads (Holds job all) again
      → Leads (Holds job all) rest
      → Holds job all s.client → After job all (settled_at site now st again rest b s) b s
  settled-from stage.Busy again rest b s k e f g h = busy-from again b s k f (e, subst (λ (st : Stage). AtStage st job all s.client) e h)
  settled-from stage.Flush again rest b s k e f g h = flush-from rest b s k g e (subst (λ (st : Stage). AtStage st job all s.client) e h)
  settled-from stage.Idle again rest b s k e f g h = h
  settled-from stage.Head again rest b s k e f g h = h
  settled-from stage.Drop again rest b s k e f g h = h
  settled-from stage.Over again rest b s k e f g h = h

  tells-from : (rest : Move J (Both R)) (n : ℕ) → Leads (Holds job all) rest → Leads (Holds job all) (tells site now rest n)
  tells-from rest zero g b s k h = settled-from s.client.stage Done rest b s k refl (done-from job all) g h
  tells-from rest (suc n) g b s k h = settled-from s.client.stage (tells site now rest n) rest b s k refl (tells-from rest n g) g h

  settle-for-from : (n : ℕ) → Leads (Holds job all) (settle_for site now n)
  settle-for-from zero b s k h = h
  settle-for-from (suc n) b s k h = tells-from (settle_for site now n) (site.runs.tells_left s.run) (settle-for-from n) b s k h

  settle-from : Leads (Holds job all) (settle site now)
  settle-from b s k h = settle-for-from (suc (length s.client.came.held)) b s k h

  ends-from : (st : Stage) (b : Ledger J) (s : Both R) → HasNone job b → s.client.stage ≡ st → Holds job all s.client
      → After job all (ends_at site now st s) b s
  ends-from stage.Busy b s k e h = by (site.runs.waits s.run).client
    where
      t : Both R
      t = record s { client = record s.client { ended = true } }

      r : Runs job all t.client
      r = (e, subst (λ (st : Stage). AtStage st job all s.client) e h)

      by : (c : Bool) → After job all (if c then tell site now seen.ClientEnded (settle site now) else settle site now) b t
      by true = tell-from seen.ClientEnded (settle site now) settle-from b t k r
      by false = of-runs (settle site now) settle-from b t k r
  ends-from stage.Flush b s k e h =
      let c = record s.client { ended = true } in
      let flushes : AtStage stage.Flush job all s.client = subst (λ (st : Stage). AtStage st job all s.client) e h in
      subst (λ (st : Stage). AtStage st job all c) (sym e) flushes
  ends-from stage.Idle b s k e h = holds-begins job all s.client h
  ends-from stage.Head b s k e h = holds-begins job all s.client h
  ends-from stage.Drop b s k e h = holds-begins job all s.client h
  ends-from stage.Over b s k e h = holds-begins job all s.client h

  to-run-from : (m : Move J (Both R)) (st : Stage) (x : RunSeen) (b : Ledger J) (s : Both R) → HasNone job b → Leads (Holds job all) m → s.client.stage ≡ st
      → Holds job all s.client
      → After job all (to_run site now m st x) b s
  to-run-from m stage.Busy x b s k f e h = tell-from x m f b s k (e, subst (λ (st : Stage). AtStage st job all s.client) e h)
  to-run-from m stage.Flush x b s k f e h = h
  to-run-from m stage.Idle x b s k f e h = h
  to-run-from m stage.Head x b s k f e h = h
  to-run-from m stage.Drop x b s k f e h = h
  to-run-from m stage.Over x b s k f e h = h

  sock-from : (x : RunSeen) (b : Ledger J) (s : Both R) → HasNone job b → Holds job all s.client
      → After job all (to_run site now (settle site now) s.client.stage x) b s
  sock-from x b s k h = to-run-from (settle site now) s.client.stage x b s k settle-from refl h

  answered-from : (st : Stage) (x : Action J) (b : Ledger J) (s : Both R) → HasNone job b → s.client.stage ≡ st → Holds job all s.client
      → After job all (turns.answered site now st x b s) b s
  answered-from stage.Busy x b s k e h =
      turn-from (site.runs.answered now x b s.run) (settle site now) settle-from b s k (e, subst (λ (st : Stage). AtStage st job all s.client) e h)
  answered-from stage.Flush x b s k e h = h
  answered-from stage.Idle x b s k e h = h
  answered-from stage.Head x b s k e h = h
  answered-from stage.Drop x b s k e h = h
  answered-from stage.Over x b s k e h = h

  due-from : (st : Stage) (n : ℕ) (b : Ledger J) (s : Both R) → HasNone job b → s.client.stage ≡ st → Holds job all s.client
      → After job all (is_due site now st n) b s
  due-from st zero b s k e h = lose-from b s k h
  due-from st (suc zero) b s k e h = lose-from b s k h
  due-from st (suc (suc n)) b s k e h = to-run-from Done st (seen.Due (suc (suc n))) b s k (done-from job all) e h

-- ---- a piece comes to a strand that has a client

module _ {J R : Type 0} (site : Service J R) (now : ℕ) (before piece : List ℕ) where
  asking-on : (came : Came) (asked : List LineOut) → Asking false before came asked → Asking false (before ++ piece) (fed came piece).after asked
  asking-on came asked h =
      ((λ e. stays-present came.at came.held piece (h.0 refl)), (fed-in-step came piece h.1.0, held-on came before piece asked (h.0 refl) h.1.1))

  heard-so : (anew : Bool) (b : Ledger J) (s : Both R) → HasNone false b → (anew ≡ false → s.client.stage ≡ stage.Head)
      → Waiting before s.client.came (asked_so_far s.client.exchanges)
      → After false (before ++ piece) (heard site now anew (settle site now) s.client.ended (fed s.client.came piece)) b s
  heard-so anew b s k at-head h =
      heard-from site now false (before ++ piece) anew (settle site now) s.client.came piece s.client.ended b s k
      (settle-from site now false (before ++ piece)) at-head h.0
      (followed s.client.came before piece (asked_so_far s.client.exchanges) h.1)

  came-from : (st : Stage) (b : Ledger J) (s : Both R) → HasNone false b → s.client.stage ≡ st → AtStage st false before s.client
      → After false (before ++ piece) (came_at site now st (fed s.client.came piece) s) b s
  came-from stage.Busy b s k e h =
      await-from site now false (before ++ piece) (settle site now)
      (of-runs site now false (before ++ piece) (settle site now) (settle-from site now false (before ++ piece))) b
      (record s { client = record s.client { came = (fed s.client.came piece).after } }) k
      (e, (h.0, asking-on s.client.came (asked_so_far s.client.exchanges) h.1))
  came-from stage.Head b s k e h = heard-so false b s k (λ g. e) h
  came-from stage.Idle b s k e h = heard-so true b s k (λ g. absurd (let n : true ≡ false = g in cc)) h
  came-from stage.Drop b s k e h = heard-so true b s k (λ g. absurd (let n : true ≡ false = g in cc)) h
  came-from stage.Flush b s k e h =
      let c = record s.client { came = (fed s.client.came piece).after } in
      let at : AtStage stage.Flush false (before ++ piece) c = elim h [
        | inl a ↦ inl (asking-on s.client.came (asked_so_far s.client.exchanges) a)
        | inr w ↦ inr (w.0, begins-on before piece (asked_so_far s.client.exchanges) w.1)
      ] in
      subst (λ (st : Stage). AtStage st false (before ++ piece) c) (sym e) at
  came-from stage.Over b s k e h =
      let c = record s.client { came = (fed s.client.came piece).after } in
      subst (λ (st : Stage). AtStage st false (before ++ piece) c) (sym e) (begins-on before piece (asked_so_far s.client.exchanges) h)

-- ---- an execution

-- a job has no client
job-closed : {J R : Type 0} (site : Service J R) (es : List (LocalAction J)) → IsExecution (connection_behavior site) es → is_job es ≡ true
    → is_open place.Client es ≡ false
job-closed site [] x j = refl
job-closed site (Did (Began now (start.Client c)) ∷ es) x j = absurd (let n : false ≡ true = j in cc)
job-closed site (Did (Began now (start.Job n premature job)) ∷ es) x j = ap (is_open place.Client) x.1
job-closed site (Did (Dial host port true) ∷ es) x j = job-closed site es x.0 j
job-closed site (Did (Dial host port false) ∷ es) x j = job-closed site es x.0 j
job-closed site (Did (Take key (Some uses)) ∷ es) x j = job-closed site es x.0 j
job-closed site (Did (Take key None) ∷ es) x j = job-closed site es x.0 j
job-closed site (Did (Close place.Client) ∷ es) x j = refl
job-closed site (Did (Close (place.Sock k)) ∷ es) x j = job-closed site es x.0 j
job-closed site (Did (Keep k key idle size) ∷ es) x j = job-closed site es x.0 j
job-closed site (a ∷ es) x j = job-closed site es x.0 j

-- a strand to whose client's place bytes come is none
no-job : {J R : Type 0} (site : Service J R) (es : List (LocalAction J)) → IsExecution (connection_behavior site) es → is_open place.Client es ≡ true
    → is_job es ≡ false
no-job site es x o = by (is_job es) refl
  where
    by : (c : Bool) → is_job es ≡ c → c ≡ false
    by true e = absurd (let n : true ≡ false = sym o ∙ job-closed site es x e in cc)
    by false e = refl

module _ {J R : Type 0} (site : Service J R) where
  abbrev InOrder : List (LocalAction J) → Type 0
  InOrder es = Holds (is_job es) (bytes_of es) (state_of (connection_plan site) es).inner.client

  -- before anything is asked
  first : Follows nothing [] [] []
  first later rs answer x = (rs, x, refl)

  abbrev FirstWaits : List (LocalAction J) → Type 0
  FirstWaits es = Holds false (bytes_of es) (state_of (connection_plan site) es).inner.client

  abbrev FirstAsks : List (LocalAction J) → Type 0
  FirstAsks es = AtStage stage.Busy true (bytes_of es) (state_of (connection_plan site) es).inner.client

  begins-waiting : (es : List (LocalAction J)) → es ≡ [] → FirstWaits es
  begins-waiting es e = subst FirstWaits (sym e) (tt, first)

  begins-asking : (es : List (LocalAction J)) → es ≡ [] → FirstAsks es
  begins-asking es e = subst FirstAsks (sym e) ((λ n. absurd (let k : true ≡ false = n in cc)), ((λ n. absurd (let k : true ≡ false = n in cc)), (tt, first)))

  -- what an action enters opens no place of the client's to a job
  none-enters : (a : LocalAction J) (es : List (LocalAction J)) → Enabled (connection_behavior site) es a
      → HasNone (is_job es) (state_of (connection_plan site) es).ledger
      → HasNone (is_job (a ∷ es)) (entered a (state_of (connection_plan site) es).ledger)
  none-enters (Did (Began begun (start.Client c))) es en k = λ j. absurd (let n : false ≡ true = j in cc)
  none-enters (Did (Began begun (start.Job n premature job))) es en k = λ j.
      ap (λ (es : List (LocalAction J)). has place.Client (state_of (connection_plan site) es).ledger.opened) en
  none-enters (Did (Dial host port true)) es en k = λ j.
      let b = (state_of (connection_plan site) es).ledger in has-append place.Client (place.Sock b.count) b.opened ∙ k j
  none-enters (Did (Dial host port false)) es en k = k
  none-enters (Did (Take key (Some uses))) es en k = λ j.
      let b = (state_of (connection_plan site) es).ledger in has-append place.Client (place.Sock b.count) b.opened ∙ k j
  none-enters (Did (Take key None)) es en k = k
  none-enters (Did (Keep n key idle size)) es en k = λ j. has-without place.Client (place.Sock n) (state_of (connection_plan site) es).ledger.opened ∙ k j
  none-enters a es en k = k

  step : (a : LocalAction J) (es : List (LocalAction J)) → IsExecution (connection_behavior site) es → Enabled (connection_behavior site) es a
      → HasNone (is_job (a ∷ es)) (entered a (state_of (connection_plan site) es).ledger) → InOrder es → InOrder (a ∷ es)
  step (Did (Began begun (start.Client c))) es x en k h = begins-waiting es en
  step (Did (Began begun (start.Job n premature job))) es x en k h =
      let st = state_of (connection_plan site) es in
      let b = entered (Did (Began begun (start.Job n premature job))) st.ledger in
      turn-from site begun true (bytes_of es) (site.runs.begun_job begun premature job b) Done (done-from true (bytes_of es)) b
      (record st.inner { client = record st.inner.client { stage = stage.Busy } }) k (refl, begins-asking es en)
  step (Did (Bytes place.Client bytes)) es x en k h =
      let st = state_of (connection_plan site) es in
      let none : is_job es ≡ false = no-job site es x en.0.opened in
      subst (λ (j : Bool). Holds j (bytes_of es ++ bytes) (state_of (connection_plan site) (Did (Bytes place.Client bytes) ∷ es)).inner.client) (sym none)
      (came-from site (moment es) (bytes_of es) bytes st.inner.client.stage (entered (Did (Bytes place.Client bytes)) st.ledger) st.inner
      (subst (λ (j : Bool). HasNone j st.ledger) none k) refl
      (subst (λ (j : Bool). Holds j (bytes_of es) st.inner.client) none h))
  step (Did (Ended place.Client)) es x en k h = let st = state_of (connection_plan site) es in
      ends-from site (moment es) (is_job es) (bytes_of es) st.inner.client.stage (entered (Did (Ended place.Client)) st.ledger) st.inner k refl h
  step (Did (Broken place.Client)) es x en k h = let st = state_of (connection_plan site) es in
      lose-from site (moment es) (is_job es) (bytes_of es) (entered (Did (Broken place.Client)) st.ledger) st.inner k h
  step (Did (Ready place.Client)) es x en k h = let st = state_of (connection_plan site) es in
      end-timer-from site (moment es) (is_job es) (bytes_of es) (Holds (is_job es) (bytes_of es)) timer.Send (Send place.Client [] Done) (λ b s k q. q)
      (entered (Did (Ready place.Client)) st.ledger) st.inner k h
  step (Did (Put place.Client bytes)) es x en k h = let st = state_of (connection_plan site) es in
      settle-from site (moment es) (is_job es) (bytes_of es) (entered (Did (Put place.Client bytes)) st.ledger) st.inner k h
  step (Did (Later place.Client)) es x en k h = h
  step (Did (Lost place.Client)) es x en k h = let st = state_of (connection_plan site) es in
      lose-from site (moment es) (is_job es) (bytes_of es) (entered (Did (Lost place.Client)) st.ledger) st.inner k h
  step (Did (Bytes (place.Sock n) bytes)) es x en k h = let st = state_of (connection_plan site) es in
      sock-from site (moment es) (is_job es) (bytes_of es) _ (entered (Did (Bytes (place.Sock n) bytes)) st.ledger) st.inner k h
  step (Did (Ended (place.Sock n))) es x en k h = let st = state_of (connection_plan site) es in
      sock-from site (moment es) (is_job es) (bytes_of es) _ (entered (Did (Ended (place.Sock n))) st.ledger) st.inner k h
  step (Did (Broken (place.Sock n))) es x en k h = let st = state_of (connection_plan site) es in
      sock-from site (moment es) (is_job es) (bytes_of es) _ (entered (Did (Broken (place.Sock n))) st.ledger) st.inner k h
  step (Did (Ready (place.Sock n))) es x en k h = let st = state_of (connection_plan site) es in
      sock-from site (moment es) (is_job es) (bytes_of es) _ (entered (Did (Ready (place.Sock n))) st.ledger) st.inner k h
  step (Did (Put (place.Sock n) bytes)) es x en k h = let st = state_of (connection_plan site) es in
      sock-from site (moment es) (is_job es) (bytes_of es) _ (entered (Did (Put (place.Sock n) bytes)) st.ledger) st.inner k h
  step (Did (Later (place.Sock n))) es x en k h = let st = state_of (connection_plan site) es in
      sock-from site (moment es) (is_job es) (bytes_of es) _ (entered (Did (Later (place.Sock n))) st.ledger) st.inner k h
  step (Did (Lost (place.Sock n))) es x en k h = let st = state_of (connection_plan site) es in
      sock-from site (moment es) (is_job es) (bytes_of es) _ (entered (Did (Lost (place.Sock n))) st.ledger) st.inner k h
  step (Did (Dialled n)) es x en k h = let st = state_of (connection_plan site) es in
      sock-from site (moment es) (is_job es) (bytes_of es) _ (entered (Did (Dialled n)) st.ledger) st.inner k h
  step (Did (Refused n)) es x en k h = let st = state_of (connection_plan site) es in
      sock-from site (moment es) (is_job es) (bytes_of es) _ (entered (Did (Refused n)) st.ledger) st.inner k h
  step (Did (Dict zone call given)) es x en k h = let st = state_of (connection_plan site) es in
      answered-from site (moment es) (is_job es) (bytes_of es) st.inner.client.stage (Dict zone call given) _ st.inner k refl h
  step (Did (Take key uses)) es x en k h = let st = state_of (connection_plan site) es in
      answered-from site (moment es) (is_job es) (bytes_of es) st.inner.client.stage (Take key uses) _ st.inner k refl h
  step (Did (Dial host port done)) es x en k h = let st = state_of (connection_plan site) es in
      answered-from site (moment es) (is_job es) (bytes_of es) st.inner.client.stage (Dial host port done) _ st.inner k refl h
  step (Did (Keep n key idle size)) es x en k h = let st = state_of (connection_plan site) es in
      answered-from site (moment es) (is_job es) (bytes_of es) st.inner.client.stage (Keep n key idle size) _ st.inner k refl h
  step (Did (Timer at given)) es x en k h = let st = state_of (connection_plan site) es in
      answered-from site (moment es) (is_job es) (bytes_of es) st.inner.client.stage (Timer at given) _ st.inner k refl h
  step (Did (Run n)) es x en k h = let st = state_of (connection_plan site) es in
      sock-from site (moment es) (is_job es) (bytes_of es) (seen.Run n) (entered (Did (Run n)) st.ledger) st.inner k h
  step (Did (Due n)) es x en k h = let st = state_of (connection_plan site) es in
      due-from site (moment es) (is_job es) (bytes_of es) st.inner.client.stage n (entered (Did (Due n)) st.ledger) st.inner k refl h
  step (Did Halted) es x en k h = let st = state_of (connection_plan site) es in
      holds-begins (is_job es) (bytes_of es) st.inner.client h
  step (Told w) es x en k h = h
  step (Did (Close q)) es x en k h = h
  step (Did (Log line done)) es x en k h = h
  step (Did (Offer q)) es x en k h = h
  step (Did Gone) es x en k h = h
  step (Did Dropped) es x en k h = h

  abbrev Kept : List (LocalAction J) → Type 0
  Kept es = HasNone (is_job es) (state_of (connection_plan site) es).ledger × InOrder es

  kept : (es : List (LocalAction J)) → IsExecution (connection_behavior site) es → Kept es
  kept [] x = ((λ j. refl), (tt, first))
  kept (a ∷ es) x =
      let st = state_of (connection_plan site) es in
      let before = kept es x.0 in
      let enters = none-enters a es x.1 before.0 in (
        none-then (is_job (a ∷ es)) (move_of (connection_plan site) (moment (a ∷ es)) a st) (entered a st.ledger) st.inner enters,
        step a es x.0 x.1 enters before.1,
      )

  pub asks-in-order : (es : List (LocalAction J)) → IsExecution (connection_behavior site) es → AsksInOrder es (state_of (connection_plan site) es)
  asks-in-order es x =
      let c = (state_of (connection_plan site) es).inner.client in
      begins-so (bytes_of es) (asked_so_far c.exchanges) (holds-begins (is_job es) (bytes_of es) c (kept es x).1)

  -- where the client's next bytes are waited for, what is read of them was not asked yet
  pub reads-next : (es : List (LocalAction J)) → IsExecution (connection_behavior site) es → (st : Stage) → (state_of (connection_plan site) es).inner.client.stage ≡ st → AwaitsBytes st
      → let c = (state_of (connection_plan site) es).inner.client in Follows c.came [] (bytes_of es) (asked_so_far c.exchanges)
  reads-next es x st e at = by st at (subst (λ (st : Stage). AtStage st (is_job es) (bytes_of es) c) e (kept es x).1)
    where
      c : Client
      c = (state_of (connection_plan site) es).inner.client

      by : (st : Stage) → AwaitsBytes st → AtStage st (is_job es) (bytes_of es) c → Follows c.came [] (bytes_of es) (asked_so_far c.exchanges)
      by stage.Idle at h = h.1
      by stage.Head at h = h.1
      by stage.Drop at h = h.1
      by stage.Busy at h = absurd at
      by stage.Flush at h = absurd at
      by stage.Over at h = absurd at
