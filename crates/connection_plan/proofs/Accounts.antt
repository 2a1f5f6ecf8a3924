-- What a connection sends is the replies to what its client asked, in order.
use Rattle.std.proofs.Common.{◌≡◌, ℕ, zero, suc, ◌&&◌, Bool, true, false, List, [], ◌∷◌, ◌++◌, Option, Some, None, if◌then◌else◌, refl, sym, ap, ◌∙◌, append-nil, append_assoc}
use Rattle.std.specs.Prelude.{not, length, is_some}
use Rattle.client_line.specs.declared.requests.LineOut.{LineOut}
use Rattle.client_line.specs.declared.requests.LineOut.TheVariants as out
use Rattle.client_line.specs.declared.line.Held.{Held}
use Rattle.client_line.specs.declared.line.Held.TheVariants as held
use Rattle.client_line.specs.Records.{At}
use Rattle.client_line.specs.Records as line
use Rattle.client_line.specs.Lines.{after_asked, done, held_in}
use Rattle.client_line.specs.Feeding.{Fed, fed}
use Rattle.strand_contract.specs.declared.turns.Place.TheVariants as place
use Rattle.strand_contract.specs.declared.turns.Start.TheVariants as start
use Rattle.strand_contract.specs.Actions.{LocalAction, Told, Did, Began, Bytes, Ended, Broken, Ready, Dialled, Refused}
use Rattle.strand_contract.specs.Actions.{Action, Put, Later, Lost, Close, Log, Dict, Take, Dial, Keep, Timer, Dropped, Run, Offer, Due, Halted, Gone}
use Rattle.strand_contract.specs.Alone.{moment}
use Rattle.strand_plans.specs.Ledgers.{Ledger, has, has_number, numbers, entered}
use Rattle.strand_plans.specs.Moves.{Move, Done, Send, Cancel, Ask, State, with_sent, with_offer, with_thread, without_thread, with_deadline, without_deadline, hung_up, asked_of, perform}
use Rattle.strand_plans.specs.Plans.{state_of, stepped}
use Rattle.run_contract.specs.declared.turns.RunSeen.{RunSeen}
use Rattle.run_contract.specs.declared.turns.RunSeen.TheVariants as seen
use Rattle.run_contract.specs.declared.turns.Said.{Said}
use Rattle.run_contract.specs.declared.turns.Said.TheVariants as said
use Rattle.run_contract.specs.Deeds as deed
use Rattle.run_contract.specs.Deeds.{Deed, Say, Asks, Turn}
use Rattle.run_contract.specs.declared.turns.Asking.{Asking}
use Rattle.run_contract.specs.declared.turns.Asking.TheVariants as asking
use Rattle.connection_plan.specs.Clients.{Stage, Reply, Client, Exchange, Unsent, Begun, Whole, replies_of, with_more}
use Rattle.connection_plan.specs.Clients as stage
use Rattle.connection_plan.specs.Services.{Service, Both}
use Rattle.connection_plan.specs.Timers as timer
use Rattle.connection_plan.specs.Turns.{continue_reply, is_there, is_all_taken, is_to_close, may_come, wait_more, waits_of, asks_then, change, finish, send}
use Rattle.connection_plan.specs.Turns.{begin_timer, end_timer, let_send, await_body, says, run_turn, tell, lose_at, lose, begin, close_if_taken, refuse}
use Rattle.connection_plan.specs.Turns.{wait_for, heard_by, heard, tell_body, ask_body, answer_body, taken_answer, waiting, busy_at, busy, flush}
use Rattle.connection_plan.specs.Turns.{settled_at, tells, settle_for, settle}
use Rattle.connection_plan.specs.Connections.{came_at, ends_at, to_run, is_due, connection_plan}
use Rattle.connection_plan.specs.Connections as turns
use Rattle.connection_plan.specs.Accounts.{Accounts}
use Rattle.connection_plan.specs.Lifts.{lifted}

more-replies : (bytes : List ℕ) (es : List Exchange) → replies_of es ++ bytes ≡ replies_of (with_more bytes es)
more-replies bytes [] = refl
more-replies bytes (e ∷ es) = append_assoc (replies_of es) e.reply bytes

not-client : (c : Bool) (xs bytes : List ℕ) → xs ≡ (if c && false then xs ++ bytes else xs)
not-client true xs bytes = refl
not-client false xs bytes = refl

none-more : (c : Bool) (xs : List ℕ) → xs ≡ (if c && true then xs ++ [] else xs)
none-more true xs = sym (append-nil xs)
none-more false xs = refl

abbrev state : {J S : Type 0} → Ledger J → S → State J S
state b s = record { ledger = b; inner = s }

module _ {J R : Type 0} where
  -- moves that keep the account
  abbrev pub Fair : Move J (Both R) → Type 0
  Fair m = (b : Ledger J) (s : Both R) → Accounts (state b s) → Accounts (perform m b s).state

  pub done-fair : Fair Done
  done-fair b s h = h

  pub finish-fair : Fair finish
  finish-fair b s h = h

module _ {J R : Type 0} (site : Service J R) (now : ℕ) where
  send-fair : (bytes : List ℕ) (m : Move J (Both R)) → Fair m → Fair (send site now bytes m)
  send-fair bytes m f b s h = by (is_there b) refl
    where
      by : (c : Bool) → is_there b ≡ c → Accounts (perform (if c then change (λ c. record c { exchanges = with_more bytes c.exchanges }) (Send place.Client bytes m) else m) b s).state
      by true e = f (with_offer place.Client (with_sent place.Client bytes b)) (record s { client = record s.client { exchanges = with_more bytes s.client.exchanges } })
          (sym (more-replies bytes s.client.exchanges) ∙ ap (λ xs. xs ++ bytes) h ∙ sym (ap (λ (c : Bool). if c && true then b.sent place.Client ++ bytes else b.sent place.Client) e))
      by false e = f b s h

  begin-timer-fair : (t : timer.Timer) (m : Move J (Both R)) → Fair m → Fair (begin_timer site now t m)
  begin-timer-fair t m f b s h = f _ s h

  end-timer-fair : (t : timer.Timer) (m : Move J (Both R)) → Fair m → Fair (end_timer site now t m)
  end-timer-fair t m f b s h = by (has_number (timer.number_of t) (numbers b.armed))
    where
      by : (c : Bool) → Accounts (perform (if c then Cancel (timer.number_of t) m else m) b s).state
      by true = f (without_deadline (timer.number_of t) b) s h
      by false = f b s h

  let-send-fair : (c : Client) (r : Reply) (m : Move J (Both R)) → Fair m → Fair (let_send site now c r m)
  let-send-fair c Begun m f b s h = f b s h
  let-send-fair c (Whole closes) m f b s h = f b s h
  let-send-fair c Unsent m f b s h = by c.waited
    where
      asked : (x : Bool) (s : Both R) → Accounts (state b s) → Accounts (perform (if x then send site now continue_reply m else m) b s).state
      asked true s h = send-fair continue_reply m f b s h
      asked false s h = f b s h

      by : (w : Bool) → Accounts (perform (if w then m else change (λ c. record c { waited = true }) (if c.expects then send site now continue_reply m else m)) b s).state
      by true = f b s h
      by false = asked c.expects (record s { client = record s.client { waited = true } }) h

  wait-more-fair : (c : Client) (m : Move J (Both R)) → Fair m → Fair (wait_more site now c m)
  wait-more-fair c m f = let-send-fair c c.reply (begin_timer site now timer.Body m) (begin-timer-fair timer.Body m f)

  await-fair : (m : Move J (Both R)) → Fair m → Fair (await_body site now m)
  await-fair m f b s h = by ((waits_of site now s).body && may_come site now b s.client)
    where
      by : (c : Bool) → Accounts (perform (if c then wait_more site now s.client m else m) b s).state
      by true = wait-more-fair s.client m f b s h
      by false = f b s h

  says-fair : (w : Said) (m : Move J (Both R)) → Fair m → Fair (says site now w m)
  says-fair (said.Send bytes) m f b s h = send-fair bytes m f b (record s { client = record s.client { reply = stage.begun s.client.reply } }) h
  says-fair said.WantsNoBody m f b s h = end-timer-fair timer.Body m f b s h
  says-fair (said.Times times) m f b s h = f b (record s { client = stage.with_times times s.client }) h
  says-fair (said.Ended closes) m f b s h = f b (record s { client = record s.client { reply = Whole closes } }) h
  says-fair said.Over m f b s h =
      end-timer-fair timer.Body (change (λ c. record c { stage = stage.Flush }) m) (λ c t k. f c (record t { client = record t.client { stage = stage.Flush } }) k) b s h

  -- deeds leave the account right: only words send to the client
  lifted-fair : (ds : List Deed) (m : Move J (Both R)) → Fair m → Fair (lifted (says site now) ds m)
  lifted-fair [] m f b s h = f b s h
  lifted-fair (Say w ∷ ds) m f b s h = says-fair w (lifted (says site now) ds m) (lifted-fair ds m f) b s h
  lifted-fair (deed.Ready k ∷ ds) m f b s h = lifted-fair ds m f (with_thread k b) s h
  lifted-fair (deed.Unready k ∷ ds) m f b s h = lifted-fair ds m f (without_thread k b) s h
  lifted-fair (deed.Send k bytes ∷ ds) m f b s h =
      lifted-fair ds m f (with_offer (place.Sock k) (with_sent (place.Sock k) bytes b)) s (h ∙ not-client (has (place.Sock k) b.opened) (b.sent place.Client) bytes)
  lifted-fair (deed.Arm k at ∷ ds) m f b s h = lifted-fair ds m f (with_deadline (suc (suc k)) at b) s h
  lifted-fair (deed.Cancel k ∷ ds) m f b s h = lifted-fair ds m f (without_deadline (suc (suc k)) b) s h
  lifted-fair (deed.HangUp k ∷ ds) m f b s h = lifted-fair ds m f (hung_up (place.Sock k) b) s h
  lifted-fair (deed.Log line ∷ ds) m f b s h = lifted-fair ds m f b s h

  asks-fair : (a : Asks J) (m : Move J (Both R)) → Fair m → Fair (asks_then site now a m)
  asks-fair deed.Nothing m f b s h = f b s h
  asks-fair (deed.Within q) m f b s h = f b s h
  asks-fair (deed.Outside x) m f b s h = by (is_some (asked_of x b))
    where
      by : (c : Bool) → Accounts (perform (if c then Ask x else m) b s).state
      by true = h
      by false = f b s h

  turn-fair : (t : Turn J R) (m : Move J (Both R)) → Fair m → Fair (run_turn site now t m)
  turn-fair t m f b s h = lifted-fair t.does (asks_then site now t.asks m) (asks-fair t.asks m f) b (record s { run = t.run }) h

  tell-fair : (x : RunSeen) (m : Move J (Both R)) → Fair m → Fair (tell site now x m)
  tell-fair x m f b s h = turn-fair (site.runs.turn now x b s.run) m f b s h

  lose-fair : Fair (lose site now)
  lose-fair b s h = by s.client.stage
    where
      gone : (c : Bool) → Fair (if c then tell site now seen.ClientGone Done else Done)
      gone true = tell-fair seen.ClientGone Done done-fair
      gone false = done-fair

      by : (st : Stage) → Accounts (perform (lose_at site now st s) b s).state
      by stage.Busy =
          let told = if (site.runs.waits s.run).client then tell site now seen.ClientGone Done else Done in
          end-timer-fair timer.Body (end_timer site now timer.Send told) (end-timer-fair timer.Send told (gone (site.runs.waits s.run).client)) (hung_up place.Client b) s h
      by stage.Idle = h
      by stage.Head = h
      by stage.Flush = h
      by stage.Drop = h
      by stage.Over = h

  closing-fair : Fair (close_if_taken site now)
  closing-fair b s h = by (is_all_taken b)
    where
      by : (c : Bool) → Accounts (perform (if c then finish else Done) b s).state
      by true = h
      by false = h

  refuse-fair : (at : At) (code : ℕ) → Fair (refuse site now at code)
  refuse-fair (line.Over status) code b s h =
      send-fair (site.refusal code now) (close_if_taken site now) closing-fair b (record s { client = stage.with_refusal code site.default_times s.client })
      (append-nil (replies_of s.client.exchanges) ∙ h)
  refuse-fair line.Head code b s h = h
  refuse-fair (line.Present body kind skips) code b s h = h
  refuse-fair (line.Dropping far) code b s h = h

  wait-fair : (w : Held) → Fair (wait_for site now w)
  wait-fair held.Body b s h = h
  wait-fair held.Nothing b s h = h
  wait-fair held.Begun b s h = h
  wait-fair held.Request b s h = h

  heard-fair : (anew : Bool) (rest : Move J (Both R)) (ended : Bool) (f : Fed) → Fair rest → Fair (heard site now anew rest ended f)
  heard-fair anew rest ended f fair b s h = by f.answer
    where
      t : Both R
      t = record s { client = record s.client { came = f.after } }

      more : (c d : Bool) → Accounts (perform (if c then finish else (if d then wait_for site now (held_in f.after.at f.after.held) else Done)) b t).state
      more true d = h
      more false true = wait-fair (held_in f.after.at f.after.held) b t h
      more false false = h

      by : (answer : LineOut) → Accounts (perform (heard_by site now anew rest f.after ended answer) b t).state
      by (out.Request head target) = end-timer-fair timer.Header (begin site now rest head target)
          (λ c u k. turn-fair (site.runs.begun now head target c) rest fair c
          (record { client = stage.with_request head target (site.times_of head target) u.client; run = site.runs.unborn }) (append-nil (replies_of u.client.exchanges) ∙ k)) b t h
      by (out.Refused code) = end-timer-fair timer.Header (refuse site now f.after.at code) (refuse-fair f.after.at code) b t h
      by out.Waiting = more ended anew
      by out.Memory = more ended anew

  told-fair : (again : Move J (Both R)) (o : Option RunSeen) → Fair again → Fair (tell_body site now again o)
  told-fair again None f b s h = h
  told-fair again (Some x) f b s h = end-timer-fair timer.Body (tell site now x again) (tell-fair x again f) b s h

  answer-fair : (again : Move J (Both R)) (o : Option RunSeen) → Fair again → Fair (answer_body site now again o)
  answer-fair again None f b s h = wait-more-fair s.client (tell site now seen.NotYet again) (tell-fair seen.NotYet again f) b s h
  answer-fair again (Some x) f b s h = end-timer-fair timer.Body (tell site now x again) (tell-fair x again f) b s h

  waiting-fair : (again : Move J (Both R)) (b : Ledger J) (s : Both R) → Fair again → Accounts (state b s) → Accounts (perform (waiting site now again b s) b s).state
  waiting-fair again b s f h = first (is_all_taken b && (site.runs.waits s.run).taken) (is_to_close b s.client) (site.runs.waits s.run).body
    where
      first : (x y z : Bool) → Accounts (perform (if x then tell site now seen.AllTaken again else (if y then lose site now else (if z then ask_body site now again b s.client else Done))) b s).state
      first true y z = tell-fair seen.AllTaken again f b s h
      first false true z = lose-fair b s h
      first false false true = told-fair again _ f b (record s { client = record s.client { came = after_asked s.client.came s.client.limit } }) h
      first false false false = h

  busy-fair : (again : Move J (Both R)) (b : Ledger J) (s : Both R) → Fair again → Accounts (state b s) → Accounts (perform (busy site now again b s) b s).state
  busy-fair again b s f h = by (site.runs.waits s.run).asks
    where
      by : (q : Option Asking) → Accounts (perform (busy_at site now q again b s) b s).state
      by None = waiting-fair again b s f h
      by (Some asking.AllTaken) = tell-fair (taken_answer site now b) again f b s h
      by (Some (asking.Body max)) = answer-fair again _ f b (record s { client = record s.client { limit = max; came = after_asked s.client.came max } }) h

  flush-fair : (rest : Move J (Both R)) (b : Ledger J) (s : Both R) → Fair rest → Accounts (state b s) → Accounts (perform (flush site now rest b s.client) b s).state
  flush-fair rest b s f h = by (not (is_all_taken b)) _
    where
      by : (c d : Bool) → Accounts (perform (if c then Done else (if d then finish else heard site now true rest s.client.ended (fed (done s.client.came) []))) b s).state
      by true d = h
      by false true = h
      by false false = heard-fair true rest s.client.ended (fed (done s.client.came) []) f b s h

  settled-fair : (st : Stage) (again rest : Move J (Both R)) (b : Ledger J) (s : Both R) → Fair again → Fair rest → Accounts (state b s) → Accounts (perform (settled_at site now st again rest b s) b s).state
  settled-fair stage.Busy again rest b s f g h = busy-fair again b s f h
  settled-fair stage.Flush again rest b s f g h = flush-fair rest b s g h
  settled-fair stage.Idle again rest b s f g h = h
  settled-fair stage.Head again rest b s f g h = h
  settled-fair stage.Drop again rest b s f g h = h
  settled-fair stage.Over again rest b s f g h = h

  tells-fair : (rest : Move J (Both R)) (n : ℕ) → Fair rest → Fair (tells site now rest n)
  tells-fair rest zero g b s h = settled-fair s.client.stage Done rest b s done-fair g h
  tells-fair rest (suc n) g b s h = settled-fair s.client.stage (tells site now rest n) rest b s (tells-fair rest n g) g h

  settle-for-fair : (n : ℕ) → Fair (settle_for site now n)
  settle-for-fair zero b s h = h
  settle-for-fair (suc n) b s h = tells-fair (settle_for site now n) (site.runs.tells_left s.run) (settle-for-fair n) b s h

  settle-fair : Fair (settle site now)
  settle-fair b s h = settle-for-fair (suc (length s.client.came.held)) b s h

  came-fair : (st : Stage) (f : Fed) (b : Ledger J) (s : Both R) → Accounts (state b s) → Accounts (perform (came_at site now st f s) b s).state
  came-fair stage.Busy f b s h = await-fair (settle site now) settle-fair b (record s { client = record s.client { came = f.after } }) h
  came-fair stage.Head f b s h = heard-fair false (settle site now) s.client.ended f settle-fair b s h
  came-fair stage.Idle f b s h = heard-fair true (settle site now) s.client.ended f settle-fair b s h
  came-fair stage.Drop f b s h = heard-fair true (settle site now) s.client.ended f settle-fair b s h
  came-fair stage.Flush f b s h = h
  came-fair stage.Over f b s h = h

  ends-fair : (st : Stage) (b : Ledger J) (s : Both R) → Accounts (state b s) → Accounts (perform (ends_at site now st s) b s).state
  ends-fair stage.Busy b s h = by (site.runs.waits s.run).client
    where
      t : Both R
      t = record s { client = record s.client { ended = true } }

      by : (c : Bool) → Accounts (perform (if c then tell site now seen.ClientEnded (settle site now) else settle site now) b t).state
      by true = tell-fair seen.ClientEnded (settle site now) settle-fair b t h
      by false = settle-fair b t h
  ends-fair stage.Flush b s h = h
  ends-fair stage.Idle b s h = h
  ends-fair stage.Head b s h = h
  ends-fair stage.Drop b s h = h
  ends-fair stage.Over b s h = h

  to-run-fair : (m : Move J (Both R)) (st : Stage) (x : RunSeen) → Fair m → Fair (to_run site now m st x)
  to-run-fair m stage.Busy x f b s h = tell-fair x m f b s h
  to-run-fair m stage.Flush x f b s h = h
  to-run-fair m stage.Idle x f b s h = h
  to-run-fair m stage.Head x f b s h = h
  to-run-fair m stage.Drop x f b s h = h
  to-run-fair m stage.Over x f b s h = h

  answered-fair : (st : Stage) (x : Action J) (b : Ledger J) (s : Both R) → Accounts (state b s) → Accounts (perform (turns.answered site now st x b s) b s).state
  answered-fair stage.Busy x b s h = turn-fair (site.runs.answered now x b s.run) (settle site now) settle-fair b s h
  answered-fair stage.Flush x b s h = h
  answered-fair stage.Idle x b s h = h
  answered-fair stage.Head x b s h = h
  answered-fair stage.Drop x b s h = h
  answered-fair stage.Over x b s h = h

  due-fair : (st : Stage) (n : ℕ) → Fair (is_due site now st n)
  due-fair st zero = lose-fair
  due-fair st (suc zero) = lose-fair
  due-fair st (suc (suc n)) = to-run-fair Done st (seen.Due (suc (suc n))) done-fair

  step-fair : (a : LocalAction J) (st : State J (Both R)) → Accounts st → Accounts (stepped (connection_plan site) now a st).state
  step-fair (Did (Began begun (start.Client c))) st h = h
  step-fair (Did (Began begun (start.Job n premature job))) st h =
      let b = entered (Did (Began begun (start.Job n premature job))) st.ledger in
      turn-fair (site.runs.begun_job now premature job b) Done done-fair b (record st.inner { client = record st.inner.client { stage = stage.Busy } }) h
  step-fair (Did (Bytes place.Client bytes)) st h = came-fair st.inner.client.stage (fed st.inner.client.came bytes) _ st.inner h
  step-fair (Did (Ended place.Client)) st h = ends-fair st.inner.client.stage (entered (Did (Ended place.Client)) st.ledger) st.inner h
  step-fair (Did (Broken place.Client)) st h = lose-fair (entered (Did (Broken place.Client)) st.ledger) st.inner h
  step-fair (Did (Ready place.Client)) st h = end-timer-fair timer.Send (Send place.Client [] Done)
      (λ b s k. k ∙ none-more (is_there b) (b.sent place.Client)) (entered (Did (Ready place.Client)) st.ledger) st.inner h
  step-fair (Did (Put place.Client bytes)) st h = settle-fair (entered (Did (Put place.Client bytes)) st.ledger) st.inner h
  step-fair (Did (Later place.Client)) st h = h
  step-fair (Did (Lost place.Client)) st h = lose-fair (entered (Did (Lost place.Client)) st.ledger) st.inner h
  step-fair (Did (Bytes (place.Sock k) bytes)) st h = to-run-fair (settle site now) st.inner.client.stage _ settle-fair (entered (Did (Bytes (place.Sock k) bytes)) st.ledger) st.inner h
  step-fair (Did (Ended (place.Sock k))) st h = to-run-fair (settle site now) st.inner.client.stage _ settle-fair (entered (Did (Ended (place.Sock k))) st.ledger) st.inner h
  step-fair (Did (Broken (place.Sock k))) st h = to-run-fair (settle site now) st.inner.client.stage _ settle-fair (entered (Did (Broken (place.Sock k))) st.ledger) st.inner h
  step-fair (Did (Ready (place.Sock k))) st h = to-run-fair (settle site now) st.inner.client.stage _ settle-fair (entered (Did (Ready (place.Sock k))) st.ledger) st.inner h
  step-fair (Did (Put (place.Sock k) bytes)) st h = to-run-fair (settle site now) st.inner.client.stage _ settle-fair (entered (Did (Put (place.Sock k) bytes)) st.ledger) st.inner h
  step-fair (Did (Later (place.Sock k))) st h = to-run-fair (settle site now) st.inner.client.stage _ settle-fair (entered (Did (Later (place.Sock k))) st.ledger) st.inner h
  step-fair (Did (Lost (place.Sock k))) st h = to-run-fair (settle site now) st.inner.client.stage _ settle-fair (entered (Did (Lost (place.Sock k))) st.ledger) st.inner h
  step-fair (Did (Dialled k)) st h = to-run-fair (settle site now) st.inner.client.stage _ settle-fair (entered (Did (Dialled k)) st.ledger) st.inner h
  step-fair (Did (Refused k)) st h = to-run-fair (settle site now) st.inner.client.stage _ settle-fair (entered (Did (Refused k)) st.ledger) st.inner h
  step-fair (Did (Dict zone call given)) st h = answered-fair st.inner.client.stage (Dict zone call given) _ st.inner h
  step-fair (Did (Take key uses)) st h = answered-fair st.inner.client.stage (Take key uses) _ st.inner h
  step-fair (Did (Dial host port done)) st h = answered-fair st.inner.client.stage (Dial host port done) _ st.inner h
  step-fair (Did (Keep k key idle size)) st h = answered-fair st.inner.client.stage (Keep k key idle size) _ st.inner h
  step-fair (Did (Timer at given)) st h = answered-fair st.inner.client.stage (Timer at given) _ st.inner h
  step-fair (Did (Run k)) st h = to-run-fair (settle site now) st.inner.client.stage (seen.Run k) settle-fair (entered (Did (Run k)) st.ledger) st.inner h
  step-fair (Did (Due n)) st h = due-fair st.inner.client.stage n (entered (Did (Due n)) st.ledger) st.inner h
  step-fair (Did Halted) st h = h
  step-fair (Told w) st h = h
  step-fair (Did (Close q)) st h = h
  step-fair (Did (Log line done)) st h = h
  step-fair (Did (Offer q)) st h = h
  step-fair (Did Gone) st h = h
  step-fair (Did Dropped) st h = h

pub accounts : {J R : Type 0} (site : Service J R) (es : List (LocalAction J)) → Accounts (state_of (connection_plan site) es)
accounts site [] = refl
accounts site (a ∷ es) = step-fair site (moment (a ∷ es)) a (state_of (connection_plan site) es) (accounts site es)
