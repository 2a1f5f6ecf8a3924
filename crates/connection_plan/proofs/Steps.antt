-- What the connection's own moves, and what a run says, lead to: ledgers that are alike, and the same run.
use Rattle.std.proofs.Common.{◌≡◌, ℕ, nat_lt, ◌&&◌, Bool, true, false, List, [], ◌∷◌, if◌then◌else◌, refl, sym, ap, ◌∙◌, append-nil}
use Rattle.resty_base.specs.declared.names.Ms.{Ms}
use Rattle.strand_contract.specs.declared.turns.Place.{Place}
use Rattle.strand_plans.proofs.Places.{has-append}
use Rattle.strand_contract.specs.declared.turns.Place.TheVariants as place
use Rattle.strand_plans.specs.Ledgers.{Ledger, has, has_number, numbers, wants_offer}
use Rattle.strand_plans.specs.Moves.{Move, Cancel, State, added_if, with_sent, with_offer, with_deadline, without_deadline, perform}
use Rattle.strand_plans.specs.Moves as move
use Rattle.client_line.specs.Records.{Came}
use Rattle.run_contract.specs.declared.turns.Said.{Said}
use Rattle.run_contract.specs.declared.turns.Said.TheVariants as said
use Rattle.run_contract.specs.Deeds as deeds
use Rattle.run_contract.specs.Deeds.{Deed, Ready, Unready, Arm, HangUp, Send, Log, Say, Turn, ledger_by, ledger_after}
use Rattle.connection_plan.specs.Clients.{Stage, Reply, Client, Unsent, Begun, Whole, with_more, with_times, begun}
use Rattle.connection_plan.specs.Clients as stage
use Rattle.connection_plan.specs.Services.{Service, Both}
use Rattle.connection_plan.specs.Timers.{Timer, number_of, time_of, later}
use Rattle.connection_plan.specs.Timers as timer
use Rattle.connection_plan.specs.Lifts.{lifted}
use Rattle.connection_plan.specs.Turns.{is_there, change, send, begin_timer, end_timer, continue_reply, let_send, may_come, wait_more, waits_of, await_body, says, asks_then, run_turn}
use Rattle.connection_plan.proofs.Alike.{sent-alike, armed-alike, cancelled-alike}
use Rattle.connection_plan.proofs.Lifted.{SameRun, same-run-refl, same-run-trans, deed-same}

pub own-number : (t : Timer) → nat_lt (number_of t) 2 ≡ true
own-number timer.Header = refl
own-number timer.Keepalive = refl
own-number timer.Body = refl
own-number timer.Send = refl

-- the stage after a word, and after deeds
abbrev pub stage_word : Said → Stage → Stage
stage_word said.Over st = stage.Flush
stage_word w st = st

abbrev pub stage_did : List Deed → Stage → Stage
stage_did [] st = st
stage_did (Say w ∷ ds) st = stage_did ds (stage_word w st)
stage_did (d ∷ ds) st = stage_did ds st

-- a word changes no socket's offer
pub armed-same : {J : Type 0} (n : ℕ) (at : Ms) (b : Ledger J) → nat_lt n 2 ≡ true → SameRun b (with_deadline n at b)
armed-same n at b h = record { alike = armed-alike n at b h; places = λ k. refl; begun = λ k. refl }

pub cancelled-same : {J : Type 0} (n : ℕ) (b : Ledger J) → nat_lt n 2 ≡ true → SameRun b (without_deadline n b)
cancelled-same n b h = record { alike = cancelled-alike n b h; places = λ k. refl; begun = λ k. refl }

not-offered : (c : Bool) (k : ℕ) (qs : List Place) → has (place.Sock k) qs ≡ has (place.Sock k) (added_if c place.Client qs)
not-offered true k qs = sym (has-append (place.Sock k) place.Client qs)
not-offered false k qs = ap (has (place.Sock k)) (sym (append-nil qs))

pub sent-to-client-same : {J : Type 0} (bytes : List ℕ) (b : Ledger J) → SameRun b (with_offer place.Client (with_sent place.Client bytes b))
sent-to-client-same bytes b = record {
  alike = sent-alike bytes b;
  places = λ k. not-offered (wants_offer place.Client (with_sent place.Client bytes b)) k b.places;
  begun = λ k. refl;
}

module _ {J R : Type 0} where
  -- a ledger that is alike, the same run, and this stage
  pub record Follows (b : Ledger J) (s : Both R) (st : Stage) (c : Ledger J) (t : Both R) : Type 0 where
    pub same : SameRun b c
    pub run : t.run ≡ s.run
    pub stage : t.client.stage ≡ st
    pub came : t.client.came ≡ s.client.came

  -- from each of these the moves lead there
  abbrev pub Leads : (State J (Both R) → Type 0) → Move J (Both R) → Ledger J → Both R → Stage → Type 0
  Leads P m b s st = (c : Ledger J) (t : Both R) → Follows b s st c t → P (perform m c t).state

  abbrev pub same : (b : Ledger J) (s : Both R) → Follows b s s.client.stage b s
  same b s = record { same = same-run-refl b; run = refl; stage = refl; came = refl }

  pub after : (b c d : Ledger J) (s t u : Both R) (st : Stage) → Follows b s s.client.stage c t → Follows c t t.client.stage d u → t.client.stage ≡ st → Follows b s st d u
  after b c d s t u st x y e = record { same = same-run-trans b c d x.same y.same; run = y.run ∙ x.run; stage = y.stage ∙ e; came = y.came ∙ x.came }

module _ {J R : Type 0} (site : Service J R) (now : ℕ) (P : State J (Both R) → Type 0) where
  pub begins-leads : (t : Timer) (m : Move J (Both R)) (b : Ledger J) (s : Both R) → Leads P m b s s.client.stage → P (perform (begin_timer site now t m) b s).state
  begins-leads t m b s f =
      let at = later now (time_of site.default_times s.client.times t) in
      f (with_deadline (number_of t) at b) s (record { same = armed-same (number_of t) at b (own-number t); run = refl; stage = refl; came = refl })

  pub ends-leads : (t : Timer) (m : Move J (Both R)) (b : Ledger J) (s : Both R) → Leads P m b s s.client.stage → P (perform (end_timer site now t m) b s).state
  ends-leads t m b s f = by (has_number (number_of t) (numbers b.armed))
    where
      by : (c : Bool) → P (perform (if c then Cancel (number_of t) m else m) b s).state
      by true = f (without_deadline (number_of t) b) s (record { same = cancelled-same (number_of t) b (own-number t); run = refl; stage = refl; came = refl })
      by false = f b s (same b s)

  pub sends-leads : (bytes : List ℕ) (m : Move J (Both R)) (b : Ledger J) (s : Both R) → Leads P m b s s.client.stage → P (perform (move.Send place.Client bytes m) b s).state
  sends-leads bytes m b s f = f (with_offer place.Client (with_sent place.Client bytes b)) s (record { same = sent-to-client-same bytes b; run = refl; stage = refl; came = refl })

  pub speaks-leads : (bytes : List ℕ) (m : Move J (Both R)) (b : Ledger J) (s : Both R) → Leads P m b s s.client.stage → P (perform (send site now bytes m) b s).state
  speaks-leads bytes m b s f = by (is_there b)
    where
      by : (c : Bool) → P (perform (if c then change (λ c. record c { exchanges = with_more bytes c.exchanges }) (move.Send place.Client bytes m) else m) b s).state
      by true = f (with_offer place.Client (with_sent place.Client bytes b)) (record s { client = record s.client { exchanges = with_more bytes s.client.exchanges } })
          (record { same = sent-to-client-same bytes b; run = refl; stage = refl; came = refl })
      by false = f b s (same b s)

  pub continues-leads : (m : Move J (Both R)) (b : Ledger J) (s : Both R) (c : Client) (r : Reply) → Leads P m b s s.client.stage → P (perform (let_send site now c r m) b s).state
  continues-leads m b s c Begun f = f b s (same b s)
  continues-leads m b s c (Whole closes) f = f b s (same b s)
  continues-leads m b s c Unsent f = by c.waited
    where
      waiting : Both R
      waiting = record s { client = record s.client { waited = true } }

      asked : (x : Bool) → P (perform (if x then send site now continue_reply m else m) b waiting).state
      asked true = speaks-leads continue_reply m b waiting (λ c t x. f c t (record { same = x.same; run = x.run; stage = x.stage; came = x.came }))
      asked false = f b waiting (record { same = same-run-refl b; run = refl; stage = refl; came = refl })

      by : (w : Bool) → P (perform (if w then m else change (λ c. record c { waited = true }) (if c.expects then send site now continue_reply m else m)) b s).state
      by true = f b s (same b s)
      by false = asked c.expects

  pub waits-leads : (m : Move J (Both R)) (b : Ledger J) (s : Both R) (c : Client) → Leads P m b s s.client.stage → P (perform (wait_more site now c m) b s).state
  waits-leads m b s c f = continues-leads (begin_timer site now timer.Body m) b s c c.reply
      (λ d t x. begins-leads timer.Body m d t (λ e u y. f e u (after b d e s t u s.client.stage x y x.stage)))

  pub awaits-leads : (m : Move J (Both R)) (b : Ledger J) (s : Both R) → Leads P m b s s.client.stage → P (perform (await_body site now m) b s).state
  awaits-leads m b s f = by ((waits_of site now s).body && may_come site now b s.client)
    where
      by : (c : Bool) → P (perform (if c then wait_more site now s.client m else m) b s).state
      by true = waits-leads m b s s.client f
      by false = f b s (same b s)

  -- one word
  pub says-leads : (w : Said) (m : Move J (Both R)) (b : Ledger J) (s : Both R) → Leads P m b s (stage_word w s.client.stage) → P (perform (says site now w m) b s).state
  says-leads (said.Send bytes) m b s f =
      speaks-leads bytes m b (record s { client = record s.client { reply = begun s.client.reply } }) (λ c t x. f c t (record { same = x.same; run = x.run; stage = x.stage; came = x.came }))
  says-leads said.WantsNoBody m b s f = ends-leads timer.Body m b s f
  says-leads (said.Times times) m b s f = f b (record s { client = with_times times s.client }) (record { same = same-run-refl b; run = refl; stage = refl; came = refl })
  says-leads (said.Ended closes) m b s f = f b (record s { client = record s.client { reply = Whole closes } }) (record { same = same-run-refl b; run = refl; stage = refl; came = refl })
  says-leads said.Over m b s f =
      ends-leads timer.Body (change (λ c. record c { stage = stage.Flush }) m) b s
      (λ c t x. f c (record t { client = record t.client { stage = stage.Flush } }) (record { same = x.same; run = x.run; stage = refl; came = x.came }))

  -- deeds done in a ledger that is the same to the run lead to one that is the same as that after them; the run beside it stays
  pub deeds-lead : (ds : List Deed) (m : Move J (Both R)) (b c : Ledger J) (s : Both R) (r : R) (st : Stage) (z : Came) → SameRun b c → s.run ≡ r → s.client.stage ≡ st → s.client.came ≡ z
      → ((d : Ledger J) (t : Both R) → SameRun (ledger_after ds b) d → t.run ≡ r → t.client.stage ≡ stage_did ds st → t.client.came ≡ z → P (perform m d t).state)
      → P (perform (lifted (says site now) ds m) c s).state
  deeds-lead [] m b c s r st z x e h i f = f c s x e h i
  deeds-lead (Say w ∷ ds) m b c s r st z x e h i f =
      says-leads w (lifted (says site now) ds m) c s
      (λ d t y. deeds-lead ds m b d t r (stage_word w st) z (same-run-trans b c d x y.same) (y.run ∙ e) (y.stage ∙ ap (stage_word w) h) (y.came ∙ i) f)
  deeds-lead (Ready k ∷ ds) m b c s r st z x e h i f = deeds-lead ds m (ledger_by (Ready k) b) (ledger_by (Ready k) c) s r st z (deed-same (Ready k) b c x) e h i f
  deeds-lead (Unready k ∷ ds) m b c s r st z x e h i f = deeds-lead ds m (ledger_by (Unready k) b) (ledger_by (Unready k) c) s r st z (deed-same (Unready k) b c x) e h i f
  deeds-lead (Arm k at ∷ ds) m b c s r st z x e h i f = deeds-lead ds m (ledger_by (Arm k at) b) (ledger_by (Arm k at) c) s r st z (deed-same (Arm k at) b c x) e h i f
  deeds-lead (deeds.Cancel k ∷ ds) m b c s r st z x e h i f = deeds-lead ds m (ledger_by (deeds.Cancel k) b) (ledger_by (deeds.Cancel k) c) s r st z (deed-same (deeds.Cancel k) b c x) e h i f
  deeds-lead (HangUp k ∷ ds) m b c s r st z x e h i f = deeds-lead ds m (ledger_by (HangUp k) b) (ledger_by (HangUp k) c) s r st z (deed-same (HangUp k) b c x) e h i f
  deeds-lead (Send k bytes ∷ ds) m b c s r st z x e h i f = deeds-lead ds m (ledger_by (Send k bytes) b) (ledger_by (Send k bytes) c) s r st z (deed-same (Send k bytes) b c x) e h i f
  deeds-lead (Log line ∷ ds) m b c s r st z x e h i f = deeds-lead ds m b c s r st z x e h i f

  -- a whole turn: its deeds, then its question or what comes after
  pub turn-leads : (t : Turn J R) (m : Move J (Both R)) (b : Ledger J) (s : Both R)
      → ((d : Ledger J) (u : Both R) → SameRun (ledger_after t.does b) d → u.run ≡ t.run → u.client.stage ≡ stage_did t.does s.client.stage → u.client.came ≡ s.client.came → P (perform (asks_then site now t.asks m) d u).state)
      → P (perform (run_turn site now t m) b s).state
  turn-leads t m b s f =
      let with_run : Both R = record s { run = t.run } in
      deeds-lead t.does (asks_then site now t.asks m) b b with_run t.run s.client.stage s.client.came (same-run-refl b) refl refl refl f
