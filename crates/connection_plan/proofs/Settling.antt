-- Settling goes on however often its definition lets it: a run that is told of its client can be told so less often, and each request takes bytes.
use Rattle.std.proofs.Common.{◌≡◌, ℕ, zero, suc, ◌<◌, ◌≤◌, Bool, true, false, ◌&&◌, ◌||◌, List, [], length, Option, Some, None, if◌then◌else◌, refl, sym, ap, ◌∙◌, subst, arith, length-drop}
use Rattle.std.specs.Prelude.{not, is_some}
use Rattle.uri_args.specs.declared.targets.Target.{Target}
use Rattle.http_in.specs.declared.heads.Head.{Head}
use Rattle.http_bodies.specs.declared.bodies.BodyRead.{BodyRead}
use Rattle.http_bodies.specs.declared.bodies.BodyRead.TheVariants as body
use Rattle.client_line.specs.declared.requests.LineOut.{LineOut}
use Rattle.client_line.specs.declared.requests.LineOut.TheVariants as out
use Rattle.client_line.specs.Records.{At, Came}
use Rattle.client_line.specs.Records as line
use Rattle.client_line.specs.Lines.{came_at, after_asked, body_answer, body_so_far, taken_count, done}
use Rattle.client_line.specs.Feeding.{Fed, fed}
use Rattle.strand_plans.specs.Questions.{Question}
use Rattle.strand_plans.specs.Ledgers.{Ledger, has_number, numbers}
use Rattle.strand_plans.specs.Moves.{Move, Done, Cancel, Ask, Performed, asked_of, after_act, without_deadline, perform}
use Rattle.strand_contract.specs.declared.turns.Act.TheVariants as act
use Rattle.run_contract.specs.declared.turns.RunSeen.{RunSeen}
use Rattle.run_contract.specs.declared.turns.RunSeen.TheVariants as seen
use Rattle.run_contract.specs.declared.turns.Asking.{Asking}
use Rattle.run_contract.specs.declared.turns.Asking.TheVariants as asking
use Rattle.run_contract.specs.Deeds.{Turn, Asks, Nothing, Outside, Within}
use Rattle.run_contract.specs.Runs.{Waits, waits_at_first, waits_told, is_of_client}
use Rattle.run_contract.specs.Alike.{AreAlike}
use Rattle.run_contract.specs.Conditions.{IsBlank, IsRun, MayCome, MayHear, Leaves, asks_body, entered_as}
use Rattle.connection_plan.specs.Clients.{Stage, Client, with_request, closes_after}
use Rattle.connection_plan.specs.Clients as stage
use Rattle.connection_plan.specs.Services.{Service, Both}
use Rattle.connection_plan.specs.Timers.{Timer, number_of}
use Rattle.connection_plan.specs.Timers as timer
use Rattle.connection_plan.specs.Turns.{is_there, is_all_taken, asks_then, says, wait_more, answer_body, waiting, busy_at, end_timer, finish, run_turn, tell, lose, begin, heard_by, next, body_told, tell_body, ask_body, is_to_close, busy, flush, settled_at, tells, settle_for, settle}
use Rattle.connection_plan.specs.Conditions.{AgreesWithin}
use Rattle.connection_plan.proofs.Alike.{alike-refl, blank-alike, cancelled-alike}
use Rattle.connection_plan.specs.Lifts.{lifted}
use Rattle.connection_plan.proofs.Lifted.{same-run-refl}
use Rattle.connection_plan.proofs.Steps.{Follows, own-number, deeds-lead, waits-leads}
use Rattle.connection_plan.proofs.Stays.{Known, IsAfter, IsDone, goes-on, body-answers, body-waits, taken-answers, taken-waits, asks-some}
use Rattle.connection_plan.proofs.Fewer.{next-fewer}
use Rattle.connection_plan.proofs.Prefixes.{before, went, wait_more-precedes, deeds-precede}

-- a body that is asked for adds nothing to what is held
asked-fewer : (at : At) (bytes : List ℕ) (max : ℕ) → length (after_asked (came_at at bytes) max).held ≤ length bytes
asked-fewer line.Head bytes max = omega arith
asked-fewer (line.Present body kind skips) bytes max = omega (arith, length-drop (taken_count (body_so_far body kind max) bytes) bytes)
asked-fewer (line.Dropping far) bytes max = omega arith
asked-fewer (line.Over code) bytes max = omega arith

-- ---- moves that come to the same

module _ {J R : Type 0} (site : Service J R) (now : ℕ) (holds : Ledger J → R → Type 0) (run : IsRun site.runs holds) where
  -- from each state that is known and is so
  abbrev Agree : (Both R → Type 0) → Move J (Both R) → Move J (Both R) → Type 0
  Agree P m n = (b : Ledger J) (s : Both R) → Known site.runs holds b s → P s → perform m b s ≡ perform n b s

  -- how many bytes are held, and how often the run can be told
  abbrev held : Both R → ℕ
  held s = length s.client.came.held

  abbrev left : Both R → ℕ
  left s = site.runs.tells_left s.run

  -- with fewer bytes held than so many; with no more, and a run that can be told less often than so
  abbrev Fewer : ℕ → Both R → Type 0
  Fewer n s = held s < n

  abbrev LessOften : ℕ → ℕ → Both R → Type 0
  LessOften n k s = (held s ≤ n) × (left s < k)

  deeds-lead-so : (t : Turn J R) (b : Ledger J) (s : Both R) → s.client.stage ≡ stage.Busy
      → let d = (went (lifted (says site now) t.does) b (record s { run = t.run })).state in IsDone site now holds run t b s d.ledger d.inner
  deeds-lead-so t b s at = deeds-lead site now (λ st. IsDone site now holds run t b s st.ledger st.inner) t.does Done b b (record s { run = t.run }) t.run stage.Busy s.client.came
      (same-run-refl b) refl at refl (λ d u x r st came. record { same = x; ran = r; stage = st; came = came })

  no-other : (x y : Question J) → Outside x ≡ Outside y → x ≡ y
  no-other x y e = cc

  turn-agrees : (t : Turn J R) (m n : Move J (Both R)) (w : Waits) (b : Ledger J) (s : Both R) → s.client.stage ≡ stage.Busy
      → Leaves site.runs holds w t b → b.asked ≡ None
      → ((c : Ledger J) (u : Both R) → IsAfter site now holds run t s c u → perform m c u ≡ perform n c u)
      → perform (run_turn site now t m) b s ≡ perform (run_turn site now t n) b s
  turn-agrees t m n w b s at leaves none same =
      deeds-precede site now t.does b u (asks_then site now t.asks m) ∙ ap (before d.acts) (by t.asks refl) ∙ sym (deeds-precede site now t.does b u (asks_then site now t.asks n))
    where
      u : Both R
      u = record s { run = t.run }

      d : Performed J (Both R)
      d = went (lifted (says site now) t.does) b u

      asks : (x : Question J) → t.asks ≡ Outside x → (o : Option (Question J)) → asked_of x d.state.ledger ≡ o
          → perform (if is_some o then Ask x else m) d.state.ledger d.state.inner ≡ perform (if is_some o then Ask x else n) d.state.ledger d.state.inner
      asks x e (Some z) o = refl
      asks x e None o = same d.state.ledger d.state.inner (goes-on site now holds run t w b s at leaves none d.state.ledger d.state.inner (deeds-lead-so t b s at) (Outside x) e
          (λ z f. subst (λ (z : Question J). asked_of z d.state.ledger ≡ None) (no-other x z f) o))

      by : (a : Asks J) → t.asks ≡ a → perform (asks_then site now a m) d.state.ledger d.state.inner ≡ perform (asks_then site now a n) d.state.ledger d.state.inner
      by (Outside x) e = asks x e (asked_of x d.state.ledger) refl
      by Nothing e = same d.state.ledger d.state.inner (goes-on site now holds run t w b s at leaves none d.state.ledger d.state.inner (deeds-lead-so t b s at) Nothing e (λ x f. absurd (cc)))
      by (Within q) e = same d.state.ledger d.state.inner (goes-on site now holds run t w b s at leaves none d.state.ledger d.state.inner (deeds-lead-so t b s at) (Within q) e (λ x f. absurd (cc)))

  -- told of its client, in a ledger in which that was entered, it can be told less often
  tell-agrees : (x : RunSeen) (m n : Move J (Both R)) (b : Ledger J) (s : Both R) → s.client.stage ≡ stage.Busy → holds b s.run
      → MayCome site.runs now x b s.run → (entered_as x b).asked ≡ None → is_of_client x ≡ true → Agree (LessOften (held s) (left s)) m n
      → perform (tell site now x m) (entered_as x b) s ≡ perform (tell site now x n) (entered_as x b) s
  tell-agrees x m n b s at h may none of same =
      let c = entered_as x b in
      turn-agrees (site.runs.turn now x c s.run) m n (waits_told x (site.runs.waits s.run)) c s at (run.stays now x b s.run h may) none
      (λ d u r. same d u r.known (fewer u r.came, often u r.ran))
    where
      fewer : (u : Both R) → u.client.came ≡ s.client.came → held u ≤ held s
      fewer u e = subst (λ (c : Came). length c.held ≤ held s) (sym e) (omega arith)

      often : (u : Both R) → u.run ≡ (site.runs.turn now x (entered_as x b) s.run).run → left u < left s
      often u e = subst (λ (r : R). site.runs.tells_left r < left s) (sym e) (run.falls now x b s.run h may of)

  -- after the end of a timer too
  ends-agree : (t : Timer) (m n : Move J (Both R)) (b : Ledger J) (s : Both R) → ((c : Ledger J) → AreAlike b c → perform m c s ≡ perform n c s)
      → perform (end_timer site now t m) b s ≡ perform (end_timer site now t n) b s
  ends-agree t m n b s same = by (has_number (number_of t) (numbers b.armed))
    where
      by : (c : Bool) → perform (if c then Cancel (number_of t) m else m) b s ≡ perform (if c then Cancel (number_of t) n else n) b s
      by true = ap (after_act (act.Cancel (number_of t))) (same (without_deadline (number_of t) b) (cancelled-alike (number_of t) b (own-number t)))
      by false = same b (alike-refl b)

  -- ---- what a run waits for

  -- the body's timer ends, and the run is told
  told-agrees : (x : RunSeen) (m n : Move J (Both R)) (b : Ledger J) (s : Both R) → s.client.stage ≡ stage.Busy → holds b s.run → b.asked ≡ None
      → is_of_client x ≡ true → ((d : Ledger J) → d.asked ≡ None → MayCome site.runs now x d s.run) → ((d : Ledger J) → entered_as x d ≡ d) → Agree (LessOften (held s) (left s)) m n
      → perform (end_timer site now timer.Body (tell site now x m)) b s ≡ perform (end_timer site now timer.Body (tell site now x n)) b s
  told-agrees x m n b s at h none of may enters same = ends-agree timer.Body (tell site now x m) (tell site now x n) b s
      (λ d like. let none : d.asked ≡ None = sym like.asked ∙ none in
      subst (λ (e : Ledger J). perform (tell site now x m) e s ≡ perform (tell site now x n) e s) (enters d)
      (tell-agrees x m n d s at (run.apart b d s.run like h) (may d none) (ap (λ (e : Ledger J). e.asked) (enters d) ∙ none) of same))

  body-agrees : (may : Bool) (c : Client) (a : BodyRead) (m n : Move J (Both R)) (b : Ledger J) (s : Both R) → s.client.stage ≡ stage.Busy → holds b s.run → b.asked ≡ None
      → (site.runs.waits s.run).asks ≡ None → (site.runs.waits s.run).body ≡ true → Agree (LessOften (held s) (left s)) m n
      → perform (tell_body site now m (body_told may c a)) b s ≡ perform (tell_body site now n (body_told may c a)) b s
  body-agrees may c a m n b s at h none answered waits same = by a
    where
      hears : MayHear (asks_body (site.runs.waits s.run).asks) (site.runs.waits s.run).body (site.runs.waits s.run).asks
      hears = body-waits site now holds run (site.runs.waits s.run).asks (site.runs.waits s.run).body answered waits

      refused : (code : ℕ) → perform (end_timer site now timer.Body (tell site now (seen.BodyRefused code) m)) b s ≡ perform (end_timer site now timer.Body (tell site now (seen.BodyRefused code) n)) b s
      refused code = told-agrees (seen.BodyRefused code) m n b s at h none refl (λ d e. (e, hears)) (λ d. refl) same

      waiting_so : (c : Bool) → let o : Option RunSeen = if c then None else Some (seen.BodyRefused 400) in perform (tell_body site now m o) b s ≡ perform (tell_body site now n o) b s
      waiting_so true = refl
      waiting_so false = refused 400

      by : (a : BodyRead) → perform (tell_body site now m (body_told may c a)) b s ≡ perform (tell_body site now n (body_told may c a)) b s
      by (body.Whole k) = told-agrees _ m n b s at h none refl (λ d e. (e, hears)) (λ d. refl) same
      by (body.Refused code) = refused code
      by body.More = waiting_so may
      by body.Memory = waiting_so may

  -- more of the body is waited for, and the run is told so
  not-yet-agrees : (max : ℕ) (m n : Move J (Both R)) (b : Ledger J) (s : Both R) → s.client.stage ≡ stage.Busy → holds b s.run → b.asked ≡ None
      → (site.runs.waits s.run).asks ≡ Some (asking.Body max) → Agree (LessOften (held s) (left s)) m n
      → perform (wait_more site now s.client (tell site now seen.NotYet m)) b s ≡ perform (wait_more site now s.client (tell site now seen.NotYet n)) b s
  not-yet-agrees max m n b s at h none asks same =
      wait_more-precedes site now s.client b s (tell site now seen.NotYet m) ∙ ap (before d.acts) (by d.state.ledger d.state.inner follows) ∙ sym (wait_more-precedes site now s.client b s (tell site now seen.NotYet n))
    where
      d : Performed J (Both R)
      d = went (wait_more site now s.client) b s

      follows : Follows b s s.client.stage d.state.ledger d.state.inner
      follows = waits-leads site now (λ st. Follows b s s.client.stage st.ledger st.inner) Done b s s.client (λ c t x. x)

      by : (c : Ledger J) (t : Both R) → Follows b s s.client.stage c t → perform (tell site now seen.NotYet m) c t ≡ perform (tell site now seen.NotYet n) c t
      by c t x =
          let k : holds c t.run = subst (λ (r : R). holds c r) (sym x.run) (run.apart b c s.run x.same.alike h) in
          let e : c.asked ≡ None = sym x.same.alike.asked ∙ none in
          let q : (site.runs.waits t.run).asks ≡ Some (asking.Body max) = ap (λ (r : R). (site.runs.waits r).asks) x.run ∙ asks in
          tell-agrees seen.NotYet m n c t (x.stage ∙ at) k (e, asks-some site now holds run (site.runs.waits t.run).asks (asking.Body max) q) e refl
          (λ c2 u known r. same c2 u known (subst (λ (z : Came). held u ≤ length z.held) x.came r.0, subst (λ (r : R). left u < site.runs.tells_left r) x.run r.1))

  answer-agrees : (max : ℕ) (may : Bool) (c : Client) (a : BodyRead) (m n : Move J (Both R)) (b : Ledger J) (s : Both R) → s.client.stage ≡ stage.Busy → holds b s.run → b.asked ≡ None
      → (site.runs.waits s.run).asks ≡ Some (asking.Body max) → Agree (LessOften (held s) (left s)) m n
      → perform (answer_body site now m (body_told may c a)) b s ≡ perform (answer_body site now n (body_told may c a)) b s
  answer-agrees max may c a m n b s at h none asks same = by a
    where
      hears : MayHear (asks_body (site.runs.waits s.run).asks) (site.runs.waits s.run).body (site.runs.waits s.run).asks
      hears = body-answers site now holds run (site.runs.waits s.run).asks (site.runs.waits s.run).body max asks

      refused : (code : ℕ) → perform (end_timer site now timer.Body (tell site now (seen.BodyRefused code) m)) b s ≡ perform (end_timer site now timer.Body (tell site now (seen.BodyRefused code) n)) b s
      refused code = told-agrees (seen.BodyRefused code) m n b s at h none refl (λ d e. (e, hears)) (λ d. refl) same

      waiting_so : (c : Bool) → let o : Option RunSeen = if c then None else Some (seen.BodyRefused 400) in perform (answer_body site now m o) b s ≡ perform (answer_body site now n o) b s
      waiting_so true = not-yet-agrees max m n b s at h none asks same
      waiting_so false = refused 400

      by : (a : BodyRead) → perform (answer_body site now m (body_told may c a)) b s ≡ perform (answer_body site now n (body_told may c a)) b s
      by (body.Whole k) = told-agrees _ m n b s at h none refl (λ d e. (e, hears)) (λ d. refl) same
      by (body.Refused code) = refused code
      by body.More = waiting_so may
      by body.Memory = waiting_so may

  and-right : (a b : Bool) → (a && b) ≡ true → b ≡ true
  and-right true b h = h
  and-right false b h = absurd (let e : false ≡ true = h in cc)

  waiting-agrees : (m n : Move J (Both R)) (b : Ledger J) (s : Both R) → s.client.stage ≡ stage.Busy → Known site.runs holds b s → (site.runs.waits s.run).asks ≡ None → Agree (LessOften (held s) (left s)) m n
      → perform (waiting site now m b s) b s ≡ perform (waiting site now n b s) b s
  waiting-agrees m n b s at h answered same = first (is_all_taken b && (site.runs.waits s.run).taken) refl
    where
      k : holds b s.run
      k = subst (λ (st : Stage). AgreesWithin holds st b s.run) at h.0

      third : (c : Bool) → (site.runs.waits s.run).body ≡ c → perform (if c then ask_body site now m b s.client else Done) b s ≡ perform (if c then ask_body site now n b s.client else Done) b s
      third true e =
          let t = record s { client = record s.client { came = after_asked s.client.came s.client.limit } } in
          body-agrees (is_there b && not s.client.ended) s.client (body_answer s.client.came s.client.limit) m n b t at k h.1 answered e
          (λ c u known r. let fewer = asked-fewer s.client.came.at s.client.came.held s.client.limit in same c u known (omega (arith, r.0, fewer), r.1))
      third false e = refl

      second : (c : Bool) → perform (if c then lose site now else (if (site.runs.waits s.run).body then ask_body site now m b s.client else Done)) b s
          ≡ perform (if c then lose site now else (if (site.runs.waits s.run).body then ask_body site now n b s.client else Done)) b s
      second true = refl
      second false = third (site.runs.waits s.run).body refl

      first : (c : Bool) → (is_all_taken b && (site.runs.waits s.run).taken) ≡ c
          → perform (if c then tell site now seen.AllTaken m else (if is_to_close b s.client then lose site now else (if (site.runs.waits s.run).body then ask_body site now m b s.client else Done))) b s
          ≡ perform (if c then tell site now seen.AllTaken n else (if is_to_close b s.client then lose site now else (if (site.runs.waits s.run).body then ask_body site now n b s.client else Done))) b s
      first true e = tell-agrees seen.AllTaken m n b s at k (h.1, taken-waits site now holds run (site.runs.waits s.run).asks (site.runs.waits s.run).taken answered (and-right (is_all_taken b) (site.runs.waits s.run).taken e)) h.1 refl same
      first false e = second (is_to_close b s.client)

  busy-agrees : (m n : Move J (Both R)) (b : Ledger J) (s : Both R) → s.client.stage ≡ stage.Busy → Known site.runs holds b s → Agree (LessOften (held s) (left s)) m n
      → perform (busy site now m b s) b s ≡ perform (busy site now n b s) b s
  busy-agrees m n b s at h same = by (site.runs.waits s.run).asks refl
    where
      k : holds b s.run
      k = subst (λ (st : Stage). AgreesWithin holds st b s.run) at h.0

      all : (site.runs.waits s.run).asks ≡ Some asking.AllTaken → (c : Bool)
          → perform (tell site now (if c then seen.AllTaken else seen.NotYet) m) b s ≡ perform (tell site now (if c then seen.AllTaken else seen.NotYet) n) b s
      all e true = tell-agrees seen.AllTaken m n b s at k (h.1, taken-answers site now holds run (site.runs.waits s.run).asks (site.runs.waits s.run).taken e) h.1 refl same
      all e false = tell-agrees seen.NotYet m n b s at k (h.1, asks-some site now holds run (site.runs.waits s.run).asks asking.AllTaken e) h.1 refl same

      by : (q : Option Asking) → (site.runs.waits s.run).asks ≡ q → perform (busy_at site now q m b s) b s ≡ perform (busy_at site now q n b s) b s
      by None e = waiting-agrees m n b s at h e same
      by (Some asking.AllTaken) e = all e (is_all_taken b)
      by (Some (asking.Body max)) e =
          let t = record s { client = record s.client { limit = max; came = after_asked s.client.came max } } in
          answer-agrees max (is_there b && not s.client.ended) (record s.client { limit = max }) (body_answer s.client.came max) m n b t at k h.1 e
          (λ c u known r. let fewer = asked-fewer s.client.came.at s.client.came.held max in same c u known (omega (arith, r.0, fewer), r.1))

  -- ---- requests in turn

  begin-agrees : (m n : Move J (Both R)) (head : Head) (target : Target) (b : Ledger J) (s : Both R) → IsBlank b → Agree (λ u. u.client.came ≡ s.client.came) m n
      → perform (begin site now m head target) b s ≡ perform (begin site now n head target) b s
  begin-agrees m n head target b s h same =
      turn-agrees (site.runs.begun now head target b) m n (waits_at_first true) b
      (record { client = with_request head target (site.times_of head target) s.client; run = site.runs.unborn })
      refl (run.begins now head target b h) h.none_asked (λ c u r. same c u r.known r.came)

  flush-agrees : (m n : Move J (Both R)) (b : Ledger J) (s : Both R) → IsBlank b → Agree (Fewer (held s)) m n
      → perform (flush site now m b s.client) b s ≡ perform (flush site now n b s.client) b s
  flush-agrees m n b s h same = by (not (is_all_taken b)) (not (is_there b) || closes_after s.client.reply)
    where
      f : Fed
      f = fed (done s.client.came) []

      t : Both R
      t = record s { client = record s.client { came = f.after } }

      heard-agrees : (answer : LineOut) → f.answer ≡ answer → perform (heard_by site now true m f.after s.client.ended answer) b t ≡ perform (heard_by site now true n f.after s.client.ended answer) b t
      heard-agrees (out.Request head target) e = ends-agree timer.Header (begin site now m head target) (begin site now n head target) b t
          (λ c like. begin-agrees m n head target c t (blank-alike b c like h)
          (λ d u k came. same d u k (subst (λ (x : Came). length x.held < held s) (sym came) (next-fewer s.client.came head target e))))
      heard-agrees (out.Refused code) e = refl
      heard-agrees out.Waiting e = refl
      heard-agrees out.Memory e = refl

      by : (c d : Bool) → perform (if c then Done else (if d then finish else next site now m s.client)) b s ≡ perform (if c then Done else (if d then finish else next site now n s.client)) b s
      by true d = refl
      by false true = refl
      by false false = heard-agrees f.answer refl

  settled-agrees : (again more rest others : Move J (Both R)) (b : Ledger J) (s : Both R) → Known site.runs holds b s → Agree (LessOften (held s) (left s)) again more → Agree (Fewer (held s)) rest others
      → perform (settled_at site now s.client.stage again rest b s) b s ≡ perform (settled_at site now s.client.stage more others b s) b s
  settled-agrees again more rest others b s h tells-same same = by s.client.stage refl
    where
      by : (st : Stage) → s.client.stage ≡ st → perform (settled_at site now st again rest b s) b s ≡ perform (settled_at site now st more others b s) b s
      by stage.Busy e = busy-agrees again more b s e h tells-same
      by stage.Flush e = flush-agrees rest others b s (subst (λ (st : Stage). AgreesWithin holds st b s.run) e h.0) same
      by stage.Idle e = refl
      by stage.Head e = refl
      by stage.Drop e = refl
      by stage.Over e = refl

  -- ---- often enough

  -- what follows where the run is told, of so many times
  abbrev again_of : Move J (Both R) → ℕ → Move J (Both R)
  again_of rest zero = Done
  again_of rest (suc k) = tells site now rest k

  tells-once : (rest : Move J (Both R)) (k : ℕ) (b : Ledger J) (s : Both R)
      → perform (tells site now rest k) b s ≡ perform (settled_at site now s.client.stage (again_of rest k) rest b s) b s
  tells-once rest zero b s = refl
  tells-once rest (suc k) b s = refl

  -- so many times are often enough as the run can be told
  again-agrees : (rest others : Move J (Both R)) (k j n : ℕ) (b : Ledger J) (s : Both R) → Known site.runs holds b s → held s ≤ n → left s < k → left s < j → Agree (Fewer n) rest others
      → perform (again_of rest k) b s ≡ perform (again_of others j) b s
  again-agrees rest others zero j n b s h fewer low high same = absurd (omega arith)
  again-agrees rest others (suc k) zero n b s h fewer low high same = absurd (omega arith)
  again-agrees rest others (suc k) (suc j) n b s h fewer low high same =
      tells-once rest k b s
      ∙ settled-agrees (again_of rest k) (again_of others j) rest others b s h
      (λ c u g r. again-agrees rest others k j n c u g (omega (arith, r.0, fewer)) (omega (arith, r.1, low)) (omega (arith, r.1, high)) same)
      (λ c u g r. same c u g (omega (arith, r, fewer)))
      ∙ sym (tells-once others j b s)

  -- and so many requests as bytes are held
  settles-agree : (n m : ℕ) (b : Ledger J) (s : Both R) → Known site.runs holds b s → held s < n → held s < m → perform (settle_for site now n) b s ≡ perform (settle_for site now m) b s
  settles-agree zero m b s h low high = absurd (omega arith)
  settles-agree (suc n) zero b s h low high = absurd (omega arith)
  settles-agree (suc n) (suc m) b s h low high =
      again-agrees (settle_for site now n) (settle_for site now m) (suc (left s)) (suc (left s)) (held s) b s h (omega arith) (omega arith) (omega arith)
      (λ c u g r. settles-agree n m c u g (omega (arith, r, low)) (omega (arith, r, high)))

  pub settling : (b : Ledger J) (s : Both R) → Known site.runs holds b s
      → perform (settle site now) b s ≡ perform (settled_at site now s.client.stage (settle site now) (settle site now) b s) b s
  settling b s h =
      tells-once (settle_for site now (held s)) (left s) b s
      ∙ settled-agrees (again_of (settle_for site now (held s)) (left s)) (settle site now) (settle_for site now (held s)) (settle site now) b s h again
      (λ c u g r. settles-agree (held s) (suc (held u)) c u g r (omega arith))
    where
      again : Agree (LessOften (held s) (left s)) (again_of (settle_for site now (held s)) (left s)) (settle site now)
      again c u g r = again-agrees (settle_for site now (held s)) (settle_for site now (held u)) (left s) (suc (left u)) (held u) c u g (omega arith) r.1 (omega arith)
          (λ d v k f. settles-agree (held s) (held u) d v k (omega (arith, f, r.0)) f)
