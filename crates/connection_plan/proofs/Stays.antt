-- A connection over a lawful run: what it knows of its states stays true.
use Rattle.std.proofs.Common.{◌≡◌, ℕ, zero, suc, ◌<◌, ◌≤◌, Bool, true, false, ◌&&◌, ◌||◌, List, [], ◌∷◌, Some, None, if◌then◌else◌, refl, sym, ap, ◌∙◌, subst, arith, length-drop}
use Rattle.std.specs.Prelude.{not, length, Option, is_some}
use Rattle.uri_args.specs.declared.targets.Target.{Target}
use Rattle.http_in.specs.declared.heads.Head.{Head}
use Rattle.http_bodies.specs.declared.bodies.BodyRead.{BodyRead}
use Rattle.http_bodies.specs.declared.bodies.BodyRead.TheVariants as body
use Rattle.client_line.specs.declared.requests.LineOut.{LineOut}
use Rattle.client_line.specs.declared.requests.LineOut.TheVariants as out
use Rattle.client_line.specs.declared.line.Held.{Held}
use Rattle.client_line.specs.declared.line.Held.TheVariants as held
use Rattle.client_line.specs.Records.{At, Came}
use Rattle.client_line.specs.Records as line
use Rattle.client_line.specs.Lines.{came_at, body_so_far, taken_count, after_asked, body_answer, done, held_in}
use Rattle.client_line.specs.Feeding.{Fed, fed}
use Rattle.strand_contract.specs.declared.turns.Place.TheVariants as place
use Rattle.strand_plans.specs.Questions.{Question}
use Rattle.strand_plans.specs.Ledgers.{Ledger}
use Rattle.strand_plans.specs.Moves.{Move, Done, Ask, State, asked_of, hung_up, perform}
use Rattle.run_contract.specs.declared.turns.RunSeen.{RunSeen}
use Rattle.run_contract.specs.declared.turns.RunSeen.TheVariants as seen
use Rattle.run_contract.specs.declared.turns.Said.TheVariants as said
use Rattle.run_contract.specs.declared.turns.Asking.{Asking}
use Rattle.run_contract.specs.declared.turns.Asking.TheVariants as asking
use Rattle.run_contract.specs.Deeds.{Deed, Ready, Unready, Arm, Cancel, HangUp, Send, Log, Say, Asks, Nothing, Outside, Within, Turn, ledger_by, ledger_after, ledger_asking, within, taken, says_over}
use Rattle.run_contract.specs.Runs.{RunPlan, Waits, waits_at_first, waits_told, is_of_client}
use Rattle.run_contract.specs.Alike.{AreAlike}
use Rattle.run_contract.specs.Conditions.{IsBlank, IsRun, MayCome, MayHear, Leaves, asks_body, asks_taken, entered_as}
use Rattle.connection_plan.specs.Clients.{Stage, Client, with_request, with_refusal, closes_after}
use Rattle.connection_plan.specs.Clients as stage
use Rattle.connection_plan.specs.Services.{Service, Both}
use Rattle.connection_plan.specs.Timers as timer
use Rattle.connection_plan.specs.Turns.{is_there, is_all_taken, wait_more, end_timer, finish, asks_then, run_turn, tell, lose_at, lose, begin, close_if_taken, refuse, wait_for, heard_by, heard, next, body_told, tell_body, ask_body, answer_body, waiting, busy_at, is_to_close, busy, flush, settled_at, tells, settle_for, settle}
use Rattle.connection_plan.specs.Conditions.{AgreesWithin, Agrees, Knows}
use Rattle.connection_plan.proofs.Alike as alike
use Rattle.connection_plan.proofs.Alike.{alike-trans, blank-alike, hung-up-alike, asking-alike, unasked-alike}
use Rattle.connection_plan.proofs.Fewer.{next-fewer}
use Rattle.connection_plan.proofs.Lifted.{SameRun}
use Rattle.connection_plan.proofs.Steps.{stage_did, Follows, begins-leads, ends-leads, speaks-leads, waits-leads, turn-leads}

asked-fewer : (at : At) (bytes : List ℕ) (max : ℕ) → length (after_asked (came_at at bytes) max).held ≤ length bytes
asked-fewer line.Head bytes max = omega arith
asked-fewer (line.Present body kind skips) bytes max = omega (arith, length-drop (taken_count (body_so_far body kind max) bytes) bytes)
asked-fewer (line.Dropping far) bytes max = omega arith
asked-fewer (line.Over code) bytes max = omega arith

-- ---- the stage after deeds

flush-stays : (ds : List Deed) → stage_did ds stage.Flush ≡ stage.Flush
flush-stays [] = refl
flush-stays (Say said.Over ∷ ds) = flush-stays ds
flush-stays (Say (said.Send bytes) ∷ ds) = flush-stays ds
flush-stays (Say said.WantsNoBody ∷ ds) = flush-stays ds
flush-stays (Say (said.Times t) ∷ ds) = flush-stays ds
flush-stays (Say (said.Ended c) ∷ ds) = flush-stays ds
flush-stays (Ready k ∷ ds) = flush-stays ds
flush-stays (Unready k ∷ ds) = flush-stays ds
flush-stays (Arm k at ∷ ds) = flush-stays ds
flush-stays (Cancel k ∷ ds) = flush-stays ds
flush-stays (HangUp k ∷ ds) = flush-stays ds
flush-stays (Send k bytes ∷ ds) = flush-stays ds
flush-stays (Log line ∷ ds) = flush-stays ds

pub stage-over : (ds : List Deed) (st : Stage) → stage_did ds st ≡ (if says_over ds then stage.Flush else st)
stage-over [] st = refl
stage-over (Say said.Over ∷ ds) st = flush-stays ds
stage-over (Say (said.Send bytes) ∷ ds) st = stage-over ds st
stage-over (Say said.WantsNoBody ∷ ds) st = stage-over ds st
stage-over (Say (said.Times t) ∷ ds) st = stage-over ds st
stage-over (Say (said.Ended c) ∷ ds) st = stage-over ds st
stage-over (Ready k ∷ ds) st = stage-over ds st
stage-over (Unready k ∷ ds) st = stage-over ds st
stage-over (Arm k at ∷ ds) st = stage-over ds st
stage-over (Cancel k ∷ ds) st = stage-over ds st
stage-over (HangUp k ∷ ds) st = stage-over ds st
stage-over (Send k bytes ∷ ds) st = stage-over ds st
stage-over (Log line ∷ ds) st = stage-over ds st

-- no deed asks the outside
pub deeds-ask-nothing : {J : Type 0} (ds : List Deed) (b : Ledger J) → (ledger_after ds b).asked ≡ b.asked
deeds-ask-nothing [] b = refl
deeds-ask-nothing (Ready k ∷ ds) b = deeds-ask-nothing ds (ledger_by (Ready k) b)
deeds-ask-nothing (Unready k ∷ ds) b = deeds-ask-nothing ds (ledger_by (Unready k) b)
deeds-ask-nothing (Arm k at ∷ ds) b = deeds-ask-nothing ds (ledger_by (Arm k at) b)
deeds-ask-nothing (Cancel k ∷ ds) b = deeds-ask-nothing ds (ledger_by (Cancel k) b)
deeds-ask-nothing (HangUp k ∷ ds) b = deeds-ask-nothing ds (ledger_by (HangUp k) b)
deeds-ask-nothing (Send k bytes ∷ ds) b = deeds-ask-nothing ds (ledger_by (Send k bytes) b)
deeds-ask-nothing (Log line ∷ ds) b = deeds-ask-nothing ds b
deeds-ask-nothing (Say w ∷ ds) b = deeds-ask-nothing ds b

module _ {J R : Type 0} (runs : RunPlan J R) (holds : Ledger J → R → Type 0) where
  abbrev pub Known : Ledger J → Both R → Type 0
  Known b s = AgreesWithin holds s.client.stage b s.run × (b.asked ≡ None)

  -- a run that goes on has no question open
  abbrev pub Answered : Stage → R → Type 0
  Answered stage.Busy r = (runs.waits r).asks ≡ None
  Answered st r = Unit {0}

  pub settled-so : (st : Stage) (b : Ledger J) (r : R) → AgreesWithin holds st b r → Answered st r → Agrees runs holds st b r
  settled-so stage.Busy b r h e = (h, e)
  settled-so stage.Over b r h e = h
  settled-so stage.Idle b r h e = h
  settled-so stage.Head b r h e = h
  settled-so stage.Flush b r h e = h
  settled-so stage.Drop b r h e = h

  pub within-of : (st : Stage) (b : Ledger J) (r : R) → Agrees runs holds st b r → AgreesWithin holds st b r
  within-of stage.Busy b r h = h.0
  within-of stage.Over b r h = h
  within-of stage.Idle b r h = h
  within-of stage.Head b r h = h
  within-of stage.Flush b r h = h
  within-of stage.Drop b r h = h

  pub answered-of : (st : Stage) (b : Ledger J) (r : R) → Agrees runs holds st b r → Answered st r
  answered-of stage.Busy b r h = h.1
  answered-of stage.Over b r h = tt
  answered-of stage.Idle b r h = tt
  answered-of stage.Head b r h = tt
  answered-of stage.Flush b r h = tt
  answered-of stage.Drop b r h = tt

  pub answered-so : (st : Stage) (r : R) → (runs.waits r).asks ≡ None → Answered st r
  answered-so stage.Busy r e = e
  answered-so stage.Over r e = tt
  answered-so stage.Idle r e = tt
  answered-so stage.Head r e = tt
  answered-so stage.Flush r e = tt
  answered-so stage.Drop r e = tt

module _ {J R : Type 0} (site : Service J R) (now : ℕ) (holds : Ledger J → R → Type 0) (run : IsRun site.runs holds) where
  abbrev Knowing : State J (Both R) → Type 0
  Knowing st = Knows site.runs holds st

  -- from this state these moves lead to one that is known
  abbrev pub LeadsOn : Move J (Both R) → Ledger J → Both R → Type 0
  LeadsOn m b s = Knowing (perform m b s).state

  pub within-alike : (st : Stage) (b c : Ledger J) (r : R) → AreAlike b c → AgreesWithin holds st b r → AgreesWithin holds st c r
  within-alike stage.Busy b c r same h = run.apart b c r same h
  within-alike stage.Over b c r same h = (sym same.asked ∙ h.0, λ k. sym (same.opened k) ∙ h.1 k)
  within-alike stage.Idle b c r same h = blank-alike b c same h
  within-alike stage.Head b c r same h = blank-alike b c same h
  within-alike stage.Flush b c r same h = blank-alike b c same h
  within-alike stage.Drop b c r same h = blank-alike b c same h

  pub within-follows : (b c : Ledger J) (s t : Both R) (st : Stage) → Follows b s st c t → AgreesWithin holds st b s.run → AgreesWithin holds t.client.stage c t.run
  within-follows b c s t st x h =
      subst (λ (st : Stage). AgreesWithin holds st c t.run) (sym x.stage)
      (within-alike st b c t.run x.same.alike (subst (λ (r : R). AgreesWithin holds st b r) (sym x.run) h))

  -- ---- a turn of the run

  -- at the stage after the deeds: what the turn leaves, or that it is blank
  within-over : (ds : List Deed) (b : Ledger J) (r : R) → holds b r → (says_over ds ≡ true → IsBlank b) → AgreesWithin holds (stage_did ds stage.Busy) b r
  within-over ds b r h over = subst (λ (st : Stage). AgreesWithin holds st b r) (sym (stage-over ds stage.Busy)) (by (says_over ds) over)
    where
      by : (c : Bool) → (c ≡ true → IsBlank b) → AgreesWithin holds (if c then stage.Flush else stage.Busy) b r
      by true f = f refl
      by false f = h

  -- a turn with what comes after it
  pub record IsAfter (t : Turn J R) (s : Both R) (c : Ledger J) (u : Both R) : Type 0 where
    pub known : Known site.runs holds c u
    pub ran : u.run ≡ t.run
    pub came : u.client.came ≡ s.client.came
    pub asks : (site.runs.waits u.run).asks ≡ within t.asks

  -- where its deeds lead: a ledger alike to the run's own, the turn's run, the stage after the words
  pub record IsDone (t : Turn J R) (b : Ledger J) (s : Both R) (d : Ledger J) (u : Both R) : Type 0 where
    pub same : SameRun (ledger_after t.does b) d
    pub ran : u.run ≡ t.run
    pub stage : u.client.stage ≡ stage_did t.does stage.Busy
    pub came : u.client.came ≡ s.client.came

  module _ (t : Turn J R) (w : Waits) (b : Ledger J) (s : Both R) (at : s.client.stage ≡ stage.Busy) (left : Leaves site.runs holds w t b) (none : b.asked ≡ None) where
    unasked : (ledger_after t.does b).asked ≡ None
    unasked = deeds-ask-nothing t.does b ∙ none

    asked : (u : Both R) → u.run ≡ t.run → (site.runs.waits u.run).asks ≡ within t.asks
    asked u r = ap (λ (r : R). (site.runs.waits r).asks) r ∙ ap (λ (w : Waits). w.asks) left.waits

    agrees : (d : Ledger J) (u : Both R) (a : Asks J) → t.asks ≡ a → AreAlike (ledger_asking a (ledger_after t.does b)) d → u.run ≡ t.run → u.client.stage ≡ stage_did t.does stage.Busy
        → AgreesWithin holds u.client.stage d u.run
    agrees d u a e x r st =
        let b2 = (taken t b).ledger in
        let h = within-over t.does b2 t.run left.known (λ o. (left.over o).0) in
        let g = within-alike (stage_did t.does stage.Busy) b2 d t.run (subst (λ (a : Asks J). AreAlike (ledger_asking a (ledger_after t.does b)) d) (sym e) x) h in
        subst (λ (st : Stage). AgreesWithin holds st d u.run) (sym st) (subst (λ (r : R). AgreesWithin holds (stage_did t.does stage.Busy) d r) (sym r) g)

    -- with no question to the outside the state there is known
    pub goes-on : (d : Ledger J) (u : Both R) → IsDone t b s d u → (a : Asks J) → t.asks ≡ a → ((x : Question J) → a ≡ Outside x → asked_of x d ≡ None) → IsAfter t s d u
    goes-on d u y (Outside x) e o =
        let c = ledger_after t.does b in
        let n : d.asked ≡ None = sym y.same.alike.asked ∙ unasked in
        let like = alike-trans (alike.asking x c) (alike.asking x d) d (asking-alike x c d y.same.alike) (unasked-alike x d (o x refl) n) in
        record { known = (agrees d u (Outside x) e like y.ran y.stage, n); ran = y.ran; came = y.came; asks = asked u y.ran }
    goes-on d u y Nothing e o = record { known = (agrees d u Nothing e y.same.alike y.ran y.stage, sym y.same.alike.asked ∙ unasked); ran = y.ran; came = y.came; asks = asked u y.ran }
    goes-on d u y (Within q) e o = record { known = (agrees d u (Within q) e y.same.alike y.ran y.stage, sym y.same.alike.asked ∙ unasked); ran = y.ran; came = y.came; asks = asked u y.ran }

    -- with one the turn ends, and its end is known too
    pub asks-on : (d : Ledger J) (u : Both R) → IsDone t b s d u → (x : Question J) → t.asks ≡ Outside x → Knowing (record { ledger = alike.asking x d; inner = u })
    asks-on d u y x e =
        let h = agrees (alike.asking x d) u (Outside x) e (asking-alike x (ledger_after t.does b) d y.same.alike) y.ran y.stage in
        settled-so site.runs holds u.client.stage (alike.asking x d) u.run h (answered-so site.runs holds u.client.stage u.run (asked u y.ran ∙ ap within e))

  no-other : (x y : Question J) → Outside x ≡ Outside y → x ≡ y
  no-other x y e = cc

  pub turn-keeps : (t : Turn J R) (m : Move J (Both R)) (w : Waits) (b : Ledger J) (s : Both R) → s.client.stage ≡ stage.Busy
      → Leaves site.runs holds w t b → b.asked ≡ None → ((c : Ledger J) (u : Both R) → IsAfter t s c u → LeadsOn m c u) → LeadsOn (run_turn site now t m) b s
  turn-keeps t m w b s at left none keeps = turn-leads site now Knowing t m b s
      (λ d u x r st came. by d u (record { same = x; ran = r; stage = st ∙ ap (stage_did t.does) at; came = came }) t.asks refl)
    where
      asks : (x : Question J) (d : Ledger J) (u : Both R) → IsDone t b s d u → t.asks ≡ Outside x → (o : Option (Question J)) → asked_of x d ≡ o → LeadsOn (if is_some o then Ask x else m) d u
      asks x d u y e (Some z) o = asks-on t w b s at left none d u y x e
      asks x d u y e None o = keeps d u (goes-on t w b s at left none d u y (Outside x) e (λ z f. subst (λ (z : Question J). asked_of z d ≡ None) (no-other x z f) o))

      by : (d : Ledger J) (u : Both R) → IsDone t b s d u → (a : Asks J) → t.asks ≡ a → LeadsOn (asks_then site now a m) d u
      by d u y (Outside x) e = asks x d u y e (asked_of x d) refl
      by d u y Nothing e = keeps d u (goes-on t w b s at left none d u y Nothing e (λ x f. absurd (cc)))
      by d u y (Within q) e = keeps d u (goes-on t w b s at left none d u y (Within q) e (λ x f. absurd (cc)))

  -- it is told something, in a ledger in which that was entered
  pub told-keeps : (x : RunSeen) (m : Move J (Both R)) (b : Ledger J) (s : Both R) → s.client.stage ≡ stage.Busy → holds b s.run
      → MayCome site.runs now x b s.run → (entered_as x b).asked ≡ None
      → ((c : Ledger J) (u : Both R) → IsAfter (site.runs.turn now x (entered_as x b) s.run) s c u → LeadsOn m c u)
      → LeadsOn (tell site now x m) (entered_as x b) s
  told-keeps x m b s at h may none keeps =
      turn-keeps (site.runs.turn now x (entered_as x b) s.run) m (waits_told x (site.runs.waits s.run)) (entered_as x b) s at (run.stays now x b s.run h may) none keeps

  -- a turn with no question to the connection may be the last of an action
  pub done-keeps : (t : Turn J R) (s : Both R) → within t.asks ≡ None → (c : Ledger J) (u : Both R) → IsAfter t s c u → LeadsOn Done c u
  done-keeps t s e c u x = settled-so site.runs holds u.client.stage c u.run x.known.0 (answered-so site.runs holds u.client.stage u.run (x.asks ∙ e))

  -- each time it is told of its client, `tells_left` falls, and the bytes held stay
  pub tell-keeps : (x : RunSeen) (m : Move J (Both R)) (b : Ledger J) (s : Both R) → s.client.stage ≡ stage.Busy → holds b s.run
      → MayCome site.runs now x b s.run → (entered_as x b).asked ≡ None → is_of_client x ≡ true
      → ((c : Ledger J) (u : Both R) → Known site.runs holds c u → u.client.came ≡ s.client.came → site.runs.tells_left u.run < site.runs.tells_left s.run → LeadsOn m c u)
      → LeadsOn (tell site now x m) (entered_as x b) s
  tell-keeps x m b s at h may none of keeps = told-keeps x m b s at h may none
      (λ c u a. keeps c u a.known a.came (subst (λ (r : R). site.runs.tells_left r < site.runs.tells_left s.run) (sym a.ran) (run.falls now x b s.run h may of)))

  -- ---- the client's end

  pub finishes : (b : Ledger J) (s : Both R) → b.asked ≡ None → LeadsOn finish b s
  finishes b s none = (none, λ k. refl)

  -- with no question open
  pub lose-keeps : (b : Ledger J) (s : Both R) → Known site.runs holds b s → Answered site.runs holds s.client.stage s.run → LeadsOn (lose site now) b s
  lose-keeps b s h answered = at s.client.stage refl
    where
      gone : (c : Ledger J) (t : Both R) → t.client.stage ≡ stage.Busy → holds c t.run → c.asked ≡ None → (site.runs.waits t.run).asks ≡ None
          → (w : Bool) → (site.runs.waits s.run).client ≡ w → t.run ≡ s.run → LeadsOn (if w then tell site now seen.ClientGone Done else Done) c t
      gone c t e k none a true w same =
          told-keeps seen.ClientGone Done c t e k (record { outside = none; within = a }, ap (λ (r : R). (site.runs.waits r).client) same ∙ w) none
          (done-keeps (site.runs.turn now seen.ClientGone c t.run) t (ap within (run.gone now c t.run).1))
      gone c t e k none a false w same = subst (λ (st : Stage). Agrees site.runs holds st c t.run) (sym e) (k, a)

      at : (st : Stage) → s.client.stage ≡ st → LeadsOn (lose_at site now st s) b s
      at stage.Busy e =
          let c0 = hung_up place.Client b in
          let h0 : AgreesWithin holds s.client.stage c0 s.run = within-alike s.client.stage b c0 s.run (hung-up-alike b) h.0 in
          let a : (site.runs.waits s.run).asks ≡ None = subst (λ (st : Stage). Answered site.runs holds st s.run) e answered in
          let told = if (site.runs.waits s.run).client then tell site now seen.ClientGone Done else Done in
          ends-leads site now Knowing timer.Body (end_timer site now timer.Send told) c0 s
          (λ c t x. ends-leads site now Knowing timer.Send told c t
          (λ d u y. let k = within-follows c d t u t.client.stage y (within-follows c0 c s t s.client.stage x h0) in
          let f = y.stage ∙ x.stage ∙ e in
          let same = y.run ∙ x.run in
          gone d u f (subst (λ (st : Stage). AgreesWithin holds st d u.run) f k) (sym y.same.alike.asked ∙ sym x.same.alike.asked ∙ h.1)
          (ap (λ (r : R). (site.runs.waits r).asks) same ∙ a) (site.runs.waits s.run).client refl same))
      at stage.Idle e = finishes b s h.1
      at stage.Head e = finishes b s h.1
      at stage.Flush e = finishes b s h.1
      at stage.Drop e = finishes b s h.1
      at stage.Over e = finishes b s h.1

  -- ---- requests in turn

  pub begin-keeps : (rest : Move J (Both R)) (head : Head) (target : Target) (b : Ledger J) (s : Both R) → IsBlank b
      → ((c : Ledger J) (u : Both R) → Known site.runs holds c u → u.client.came ≡ s.client.came → LeadsOn rest c u) → LeadsOn (begin site now rest head target) b s
  begin-keeps rest head target b s h keeps =
      turn-keeps (site.runs.begun now head target b) rest (waits_at_first true) b
      (record { client = with_request head target (site.times_of head target) s.client; run = site.runs.unborn })
      refl (run.begins now head target b h) h.none_asked (λ c u a. keeps c u a.known a.came)

  closing-keeps : (b : Ledger J) (s : Both R) → IsBlank b → s.client.stage ≡ stage.Flush → LeadsOn (close_if_taken site now) b s
  closing-keeps b s h e = by (is_all_taken b)
    where
      by : (c : Bool) → LeadsOn (if c then finish else Done) b s
      by true = finishes b s h.none_asked
      by false = subst (λ (st : Stage). Agrees site.runs holds st b s.run) (sym e) h

  refuse-keeps : (at : At) (code : ℕ) (b : Ledger J) (s : Both R) → IsBlank b → LeadsOn (refuse site now at code) b s
  refuse-keeps (line.Over status) code b s h =
      let t = record s { client = with_refusal code site.default_times s.client } in
      speaks-leads site now Knowing (site.refusal code now) (close_if_taken site now) b t (λ c u x. closing-keeps c u (blank-alike b c x.same.alike h) x.stage)
  refuse-keeps line.Head code b s h = finishes b s h.none_asked
  refuse-keeps (line.Present body kind skips) code b s h = finishes b s h.none_asked
  refuse-keeps (line.Dropping far) code b s h = finishes b s h.none_asked

  -- the stages at which nothing of a run is left
  at-stage : (st : Stage) (b c : Ledger J) (t : Both R) → ((c : Ledger J) → IsBlank c → Agrees site.runs holds st c t.run) → AreAlike b c → t.client.stage ≡ st → IsBlank b
      → Agrees site.runs holds t.client.stage c t.run
  at-stage st b c t f x e h = subst (λ (st : Stage). Agrees site.runs holds st c t.run) (sym e) (f c (blank-alike b c x h))

  wait-keeps : (w : Held) (b : Ledger J) (s : Both R) → IsBlank b → LeadsOn (wait_for site now w) b s
  wait-keeps held.Body b s h = begins-leads site now Knowing timer.Body Done b (record s { client = record s.client { stage = stage.Drop } }) (λ c t x. at-stage stage.Drop b c t (λ c h. h) x.same.alike x.stage h)
  wait-keeps held.Nothing b s h = begins-leads site now Knowing timer.Keepalive Done b (record s { client = record s.client { stage = stage.Idle } }) (λ c t x. at-stage stage.Idle b c t (λ c h. h) x.same.alike x.stage h)
  wait-keeps held.Begun b s h = begins-leads site now Knowing timer.Header Done b (record s { client = record s.client { stage = stage.Head } }) (λ c t x. at-stage stage.Head b c t (λ c h. h) x.same.alike x.stage h)
  wait-keeps held.Request b s h = begins-leads site now Knowing timer.Header Done b (record s { client = record s.client { stage = stage.Head } }) (λ c t x. at-stage stage.Head b c t (λ c h. h) x.same.alike x.stage h)

  -- bytes that came are read while no run goes on; where a request begins, so many are left
  pub heard-keeps : (anew : Bool) (rest : Move J (Both R)) (ended : Bool) (f : Fed) (b : Ledger J) (s : Both R) → Agrees site.runs holds s.client.stage b s.run → IsBlank b
      → ((head : Head) (target : Target) → f.answer ≡ out.Request head target → (c : Ledger J) (u : Both R) → Known site.runs holds c u → u.client.came ≡ f.after → LeadsOn rest c u)
      → LeadsOn (heard site now anew rest ended f) b s
  heard-keeps anew rest ended f b s agrees h keeps = by f.answer refl
    where
      t : Both R
      t = record s { client = record s.client { came = f.after } }

      more : (c d : Bool) → LeadsOn (if c then finish else (if d then wait_for site now (held_in f.after.at f.after.held) else Done)) b t
      more true d = finishes b t h.none_asked
      more false true = wait-keeps (held_in f.after.at f.after.held) b t h
      more false false = agrees

      by : (answer : LineOut) → f.answer ≡ answer → LeadsOn (heard_by site now anew rest f.after ended answer) b t
      by (out.Request head target) e = ends-leads site now Knowing timer.Header (begin site now rest head target) b t
          (λ c u x. begin-keeps rest head target c u (blank-alike b c x.same.alike h) (λ d v k came. keeps head target e d v k (came ∙ x.came)))
      by (out.Refused code) e = ends-leads site now Knowing timer.Header (refuse site now f.after.at code) b t (λ c u x. refuse-keeps f.after.at code c u (blank-alike b c x.same.alike h))
      by out.Waiting e = more ended anew
      by out.Memory e = more ended anew

  -- ---- telling a run what it asked or waits for

  abbrev left : Both R → ℕ
  left s = site.runs.tells_left s.run

  abbrev held_bytes : Both R → ℕ
  held_bytes s = length s.client.came.held

  -- what settling again needs to be right from: states with no more bytes held and fewer tells left
  abbrev LessOften : Move J (Both R) → Both R → Type 0
  LessOften m s = (c : Ledger J) (u : Both R) → Known site.runs holds c u → held_bytes u ≤ held_bytes s → left u < left s → LeadsOn m c u

  tell-less : (x : RunSeen) (m : Move J (Both R)) (b : Ledger J) (s t : Both R) → t.client.stage ≡ stage.Busy → holds b t.run → t.run ≡ s.run → held_bytes t ≤ held_bytes s
      → MayCome site.runs now x b t.run → entered_as x b ≡ b → b.asked ≡ None → is_of_client x ≡ true → LessOften m s → LeadsOn (tell site now x m) b t
  tell-less x m b s t at h same fewer may enters none of keeps =
      subst (λ (e : Ledger J). LeadsOn (tell site now x m) e t) enters
      (tell-keeps x m b t at h may (ap (λ (e : Ledger J). e.asked) enters ∙ none) of
      (λ c u k came less. keeps c u k (subst (λ (z : Came). length z.held ≤ held_bytes s) (sym came) fewer)
      (subst (λ (r : R). left u < site.runs.tells_left r) same less)))

  -- the body's timer ends, and the run is told
  body-less : (x : RunSeen) (again : Move J (Both R)) (b : Ledger J) (s t : Both R) → t.client.stage ≡ stage.Busy → holds b t.run → t.run ≡ s.run → held_bytes t ≤ held_bytes s
      → ((d : Ledger J) (r : R) → d.asked ≡ None → r ≡ s.run → MayCome site.runs now x d r) → ((d : Ledger J) → entered_as x d ≡ d) → b.asked ≡ None → is_of_client x ≡ true → LessOften again s
      → LeadsOn (end_timer site now timer.Body (tell site now x again)) b t
  body-less x again b s t at h same fewer may enters none of keeps = ends-leads site now Knowing timer.Body (tell site now x again) b t
      (λ d u y. let n : d.asked ≡ None = sym y.same.alike.asked ∙ none in
      let k : holds d u.run = subst (λ (r : R). holds d r) (sym y.run) (run.apart b d t.run y.same.alike h) in
      tell-less x again d s u (y.stage ∙ at) k (y.run ∙ same) (subst (λ (z : Came). length z.held ≤ held_bytes s) (sym y.came) fewer) (may d u.run n (y.run ∙ same)) (enters d) n of keeps)

  -- it may be told the answer, or what it waits for
  pub body-answers : (q : Option Asking) (w : Bool) (max : ℕ) → q ≡ Some (asking.Body max) → MayHear (asks_body q) w q
  body-answers q w max e = subst (λ (q : Option Asking). MayHear (asks_body q) w q) (sym e) tt

  pub body-waits : (q : Option Asking) (w : Bool) → q ≡ None → w ≡ true → MayHear (asks_body q) w q
  body-waits q w e h = subst (λ (q : Option Asking). MayHear (asks_body q) w q) (sym e) (h, refl)

  pub taken-answers : (q : Option Asking) (w : Bool) → q ≡ Some asking.AllTaken → MayHear (asks_taken q) w q
  taken-answers q w e = subst (λ (q : Option Asking). MayHear (asks_taken q) w q) (sym e) tt

  pub taken-waits : (q : Option Asking) (w : Bool) → q ≡ None → w ≡ true → MayHear (asks_taken q) w q
  taken-waits q w e h = subst (λ (q : Option Asking). MayHear (asks_taken q) w q) (sym e) (h, refl)

  pub asks-some : (q : Option Asking) (x : Asking) → q ≡ Some x → is_some q ≡ true
  asks-some q x e = ap is_some e

  -- after the question for the body
  answer-keeps : (may : Bool) (c : Client) (a : BodyRead) (max : ℕ) (again : Move J (Both R)) (b : Ledger J) (s t : Both R) → t.client.stage ≡ stage.Busy → holds b t.run → t.run ≡ s.run
      → held_bytes t ≤ held_bytes s → b.asked ≡ None → (site.runs.waits s.run).asks ≡ Some (asking.Body max) → LessOften again s
      → LeadsOn (answer_body site now again (body_told may c a)) b t
  answer-keeps may c a max again b s t at h same fewer none asks keeps = by a
    where
      asks_so : (r : R) → r ≡ s.run → (site.runs.waits r).asks ≡ Some (asking.Body max)
      asks_so r e = ap (λ (r : R). (site.runs.waits r).asks) e ∙ asks

      told : (x : RunSeen) → ((d : Ledger J) (r : R) → d.asked ≡ None → r ≡ s.run → MayCome site.runs now x d r) → ((d : Ledger J) → entered_as x d ≡ d) → is_of_client x ≡ true
          → LeadsOn (end_timer site now timer.Body (tell site now x again)) b t
      told x may enters of = body-less x again b s t at h same fewer may enters none of keeps

      waits : LeadsOn (wait_more site now t.client (tell site now seen.NotYet again)) b t
      waits = waits-leads site now Knowing (tell site now seen.NotYet again) b t t.client
          (λ d u y. let n : d.asked ≡ None = sym y.same.alike.asked ∙ none in
          let k : holds d u.run = subst (λ (r : R). holds d r) (sym y.run) (run.apart b d t.run y.same.alike h) in
          tell-less seen.NotYet again d s u (y.stage ∙ at) k (y.run ∙ same) (subst (λ (z : Came). length z.held ≤ held_bytes s) (sym y.came) fewer)
          (n, asks-some (site.runs.waits u.run).asks (asking.Body max) (asks_so u.run (y.run ∙ same))) refl n refl keeps)

      waiting_so : (m : Bool) → LeadsOn (answer_body site now again (if m then None else Some (seen.BodyRefused 400))) b t
      waiting_so true = waits
      waiting_so false = told (seen.BodyRefused 400) (λ d r n e. (n, body-answers (site.runs.waits r).asks (site.runs.waits r).body max (asks_so r e))) (λ d. refl) refl

      by : (a : BodyRead) → LeadsOn (answer_body site now again (body_told may c a)) b t
      by (body.Whole n) = told _ (λ d r n e. (n, body-answers (site.runs.waits r).asks (site.runs.waits r).body max (asks_so r e))) (λ d. refl) refl
      by (body.Refused code) = told (seen.BodyRefused code) (λ d r n e. (n, body-answers (site.runs.waits r).asks (site.runs.waits r).body max (asks_so r e))) (λ d. refl) refl
      by body.More = waiting_so may
      by body.Memory = waiting_so may

  -- while the body is waited for
  body-keeps : (may : Bool) (c : Client) (a : BodyRead) (again : Move J (Both R)) (b : Ledger J) (s t : Both R) → t.client.stage ≡ stage.Busy → holds b t.run → t.run ≡ s.run
      → held_bytes t ≤ held_bytes s → b.asked ≡ None → (site.runs.waits s.run).asks ≡ None → (site.runs.waits s.run).body ≡ true → LessOften again s
      → LeadsOn (tell_body site now again (body_told may c a)) b t
  body-keeps may c a again b s t at h same fewer none answered waits keeps = by a
    where
      hears : (d : Ledger J) (r : R) → d.asked ≡ None → r ≡ s.run → (d.asked ≡ None) × MayHear (asks_body (site.runs.waits r).asks) (site.runs.waits r).body (site.runs.waits r).asks
      hears d r n e = (n, body-waits (site.runs.waits r).asks (site.runs.waits r).body (ap (λ (r : R). (site.runs.waits r).asks) e ∙ answered) (ap (λ (r : R). (site.runs.waits r).body) e ∙ waits))

      told : (x : RunSeen) → ((d : Ledger J) (r : R) → d.asked ≡ None → r ≡ s.run → MayCome site.runs now x d r) → ((d : Ledger J) → entered_as x d ≡ d) → is_of_client x ≡ true
          → LeadsOn (end_timer site now timer.Body (tell site now x again)) b t
      told x may enters of = body-less x again b s t at h same fewer may enters none of keeps

      stays : LeadsOn Done b t
      stays = subst (λ (st : Stage). Agrees site.runs holds st b t.run) (sym at) (h, ap (λ (r : R). (site.runs.waits r).asks) same ∙ answered)

      waiting_so : (m : Bool) → LeadsOn (tell_body site now again (if m then None else Some (seen.BodyRefused 400))) b t
      waiting_so true = stays
      waiting_so false = told (seen.BodyRefused 400) hears (λ d. refl) refl

      by : (a : BodyRead) → LeadsOn (tell_body site now again (body_told may c a)) b t
      by (body.Whole n) = told _ hears (λ d. refl) refl
      by (body.Refused code) = told (seen.BodyRefused code) hears (λ d. refl) refl
      by body.More = waiting_so may
      by body.Memory = waiting_so may

  and-right : (a b : Bool) → (a && b) ≡ true → b ≡ true
  and-right true b h = h
  and-right false b h = absurd (let e : false ≡ true = h in cc)

  waiting-keeps : (again : Move J (Both R)) (b : Ledger J) (s : Both R) → s.client.stage ≡ stage.Busy → Known site.runs holds b s → (site.runs.waits s.run).asks ≡ None → LessOften again s
      → LeadsOn (waiting site now again b s) b s
  waiting-keeps again b s at h answered keeps = first (is_all_taken b && (site.runs.waits s.run).taken) refl
    where
      k : holds b s.run
      k = subst (λ (st : Stage). AgreesWithin holds st b s.run) at h.0

      third : (c : Bool) → (site.runs.waits s.run).body ≡ c → LeadsOn (if c then ask_body site now again b s.client else Done) b s
      third true e = body-keeps (is_there b && not s.client.ended) s.client (body_answer s.client.came s.client.limit) again b s
          (record s { client = record s.client { came = after_asked s.client.came s.client.limit } }) at k refl
          (asked-fewer s.client.came.at s.client.came.held s.client.limit) h.1 answered e keeps
      third false e = subst (λ (st : Stage). Agrees site.runs holds st b s.run) (sym at) (k, answered)

      second : (c : Bool) → LeadsOn (if c then lose site now else (if (site.runs.waits s.run).body then ask_body site now again b s.client else Done)) b s
      second true = lose-keeps b s h (answered-so site.runs holds s.client.stage s.run answered)
      second false = third (site.runs.waits s.run).body refl

      first : (c : Bool) → (is_all_taken b && (site.runs.waits s.run).taken) ≡ c → LeadsOn (if c then tell site now seen.AllTaken again
          else (if is_to_close b s.client then lose site now else (if (site.runs.waits s.run).body then ask_body site now again b s.client else Done))) b s
      first true e = tell-less seen.AllTaken again b s s at k refl (omega arith)
          (h.1, taken-waits (site.runs.waits s.run).asks (site.runs.waits s.run).taken answered (and-right (is_all_taken b) (site.runs.waits s.run).taken e)) refl h.1 refl keeps
      first false e = second (is_to_close b s.client)

  busy-keeps : (again : Move J (Both R)) (b : Ledger J) (s : Both R) → s.client.stage ≡ stage.Busy → Known site.runs holds b s → LessOften again s → LeadsOn (busy site now again b s) b s
  busy-keeps again b s at h keeps = by (site.runs.waits s.run).asks refl
    where
      k : holds b s.run
      k = subst (λ (st : Stage). AgreesWithin holds st b s.run) at h.0

      all : (site.runs.waits s.run).asks ≡ Some asking.AllTaken → (c : Bool) → LeadsOn (tell site now (if c then seen.AllTaken else seen.NotYet) again) b s
      all e true = tell-less seen.AllTaken again b s s at k refl (omega arith) (h.1, taken-answers (site.runs.waits s.run).asks (site.runs.waits s.run).taken e) refl h.1 refl keeps
      all e false = tell-less seen.NotYet again b s s at k refl (omega arith) (h.1, asks-some (site.runs.waits s.run).asks asking.AllTaken e) refl h.1 refl keeps

      by : (q : Option Asking) → (site.runs.waits s.run).asks ≡ q → LeadsOn (busy_at site now q again b s) b s
      by None e = waiting-keeps again b s at h e keeps
      by (Some asking.AllTaken) e = all e (is_all_taken b)
      by (Some (asking.Body max)) e =
          let t : Both R = record s { client = record s.client { limit = max; came = after_asked s.client.came max } } in
          answer-keeps (is_there b && not s.client.ended) (record s.client { limit = max }) (body_answer s.client.came max) max again b s t at k refl
          (asked-fewer s.client.came.at s.client.came.held max) h.1 e keeps

  -- from states with fewer bytes held than so many
  abbrev Fewer : ℕ → Move J (Both R) → Type 0
  Fewer n m = (c : Ledger J) (u : Both R) → Known site.runs holds c u → held_bytes u < n → LeadsOn m c u

  flush-keeps : (rest : Move J (Both R)) (b : Ledger J) (s : Both R) → s.client.stage ≡ stage.Flush → IsBlank b → Fewer (held_bytes s) rest → LeadsOn (flush site now rest b s.client) b s
  flush-keeps rest b s at h keeps = by (not (is_all_taken b)) (not (is_there b) || closes_after s.client.reply)
    where
      agrees : Agrees site.runs holds s.client.stage b s.run
      agrees = subst (λ (st : Stage). Agrees site.runs holds st b s.run) (sym at) h

      by : (c d : Bool) → LeadsOn (if c then Done else (if d then finish else next site now rest s.client)) b s
      by true d = agrees
      by false true = finishes b s h.none_asked
      by false false = heard-keeps true rest s.client.ended (fed (done s.client.came) []) b s agrees h
          (λ head target e c u k came. keeps c u k (subst (λ (z : Came). length z.held < held_bytes s) (sym came) (next-fewer s.client.came head target e)))

  settled-keeps : (again rest : Move J (Both R)) (b : Ledger J) (s : Both R) → Known site.runs holds b s → LessOften again s → Fewer (held_bytes s) rest
      → LeadsOn (settled_at site now s.client.stage again rest b s) b s
  settled-keeps again rest b s h keeps rests = by s.client.stage refl
    where
      at : (st : Stage) → s.client.stage ≡ st → Answered site.runs holds st s.run → Agrees site.runs holds s.client.stage b s.run
      at st e a = settled-so site.runs holds s.client.stage b s.run h.0 (subst (λ (st : Stage). Answered site.runs holds st s.run) (sym e) a)

      by : (st : Stage) → s.client.stage ≡ st → LeadsOn (settled_at site now st again rest b s) b s
      by stage.Busy e = busy-keeps again b s e h keeps
      by stage.Flush e = flush-keeps rest b s e (subst (λ (st : Stage). AgreesWithin holds st b s.run) e h.0) rests
      by stage.Idle e = at stage.Idle e tt
      by stage.Head e = at stage.Head e tt
      by stage.Drop e = at stage.Drop e tt
      by stage.Over e = at stage.Over e tt

  tells-keeps : (rest : Move J (Both R)) (k n : ℕ) → Fewer n rest → (b : Ledger J) (s : Both R) → Known site.runs holds b s → held_bytes s ≤ n → left s ≤ k → LeadsOn (tells site now rest k) b s
  tells-keeps rest zero n rests b s h fewer less =
      settled-keeps Done rest b s h (λ c u g f l. absurd (omega (arith, l, less))) (λ c u g f. rests c u g (omega (arith, f, fewer)))
  tells-keeps rest (suc k) n rests b s h fewer less =
      settled-keeps (tells site now rest k) rest b s h (λ c u g f l. tells-keeps rest k n rests c u g (omega (arith, f, fewer)) (omega (arith, l, less)))
      (λ c u g f. rests c u g (omega (arith, f, fewer)))

  settle-for-keeps : (n : ℕ) → Fewer n (settle_for site now n)
  settle-for-keeps zero b s h f = absurd (omega (arith, f))
  settle-for-keeps (suc n) b s h f = tells-keeps (settle_for site now n) (left s) n (settle-for-keeps n) b s h (omega (arith, f)) (omega arith)

  pub settle-keeps : (b : Ledger J) (s : Both R) → Known site.runs holds b s → LeadsOn (settle site now) b s
  settle-keeps b s h = settle-for-keeps (suc (held_bytes s)) b s h (omega arith)
