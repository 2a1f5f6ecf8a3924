-- A connection over a lawful run meets the conditions of a strand that goes by moves.
use Rattle.std.proofs.Common.{◌≡◌, ℕ, zero, suc, ◌+◌, ◌≤◌, Bool, true, false, ◌||◌, List, [], drop, length, Some, None, if◌then◌else◌, refl, sym, ap, ◌∙◌, subst, arith, length-append}
use Rattle.std.specs.Prelude.{nat_lt}
use Rattle.strand_contract.specs.declared.turns.Place.{Place}
use Rattle.strand_contract.specs.declared.turns.Place.TheVariants as place
use Rattle.strand_contract.specs.declared.turns.Start.TheVariants as start
use Rattle.strand_contract.specs.declared.turns.Answer.{Answer}
use Rattle.strand_contract.specs.declared.turns.Answer.TheVariants as answer
use Rattle.strand_contract.specs.Actions.{Action, LocalAction, Told, Did, Began, Bytes, Ended, Broken, Ready, Dialled, Refused}
use Rattle.strand_contract.specs.Actions.{Put, Later, Lost, Close, Log, Dict, Take, Dial, Keep, Timer, Dropped, Run, Offer, Due, Halted, Gone}
use Rattle.strand_contract.specs.Alone.{IsPrefixOf, is_some_left}
use Rattle.strand_contract.specs.Laws.{is_still}
use Rattle.strand_contract.specs.Calls.{answered}
use Rattle.strand_contract.specs.PrefixLaws.{taken-are}
use Rattle.strand_plans.specs.Questions.{Question, asking_if}
use Rattle.strand_plans.specs.Questions as question
use Rattle.strand_plans.specs.Ledgers.{Ledger, empty_ledger, has, has_number, numbers, is_place, left_at, entered}
use Rattle.strand_plans.specs.Moves.{Move, Done, State, perform}
use Rattle.strand_plans.specs.Moves as move
use Rattle.strand_plans.specs.Plans.{stepped, unborn_state}
use Rattle.strand_plans.specs.Turns.{Comes, IsTaken, IsDue}
use Rattle.strand_plans.specs.Conditions.{IsServed, OnlyWakes, IsPlan}
use Rattle.strand_plans.specs.Conditions as plan
use Rattle.strand_plans.proofs.Served.{performed-kept, send-serves, hang-up-serves, end-serves}
use Rattle.strand_plans.proofs.Forms.{either, only-wakes, ends-life}
use Rattle.run_contract.specs.declared.turns.RunSeen.{RunSeen}
use Rattle.run_contract.specs.declared.turns.RunSeen.TheVariants as seen
use Rattle.run_contract.specs.declared.turns.SockSeen.{SockSeen}
use Rattle.run_contract.specs.declared.turns.SockSeen.TheVariants as at
use Rattle.run_contract.specs.Alike.{AreAlike}
use Rattle.run_contract.specs.Deeds as deeds
use Rattle.run_contract.specs.Deeds.{Turn, Asks, Nothing, IsQuiet, taken, within, ledger_after, ledger_asking}
use Rattle.run_contract.specs.Runs.{waits_at_first}
use Rattle.run_contract.specs.Conditions.{IsBlank, IsRun, MayCome, IsTakenOf, MayComeAt, next_piece, entered_as}
use Rattle.run_contract.specs.StoredLaws.{own-due, not-below}
use Rattle.connection_plan.specs.Clients.{Stage}
use Rattle.connection_plan.specs.Clients as stage
use Rattle.connection_plan.specs.Services.{Service, Both}
use Rattle.connection_plan.specs.Timers.{number_of}
use Rattle.connection_plan.specs.Timers as timer
use Rattle.client_line.specs.Feeding.{Fed, fed}
use Rattle.connection_plan.specs.Turns.{begin_timer, end_timer, finish, asks_then, says, run_turn, tell, lose_at, lose, settle}
use Rattle.connection_plan.specs.Connections.{starts, came_at, ends_at, to_run, is_due, connection_plan}
use Rattle.connection_plan.specs.Connections as turns
use Rattle.connection_plan.specs.Conditions.{Agrees, Knows, MayAsk}
use Rattle.connection_plan.proofs.Alike.{still-alike, AtClient, client-alike, due-alike}
use Rattle.connection_plan.proofs.Lifted.{SameRun, lifted-wakes}
use Rattle.connection_plan.proofs.Steps.{Follows, begins-leads, ends-leads, sends-leads, awaits-leads, turn-leads}
use Rattle.connection_plan.proofs.Stays.{Known, IsAfter, settled-so, within-of, answered-of, within-alike, within-follows, finishes, turn-keeps, told-keeps, done-keeps, lose-keeps, heard-keeps, settle-keeps}

none-some : {A C : Type 0} (x : A) → None ≡ Some x → C
none-some x e = absurd (let g : None ≡ Some x = e in cc)

clash : {C : Type 0} (c : Bool) → c ≡ false → c ≡ true → C
clash c h k = absurd (let e : false ≡ true = sym h ∙ k in cc)

-- ---- bytes that a place took

no-more : (bytes piece : List ℕ) → IsPrefixOf bytes piece → length bytes ≤ length piece
no-more bytes piece h = let e : length bytes + length h.0 ≡ length piece = sym (length-append bytes h.0) ∙ ap length h.1 in omega (arith, e)

pub taken-of : {J : Type 0} (b : Ledger J) (k : ℕ) (bytes : List ℕ) → IsTaken b (place.Sock k) bytes → IsTakenOf b k (length bytes)
taken-of b k bytes h = record { taking = h.taking; some = h.some; piece = no-more bytes (next_piece k b) h.prefix }

blank-run : {J : Type 0} (k : ℕ) (b : Ledger J) → IsBlank b → IsBlank (entered (Did (Run k)) b)
blank-run k b h = record { no_thread = ap (drop 1) h.no_thread; no_deadline = h.no_deadline; no_socket = h.no_socket; none_asked = refl; unused = h.unused }

-- no run goes on
abbrev IsFree : Stage → Type 0
IsFree stage.Busy = ⊥
IsFree st = Unit {0}

served-same : {J : Type 0} (k : ℕ) (b c : Ledger J) → SameRun b c → IsServed (place.Sock k) b → IsServed (place.Sock k) c
served-same k b c x served = λ o l.
    let s = served (x.alike.opened k ∙ o)
    (ap (λ (n : ℕ). is_some_left (drop n (b.sent (place.Sock k)))) (x.alike.taken k) ∙ ap (λ (s : List ℕ). is_some_left (drop (c.taken (place.Sock k)) s)) (x.alike.sent k) ∙ l) in
    sym (ap (λ (p : Bool). p || (has (place.Sock k) b.places || is_place (place.Sock k) b.begun)) (x.alike.put_off k)
    ∙ ap (λ (p : Bool). c.put_off (place.Sock k) || (p || is_place (place.Sock k) b.begun)) (x.places k)
    ∙ ap (λ (p : Bool). c.put_off (place.Sock k) || (has (place.Sock k) c.places || p)) (x.begun k)) ∙ s

unasking : {J : Type 0} (k : ℕ) (a : Asks J) (b : Ledger J) → IsServed (place.Sock k) (ledger_asking a b) → IsServed (place.Sock k) b
unasking k (deeds.Outside x) b h = h
unasking k Nothing b h = h
unasking k (deeds.Within q) b h = h

module _ {J R : Type 0} (site : Service J R) (now : ℕ) (holds : Ledger J → R → Type 0) (run : IsRun site.runs holds) where
  abbrev On : Move J (Both R) → Ledger J → Both R → Type 0
  On m b s = Knows site.runs holds (perform m b s).state

  agrees-alike : (st : Stage) (b c : Ledger J) (r : R) → AreAlike b c → Agrees site.runs holds st b r → Agrees site.runs holds st c r
  agrees-alike st b c r same h = settled-so site.runs holds st c r (within-alike site now holds run st b c r same (within-of site.runs holds st b r h)) (answered-of site.runs holds st b r h)

  agrees-follows : (b c : Ledger J) (s t : Both R) (st : Stage) → Follows b s st c t → Agrees site.runs holds st b s.run → Agrees site.runs holds t.client.stage c t.run
  agrees-follows b c s t st x h =
      subst (λ (st : Stage). Agrees site.runs holds st c t.run) (sym x.stage)
      (agrees-alike st b c t.run x.same.alike (subst (λ (r : R). Agrees site.runs holds st b r) (sym x.run) h))

  -- a turn, and settling after it
  settles : (t : Turn J R) (s : Both R) (c : Ledger J) (u : Both R) → IsAfter site now holds run t s c u → On (settle site now) c u
  settles t s c u x = settle-keeps site now holds run c u x.known

  at-busy : (b : Ledger J) (s : Both R) → s.client.stage ≡ stage.Busy → Agrees site.runs holds s.client.stage b s.run → Agrees site.runs holds stage.Busy b s.run
  at-busy b s e h = subst (λ (st : Stage). Agrees site.runs holds st b s.run) e h

  no-socket : (st : Stage) (b : Ledger J) (r : R) (k : ℕ) → IsFree st → Agrees site.runs holds st b r → has (place.Sock k) b.opened ≡ false
  no-socket stage.Busy b r k free h = absurd free
  no-socket stage.Over b r k free h = h.1 k
  no-socket stage.Idle b r k free h = h.no_socket k
  no-socket stage.Head b r k free h = h.no_socket k
  no-socket stage.Flush b r k free h = h.no_socket k
  no-socket stage.Drop b r k free h = h.no_socket k

  none-asked : (st : Stage) (b : Ledger J) (r : R) → IsFree st → Agrees site.runs holds st b r → b.asked ≡ None
  none-asked stage.Busy b r free h = absurd free
  none-asked stage.Over b r free h = h.0
  none-asked stage.Idle b r free h = h.none_asked
  none-asked stage.Head b r free h = h.none_asked
  none-asked stage.Flush b r free h = h.none_asked
  none-asked stage.Drop b r free h = h.none_asked

  -- where no run goes on, this is so once it is entered
  abbrev Others : RunSeen → Ledger J → R → Type 0
  Others x b r = (st : Stage) → IsFree st → Agrees site.runs holds st b r → Agrees site.runs holds st (entered_as x b) r

  run-keeps : (x : RunSeen) (m : Move J (Both R)) (b : Ledger J) (s : Both R) → Agrees site.runs holds s.client.stage b s.run
      → ((site.runs.waits s.run).asks ≡ None → MayCome site.runs now x b s.run) → (entered_as x b).asked ≡ None
      → Others x b s.run → ((c : Ledger J) (u : Both R) → IsAfter site now holds run (site.runs.turn now x (entered_as x b) s.run) s c u → On m c u)
      → Knows site.runs holds (perform (to_run site now m s.client.stage x) (entered_as x b) s).state
  run-keeps x m b s h may none others keeps = by s.client.stage refl
    where
      done : (st : Stage) → IsFree st → s.client.stage ≡ st → Knows site.runs holds (perform {J = J} {S = Both R} Done (entered_as x b) s).state
      done st free e =
          subst (λ (st : Stage). Agrees site.runs holds st (entered_as x b) s.run) (sym e) (others st free (subst (λ (st : Stage). Agrees site.runs holds st b s.run) e h))

      by : (st : Stage) → s.client.stage ≡ st → Knows site.runs holds (perform (to_run site now m st x) (entered_as x b) s).state
      by stage.Busy e = let k = at-busy b s e h in told-keeps site now holds run x m b s e k.0 (may k.1) none keeps
      by stage.Idle e = done stage.Idle tt e
      by stage.Head e = done stage.Head tt e
      by stage.Flush e = done stage.Flush tt e
      by stage.Drop e = done stage.Drop tt e
      by stage.Over e = done stage.Over tt e

  -- a thread runs
  others-run : (k : ℕ) (b : Ledger J) (r : R) → Others (seen.Run k) b r
  others-run k b r stage.Busy free h = absurd free
  others-run k b r stage.Over free h = (refl, h.1)
  others-run k b r stage.Idle free h = blank-run k b h
  others-run k b r stage.Head free h = blank-run k b h
  others-run k b r stage.Flush free h = blank-run k b h
  others-run k b r stage.Drop free h = blank-run k b h

  -- something comes at a socket, and none is opens where no run goes on
  others-sock : (k : ℕ) (x : SockSeen) (b : Ledger J) (r : R) → has (place.Sock k) b.opened ≡ true → Others (seen.Sock k x) b r
  others-sock k x b r opens st free h = clash (has (place.Sock k) b.opened) (no-socket st b r k free h) opens

  -- a deadline of a run is due
  others-due : (n : ℕ) (b : Ledger J) (r : R) → IsDue now b n → 2 ≤ n → Others (seen.Due n) b r
  others-due n b r x low stage.Busy free h = absurd free
  others-due n b r x low stage.Over free h = (refl, h.1)
  others-due n b r x low stage.Idle free h = absurd (own-due now n x.at b.armed x.first (not-below n low) h.no_deadline)
  others-due n b r x low stage.Head free h = absurd (own-due now n x.at b.armed x.first (not-below n low) h.no_deadline)
  others-due n b r x low stage.Flush free h = absurd (own-due now n x.at b.armed x.first (not-below n low) h.no_deadline)
  others-due n b r x low stage.Drop free h = absurd (own-due now n x.at b.armed x.first (not-below n low) h.no_deadline)

  sock-keeps : (k : ℕ) (x : SockSeen) (b : Ledger J) (s : Both R) → Agrees site.runs holds s.client.stage b s.run → MayComeAt k x b
      → has (place.Sock k) b.opened ≡ true → (entered_as (seen.Sock k x) b).asked ≡ None
      → Knows site.runs holds (perform (to_run site now (settle site now) s.client.stage (seen.Sock k x)) (entered_as (seen.Sock k x) b) s).state
  sock-keeps k x b s h may opens none = run-keeps (seen.Sock k x) (settle site now) b s h (λ a. (may, a)) none (others-sock k x b s.run opens) (settles (site.runs.turn now (seen.Sock k x) (entered_as (seen.Sock k x) b) s.run) s)

  -- the run gets its answer
  answer-keeps : (x : Action J) (given : Answer) (b : Ledger J) (s : Both R) → Agrees site.runs holds s.client.stage b s.run → answered (asking_if b.asked) given ≡ Some x
      → (entered (Did x) b).asked ≡ None → Knows site.runs holds (perform (turns.answered site now s.client.stage x (entered (Did x) b) s) (entered (Did x) b) s).state
  answer-keeps x given b s h e none = by s.client.stage refl
    where
      free : (C : Type 0) (st : Stage) → IsFree st → s.client.stage ≡ st → C
      free C st f at = none-some x (sym (ap (λ o. answered (asking_if o) given) (none-asked st b s.run f (subst (λ (st : Stage). Agrees site.runs holds st b s.run) at h))) ∙ e)

      by : (st : Stage) → s.client.stage ≡ st → Knows site.runs holds (perform (turns.answered site now st x (entered (Did x) b) s) (entered (Did x) b) s).state
      by stage.Busy at =
          turn-keeps site now holds run (site.runs.answered now x (entered (Did x) b) s.run) (settle site now) (site.runs.waits s.run) (entered (Did x) b) s at
          (run.answers now x given b s.run (at-busy b s at h).0 e) none (settles (site.runs.answered now x (entered (Did x) b) s.run) s)
      by stage.Idle at = free _ stage.Idle tt at
      by stage.Head at = free _ stage.Head tt at
      by stage.Flush at = free _ stage.Flush tt at
      by stage.Drop at = free _ stage.Drop tt at
      by stage.Over at = free _ stage.Over tt at

  -- something comes at the client's place
  at-client : (x : Action J) (st : State J (Both R)) → AtClient x → Knows site.runs holds st → st.ledger.asked ≡ None
      → Agrees site.runs holds st.inner.client.stage (entered (Did x) st.ledger) st.inner.run × ((entered (Did x) st.ledger).asked ≡ None)
  at-client x st at h none =
      let same = client-alike x st.ledger at none in
      (agrees-alike st.inner.client.stage st.ledger (entered (Did x) st.ledger) st.inner.run same h, sym same.asked ∙ none)

  known-of : (b : Ledger J) (s : Both R) → Agrees site.runs holds s.client.stage b s.run → b.asked ≡ None → Known site.runs holds b s
  known-of b s h none = (within-of site.runs holds s.client.stage b s.run h, none)

  loses : (b : Ledger J) (s : Both R) → Agrees site.runs holds s.client.stage b s.run → b.asked ≡ None → On (lose site now) b s
  loses b s h none = lose-keeps site now holds run b s (known-of b s h none) (answered-of site.runs holds s.client.stage b s.run h)

  came-keeps : (f : Fed) (b : Ledger J) (s : Both R) → Agrees site.runs holds s.client.stage b s.run → b.asked ≡ None → Knows site.runs holds (perform (came_at site now s.client.stage f s) b s).state
  came-keeps f b s h none = by s.client.stage refl
    where
      here : (st : Stage) → s.client.stage ≡ st → Agrees site.runs holds st b s.run
      here st e = subst (λ (st : Stage). Agrees site.runs holds st b s.run) e h

      by : (st : Stage) → s.client.stage ≡ st → Knows site.runs holds (perform (came_at site now st f s) b s).state
      by stage.Busy e = let t = record s { client = record s.client { came = f.after } } in
          awaits-leads site now (Knows site.runs holds) (settle site now) b t
          (λ c u x. settle-keeps site now holds run c u (within-follows site now holds run b c t u s.client.stage x (within-of site.runs holds s.client.stage b s.run h), sym x.same.alike.asked ∙ none))
      by stage.Head e = heard-keeps site now holds run false (settle site now) s.client.ended f b s h (here stage.Head e) (λ head target a c u k came. settle-keeps site now holds run c u k)
      by stage.Idle e = heard-keeps site now holds run true (settle site now) s.client.ended f b s h (here stage.Idle e) (λ head target a c u k came. settle-keeps site now holds run c u k)
      by stage.Drop e = heard-keeps site now holds run true (settle site now) s.client.ended f b s h (here stage.Drop e) (λ head target a c u k came. settle-keeps site now holds run c u k)
      by stage.Flush e = h
      by stage.Over e = h

  ends-keeps : (b : Ledger J) (s : Both R) → Agrees site.runs holds s.client.stage b s.run → b.asked ≡ None → Knows site.runs holds (perform (ends_at site now s.client.stage s) b s).state
  ends-keeps b s h none = by s.client.stage refl
    where
      t : Both R
      t = record s { client = record s.client { ended = true } }

      told : s.client.stage ≡ stage.Busy → (w : Bool) → (site.runs.waits s.run).client ≡ w → On (if w then tell site now seen.ClientEnded (settle site now) else settle site now) b t
      told e true w = let k = at-busy b s e h in
          told-keeps site now holds run seen.ClientEnded (settle site now) b t e k.0 (record { outside = none; within = k.1 }, w) none (settles (site.runs.turn now seen.ClientEnded b s.run) t)
      told e false w = settle-keeps site now holds run b t (known-of b t h none)

      by : (st : Stage) → s.client.stage ≡ st → Knows site.runs holds (perform (ends_at site now st s) b s).state
      by stage.Busy e = told e (site.runs.waits s.run).client refl
      by stage.Flush e = h
      by stage.Idle e = finishes site now holds run b s none
      by stage.Head e = finishes site now holds run b s none
      by stage.Drop e = finishes site now holds run b s none
      by stage.Over e = finishes site now holds run b s none

  own-timer : (n : ℕ) → nat_lt n 2 ≡ true → (b : Ledger J) (s : Both R) → Agrees site.runs holds s.client.stage b s.run → IsDue now b n
      → Knows site.runs holds (perform (lose site now) (entered (Did (Due n)) b) s).state
  own-timer n own b s h x =
      let same = due-alike n b own x.none_asked in
      loses (entered (Did (Due n)) b) s (agrees-alike s.client.stage b (entered (Did (Due n)) b) s.run same h) refl

  due-keeps : (n : ℕ) (b : Ledger J) (s : Both R) → Agrees site.runs holds s.client.stage b s.run → IsDue now b n
      → Knows site.runs holds (perform (is_due site now s.client.stage n) (entered (Did (Due n)) b) s).state
  due-keeps zero b s h x = own-timer 0 refl b s h x
  due-keeps (suc zero) b s h x = own-timer 1 refl b s h x
  due-keeps (suc (suc n)) b s h x =
      let low : 2 ≤ suc (suc n) = omega arith in
      let t = site.runs.turn now (seen.Due (suc (suc n))) (entered_as (seen.Due (suc (suc n))) b) s.run in
      run-keeps (seen.Due (suc (suc n))) Done b s h (λ a. (x, low, a)) refl (others-due (suc (suc n)) b s.run x low)
      (done-keeps site now holds run t s (ap within (run.due now (suc (suc n)) (entered_as (seen.Due (suc (suc n))) b) s.run).1))

  ready-keeps : (b : Ledger J) (s : Both R) → Agrees site.runs holds s.client.stage b s.run → Knows site.runs holds (perform (end_timer site now timer.Send (move.Send place.Client [] Done)) b s).state
  ready-keeps b s h = ends-leads site now (Knows site.runs holds) timer.Send (move.Send place.Client [] Done) b s
      (λ c t x. sends-leads site now (Knows site.runs holds) [] Done c t
      (λ d u y. agrees-follows c d t u t.client.stage y (agrees-follows b c s t s.client.stage x h)))

  later-keeps : (b : Ledger J) (s : Both R) → Agrees site.runs holds s.client.stage b s.run → Knows site.runs holds (perform (begin_timer site now timer.Send Done) b s).state
  later-keeps b s h = begins-leads site now (Knows site.runs holds) timer.Send Done b s (λ c t x. agrees-follows b c s t s.client.stage x h)

  client-begins : (begun c : ℕ) (st : State J (Both R)) → st ≡ unborn_state (connection_plan site)
      → Knows site.runs holds (stepped (connection_plan site) now (Did (Began begun (start.Client c))) st).state
  client-begins begun c st e = subst (λ (st : State J (Both R)). Knows site.runs holds (stepped (connection_plan site) now (Did (Began begun (start.Client c))) st).state) (sym e)
      (begins-leads site now (Knows site.runs holds) timer.Header Done b s (λ d t x. agrees-follows b d s t stage.Head x blank))
    where
      b : Ledger J
      b = entered (Did (Began begun (start.Client c))) empty_ledger

      s : Both R
      s = (unborn_state (connection_plan site)).inner

      blank : IsBlank (entered {J = J} (Did (Began begun (start.Client c))) empty_ledger)
      blank = record { no_thread = refl; no_deadline = refl; no_socket = λ k. refl; none_asked = refl; unused = λ k low. (refl, refl, refl) }

  job-begins : (begun n : ℕ) (premature : Bool) (job : J) (st : State J (Both R)) → st ≡ unborn_state (connection_plan site)
      → Knows site.runs holds (stepped (connection_plan site) now (Did (Began begun (start.Job n premature job))) st).state
  job-begins begun n premature job st e = subst (λ (st : State J (Both R)). Knows site.runs holds (stepped (connection_plan site) now (Did (Began begun (start.Job n premature job))) st).state) (sym e)
      (turn-keeps site now holds run (site.runs.begun_job now premature job b) Done (waits_at_first false) b s refl
      (run.begins_job now premature job b blank) refl (done-keeps site now holds run (site.runs.begun_job now premature job b) s (ap within (run.job now premature job b).1)))
    where
      b : Ledger J
      b = entered (Did (Began begun (start.Job n premature job))) empty_ledger

      s : Both R
      s = record (unborn_state (connection_plan site)).inner { client = record (unborn_state (connection_plan site)).inner.client { stage = stage.Busy } }

      blank : IsBlank (entered (Did (Began begun (start.Job n premature job))) empty_ledger)
      blank = record { no_thread = refl; no_deadline = refl; no_socket = λ k. refl; none_asked = refl; unused = λ k low. (refl, refl, refl) }

  -- what is no turn leaves it as it is
  still : (a : LocalAction J) (st : State J (Both R)) → is_still a ≡ true → Knows site.runs holds st → Agrees site.runs holds st.inner.client.stage (entered a st.ledger) st.inner.run
  still a st e h = agrees-alike st.inner.client.stage st.ledger (entered a st.ledger) st.inner.run (still-alike a st.ledger e) h

  stays : (a : LocalAction J) (st : State J (Both R)) → Knows site.runs holds st → Comes (connection_plan site) now a st → Knows site.runs holds (stepped (connection_plan site) now a st).state
  stays (Did (Began begun (start.Client c))) st h comes = client-begins begun c st comes
  stays (Did (Began begun (start.Job n premature job))) st h comes = job-begins begun n premature job st comes
  stays (Did (Bytes place.Client bytes)) st h comes = let k = at-client (Bytes place.Client bytes) st tt h comes.0.free.none_asked in came-keeps (fed st.inner.client.came bytes) _ st.inner k.0 k.1
  stays (Did (Ended place.Client)) st h comes = let k = at-client (Ended place.Client) st tt h comes.free.none_asked in ends-keeps _ st.inner k.0 k.1
  stays (Did (Broken place.Client)) st h comes = let k = at-client (Broken place.Client) st tt h comes.free.none_asked in loses _ st.inner k.0 k.1
  stays (Did (Ready place.Client)) st h comes = let k = at-client (Ready place.Client) st tt h comes.free.none_asked in ready-keeps _ st.inner k.0
  stays (Did (Put place.Client bytes)) st h comes = let k = at-client (Put place.Client bytes) st tt h comes.taking.none_asked in settle-keeps site now holds run _ st.inner (known-of _ st.inner k.0 k.1)
  stays (Did (Later place.Client)) st h comes = let k = at-client (Later place.Client) st tt h comes.none_asked in later-keeps _ st.inner k.0
  stays (Did (Lost place.Client)) st h comes = let k = at-client (Lost place.Client) st tt h comes.none_asked in loses _ st.inner k.0 k.1
  stays (Did (Bytes (place.Sock k) bytes)) st h comes = sock-keeps k (at.Bytes bytes) st.ledger st.inner h comes comes.0.opened refl
  stays (Did (Ended (place.Sock k))) st h comes = sock-keeps k at.Ended st.ledger st.inner h comes comes.opened refl
  stays (Did (Broken (place.Sock k))) st h comes = sock-keeps k at.Broken st.ledger st.inner h comes comes.opened refl
  stays (Did (Ready (place.Sock k))) st h comes = sock-keeps k at.Ready st.ledger st.inner h comes comes.opened refl
  stays (Did (Put (place.Sock k) bytes)) st h comes =
      subst (λ (xs : List ℕ). Knows site.runs holds (perform (to_run site now (settle site now) st.inner.client.stage (seen.Sock k (at.Took (length bytes)))) (entered (Did (Put (place.Sock k) xs)) st.ledger) st.inner).state)
      (taken-are bytes (left_at (place.Sock k) st.ledger) _ comes.prefix)
      (sock-keeps k (at.Took (length bytes)) st.ledger st.inner h (taken-of st.ledger k bytes comes) comes.taking.opened refl)
  stays (Did (Later (place.Sock k))) st h comes = sock-keeps k at.Later st.ledger st.inner h comes comes.opened refl
  stays (Did (Lost (place.Sock k))) st h comes = sock-keeps k at.Lost st.ledger st.inner h comes comes.opened refl
  stays (Did (Dialled k)) st h comes = sock-keeps k at.Dialled st.ledger st.inner h comes comes.opened refl
  stays (Did (Refused k)) st h comes = sock-keeps k at.Refused st.ledger st.inner h comes comes.opened refl
  stays (Did (Dict zone call given)) st h comes = answer-keeps (Dict zone call given) (answer.Dict given) st.ledger st.inner h (ap (λ o. answered (asking_if o) (answer.Dict given)) comes.0) refl
  stays (Did (Take key uses)) st h comes = answer-keeps (Take key uses) (answer.Took uses) st.ledger st.inner h (ap (λ o. answered (asking_if o) (answer.Took uses)) comes) refl
  stays (Did (Dial host port done)) st h comes = answer-keeps (Dial host port done) (answer.Dialled done) st.ledger st.inner h (ap (λ o. answered (asking_if o) (answer.Dialled done)) comes) refl
  stays (Did (Keep k key idle size)) st h comes = answer-keeps (Keep k key idle size) answer.Kept st.ledger st.inner h (ap (λ o. answered (asking_if o) answer.Kept) comes.0) refl
  stays (Did (Timer at given)) st h comes = answer-keeps (Timer at given) (answer.Timer given) st.ledger st.inner h (ap (λ o. answered (asking_if o) (answer.Timer given)) comes.1) refl
  stays (Did (Run k)) st h comes = run-keeps (seen.Run k) (settle site now) st.ledger st.inner h (λ a. (comes.0, record { outside = comes.1; within = a })) refl (others-run k st.ledger st.inner.run)
      (settles (site.runs.turn now (seen.Run k) (entered_as (seen.Run k) st.ledger) st.inner.run) st.inner)
  stays (Did (Due n)) st h comes = due-keeps n st.ledger st.inner h comes
  stays (Did Halted) st h comes = finishes site now holds run (entered (Did Halted) st.ledger) st.inner refl
  stays (Told w) st h comes = still (Told w) st refl h
  stays (Did (Close q)) st h comes = still (Did (Close q)) st refl h
  stays (Did (Log line done)) st h comes = still (Did (Log line done)) st refl h
  stays (Did (Offer q)) st h comes = still (Did (Offer q)) st refl h
  stays (Did Gone) st h comes = still (Did Gone) st refl h
  stays (Did Dropped) st h comes = still (Did Dropped) st refl h

  -- ---- places are served

  lose-serves : (b : Ledger J) (s : Both R) → IsServed place.Client (perform (lose site now) b s).state.ledger
  lose-serves b s = by s.client.stage
    where
      by : (st : Stage) → IsServed place.Client (perform (lose_at site now st s) b s).state.ledger
      by stage.Busy = hang-up-serves {S = Both R} place.Client
          (end_timer site now timer.Body (end_timer site now timer.Send (if (site.runs.waits s.run).client then tell site now seen.ClientGone Done else Done))) b s
      by stage.Idle = end-serves {S = Both R} place.Client b s
      by stage.Head = end-serves {S = Both R} place.Client b s
      by stage.Flush = end-serves {S = Both R} place.Client b s
      by stage.Drop = end-serves {S = Both R} place.Client b s
      by stage.Over = end-serves {S = Both R} place.Client b s

  ready-serves : (b : Ledger J) (s : Both R) → IsServed place.Client (perform (end_timer site now timer.Send (move.Send place.Client [] Done)) b s).state.ledger
  ready-serves b s = ends-leads site now (λ st. IsServed place.Client st.ledger) timer.Send (move.Send place.Client [] Done) b s
      (λ c t x. send-serves {S = Both R} place.Client [] Done c t)

  sock-serves : (k : ℕ) (x : SockSeen) (c : Ledger J) (s : Both R) → ((st : Stage) → IsFree st → s.client.stage ≡ st → has (place.Sock k) c.opened ≡ false)
      → (s.client.stage ≡ stage.Busy → let t = site.runs.turn now (seen.Sock k x) c s.run in IsServed (place.Sock k) (taken t c).ledger)
      → IsServed (place.Sock k) (perform (to_run site now (settle site now) s.client.stage (seen.Sock k x)) c s).state.ledger
  sock-serves k x c s shut served = by s.client.stage refl
    where
      q : Place
      q = place.Sock k

      free : (st : Stage) → IsFree st → s.client.stage ≡ st → IsServed (place.Sock k) c
      free st f e = λ o l. clash (has (place.Sock k) c.opened) (shut st f e) o

      by : (st : Stage) → s.client.stage ≡ st → IsServed (place.Sock k) (perform (to_run site now (settle site now) st (seen.Sock k x)) c s).state.ledger
      by stage.Busy e =
          let t = site.runs.turn now (seen.Sock k x) c s.run in
          turn-leads site now (λ st. IsServed (place.Sock k) st.ledger) t (settle site now) c s
          (λ d u y r st came. performed-kept {S = Both R} (place.Sock k) (asks_then site now t.asks (settle site now)) d u
          (served-same k (ledger_after t.does c) d y (unasking k t.asks (ledger_after t.does c) (served e))))
      by stage.Idle e = free stage.Idle tt e
      by stage.Head e = free stage.Head tt e
      by stage.Flush e = free stage.Flush tt e
      by stage.Drop e = free stage.Drop tt e
      by stage.Over e = free stage.Over tt e

  no-socket-of : (b : Ledger J) (s : Both R) (k : ℕ) → Agrees site.runs holds s.client.stage b s.run → (st : Stage) → IsFree st → s.client.stage ≡ st → has (place.Sock k) b.opened ≡ false
  no-socket-of b s k h st f e = no-socket st b s.run k f (subst (λ (st : Stage). Agrees site.runs holds st b s.run) e h)

  lost : (q : Place) (st : State J (Both R)) → Knows site.runs holds st → Comes (connection_plan site) now (Did (Lost q)) st
      → IsServed q (stepped (connection_plan site) now (Did (Lost q)) st).state.ledger
  lost place.Client st h comes = lose-serves (entered (Did (Lost place.Client)) st.ledger) st.inner
  lost (place.Sock k) st h comes = sock-serves k at.Lost (entered (Did (Lost (place.Sock k))) st.ledger) st.inner (no-socket-of st.ledger st.inner k h)
      (λ e. let h = at-busy st.ledger st.inner e h in run.lost now k st.ledger st.inner.run h.0 (comes, h.1))

  again : (q : Place) (st : State J (Both R)) → Knows site.runs holds st → Comes (connection_plan site) now (Did (Ready q)) st
      → IsServed q (stepped (connection_plan site) now (Did (Ready q)) st).state.ledger
  again place.Client st h comes = ready-serves (entered (Did (Ready place.Client)) st.ledger) st.inner
  again (place.Sock k) st h comes = sock-serves k at.Ready (entered (Did (Ready (place.Sock k))) st.ledger) st.inner (no-socket-of st.ledger st.inner k h)
      (λ e. let h = at-busy st.ledger st.inner e h in run.again now k st.ledger st.inner.run h.0 (comes, h.1))

  -- ---- what only wakes

  quiet-wakes : (t : Turn J R) → IsQuiet t → OnlyWakes (run_turn site now t Done)
  quiet-wakes t q = lifted-wakes (says site now) t.does (asks_then site now t.asks Done) q.0 (subst (λ (a : Asks J). OnlyWakes (asks_then {J = J} {R = R} site now a Done)) (sym q.1) tt)

  end-wakes : (t : timer.Timer) (m : Move J (Both R)) → OnlyWakes m → OnlyWakes (end_timer site now t m)
  end-wakes t m h = λ b s. either OnlyWakes (has_number (number_of t) (numbers b.armed)) (move.Cancel (number_of t) m) m h h

  lose-wakes : (st : Stage) (s : Both R) → OnlyWakes (lose_at site now st s)
  lose-wakes stage.Busy s =
      let told = if (site.runs.waits s.run).client then tell site now seen.ClientGone Done else Done in
      end-wakes timer.Body (end_timer site now timer.Send told) (end-wakes timer.Send told
      (either OnlyWakes (site.runs.waits s.run).client (tell site now seen.ClientGone Done) Done (λ b s. quiet-wakes (site.runs.turn now seen.ClientGone b s.run) (run.gone now b s.run)) tt))
  lose-wakes stage.Idle s = tt
  lose-wakes stage.Head s = tt
  lose-wakes stage.Flush s = tt
  lose-wakes stage.Drop s = tt
  lose-wakes stage.Over s = tt

  due-wakes : (st : Stage) (n : ℕ) → OnlyWakes (is_due site now st n)
  due-wakes st zero = λ b s. lose-wakes s.client.stage s
  due-wakes st (suc zero) = λ b s. lose-wakes s.client.stage s
  due-wakes stage.Busy (suc (suc n)) = λ b s. quiet-wakes (site.runs.turn now (seen.Due (suc (suc n))) b s.run) (run.due now (suc (suc n)) b s.run)
  due-wakes stage.Idle (suc (suc n)) = tt
  due-wakes stage.Head (suc (suc n)) = tt
  due-wakes stage.Flush (suc (suc n)) = tt
  due-wakes stage.Drop (suc (suc n)) = tt
  due-wakes stage.Over (suc (suc n)) = tt

  asks : (st : State J (Both R)) (x : Question J) → Knows site.runs holds st → st.ledger.asked ≡ Some x → MayAsk site x
  asks st x h e = by st.inner.client.stage refl
    where
      none : (st' : Stage) → IsFree st' → st.inner.client.stage ≡ st' → MayAsk site x
      none st' f at = none-some x (sym (none-asked st' st.ledger st.inner.run f (subst (λ (st' : Stage). Agrees site.runs holds st' st.ledger st.inner.run) at h)) ∙ e)

      by : (st' : Stage) → st.inner.client.stage ≡ st' → MayAsk site x
      by stage.Busy at = run.asks st.ledger st.inner.run x (at-busy st.ledger st.inner at h).0 e
      by stage.Idle at = none stage.Idle tt at
      by stage.Head at = none stage.Head tt at
      by stage.Flush at = none stage.Flush tt at
      by stage.Drop at = none stage.Drop tt at
      by stage.Over at = none stage.Over tt at

  fits : (x : Question J) → MayAsk site x → plan.Fits (connection_plan site) x
  fits (question.Dict zone call) h = h
  fits (question.Take key) h = h
  fits (question.Dial host port) h = h
  fits (question.Keep k key idle size) h = h
  fits (question.Timer at job) h = h

pub meets : {J R : Type 0} (site : Service J R) (holds : Ledger J → R → Type 0) → IsRun site.runs holds → IsPlan (connection_plan site) (Knows site.runs holds) (MayAsk site)
meets {J} {R} site holds run = record {
  begins = record { no_thread = refl; no_deadline = refl; no_socket = λ k. refl; none_asked = refl; unused = λ k low. (refl, refl, refl) };
  stays = λ now a st h comes. stays site now holds run a st h comes;
  lost = λ now q st h comes. lost site now holds run q st h comes;
  again = λ now q st h comes. again site now holds run q st h comes;
  asks = λ st x h e. asks site 0 holds run st x h e;
  fits = λ x h. fits site 0 holds run x h;
  due = λ now n st h comes. only-wakes {S = Both R} (is_due site now st.inner.client.stage n) (entered (Did (Due n)) st.ledger) st.inner (due-wakes site now holds run st.inner.client.stage n);
  job = λ now at n premature job.
      let b = entered (Did (Began at (start.Job n premature job))) empty_ledger in
      only-wakes {S = Both R} (starts site now (Did (Began at (start.Job n premature job))) b) b (unborn_state (connection_plan site)).inner
      (quiet-wakes site now holds run (site.runs.begun_job now premature job b) (run.job now premature job b));
  ends = λ now st h. ends-life {S = Both R} (finish) (entered (Did Halted) st.ledger) st.inner tt;
}
