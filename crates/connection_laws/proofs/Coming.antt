-- Whatever comes to a connection, every reply stays its run's own.
use Rattle.std.proofs.Common.{◌≡◌, ℕ, zero, suc, ◌≤◌, Bool, true, false, ◌&&◌, ◌||◌, List, [], ◌∷◌, ◌++◌, length, Some, None, if◌then◌else◌, inl, inr, refl, sym, ap, ◌∙◌, subst, arith, append-nil}
use Rattle.client_line.specs.declared.requests.LineOut.TheVariants as out
use Rattle.client_line.specs.Lines.{settled, done}
use Rattle.client_line.specs.Feeding.{Fed, fed}
use Rattle.connection_plan.proofs.Bodies.{fed-in-step}
use Rattle.connection_plan.specs.InStep.{IsInStep}
use Rattle.connection_plan.specs.Asked.{bytes_of}
use Rattle.strand_contract.specs.declared.turns.Place.TheVariants as place
use Rattle.strand_contract.specs.declared.turns.Start.{Start}
use Rattle.strand_contract.specs.declared.turns.Start.TheVariants as start
use Rattle.strand_contract.specs.declared.turns.Answer.{Answer}
use Rattle.strand_contract.specs.declared.turns.Answer.TheVariants as answer
use Rattle.strand_contract.specs.Actions.{Action, LocalAction, Told, Did, Began, Bytes, Ended, Broken, Ready, Dialled, Refused}
use Rattle.strand_contract.specs.Actions.{Put, Later, Lost, Close, Log, Dict, Take, Dial, Keep, Timer, Dropped, Run, Offer, Due, Halted, Gone}
use Rattle.strand_contract.specs.Alone.{moment, socket_count}
use Rattle.strand_contract.specs.Calls.{answered}
use Rattle.strand_contract.specs.PrefixLaws.{taken-are}
use Rattle.strand_plans.specs.Questions.{asking_if}
use Rattle.strand_plans.specs.Ledgers.{Ledger, left_at, empty_ledger, entered}
use Rattle.strand_plans.specs.Moves.{Move, Done, Cancel, HangUp, State, with_sent, with_offer, with_deadline, without_deadline, hung_up}
use Rattle.strand_plans.specs.Moves as move
use Rattle.strand_plans.specs.Plans.{move_of, unborn_state}
use Rattle.strand_plans.specs.Turns.{Comes, IsDue}
use Rattle.strand_plans.proofs.Places.{has-without, has-append}
use Rattle.run_contract.specs.declared.turns.RunSeen.{RunSeen}
use Rattle.run_contract.specs.declared.turns.RunSeen.TheVariants as seen
use Rattle.run_contract.specs.declared.turns.SockSeen.{SockSeen}
use Rattle.run_contract.specs.declared.turns.SockSeen.TheVariants as at
use Rattle.run_contract.specs.declared.turns.Said.{Said}
use Rattle.run_contract.specs.Runs.{waits_at_first}
use Rattle.run_contract.specs.Alike.{AreAlike}
use Rattle.http_in.specs.declared.heads.Head.{Head}
use Rattle.run_contract.specs.Conditions.{IsBlank, IsRun, MayCome, MayComeAt, asks_body, entered_as}
use Rattle.run_contract.specs.StoredLaws.{not-below}
use Rattle.connection_plan.specs.Clients.{Stage, Client, Exchange, exchange, with_more, with_request, with_refusal, closes_after}
use Rattle.connection_plan.specs.Clients as stage
use Rattle.connection_plan.specs.Services.{Service, Both}
use Rattle.connection_plan.specs.Timers.{number_of, time_of, later}
use Rattle.connection_plan.specs.Timers as timer
use Rattle.connection_plan.specs.Turns.{is_there, await_body, wait_more, waits_of, may_come, lose, tell, begin, heard, settle}
use Rattle.connection_plan.specs.Connections.{came_at, ends_at, to_run, is_due, connection_plan, connection_behavior}
use Rattle.connection_plan.specs.Connections as turns
use Rattle.connection_plan.specs.Conditions.{AgreesWithin, Agrees, Knows}
use Rattle.connection_plan.proofs.Alike.{alike-refl, sent-alike, client-alike, due-alike, still-alike, AtClient}
use Rattle.connection_plan.proofs.Meets.{taken-of}
use Rattle.connection_plan.proofs.Stays.{within-alike, within-of, answered-of, settled-so}
use Rattle.connection_laws.specs.Own.{SameOwn, MindsItsOwn}
use Rattle.connection_laws.specs.Alone.{Alone, News, Seen, Given, begins_job, learned, own_ledger}
use Rattle.connection_laws.specs.Replies.{told_by, IsToldBy, IsAnsweredBy, IsNews, IsJobNews, IsUpTo, has_client}
use Rattle.connection_laws.proofs.Leaving.{Left, here_at, left}
use Rattle.connection_laws.proofs.Places.{Placed, BodyAt, body-kept, settled-placed, fed-body, fed-kept, fed-placed}
use Rattle.connection_laws.proofs.Owns.{blank-same, run-same, due-same, bytes-same, ended-same, broken-same, dialled-same, refused-same, ready-same, later-same, lost-same, took-same, dial-same, take-same, keep-same, dict-same, timer-same}
use Rattle.connection_laws.proofs.Saying.{left-of}
use Rattle.connection_laws.proofs.Good.{starts_job, LineAt, Wholes, Logged, Origin, Request, Job, Goes, Good, good-busy, good-alike}
use Rattle.connection_laws.proofs.Going.{Counted, Fine, Takes, turn-good, LearnsOf, Learns, tell-good, answer-good}
use Rattle.connection_laws.proofs.Replying.{IsIdle, not-busy, idle-at, finish-good, ends-good, begins-good, lose-fine, heard-good, within-so, waits-good, read-good, settle-fine, done-fine}

-- the bytes that an action brings of the client
abbrev pub came_by : {J : Type 0} → LocalAction J → List ℕ
came_by (Did (Bytes place.Client bytes)) = bytes
came_by a = []

-- it is a beginning
abbrev pub is_first : {J : Type 0} → LocalAction J → Bool
is_first (Did (Began now begin)) = true
is_first a = false

-- the action is the newest
pub record IsNewest {J : Type 0} (es : List (LocalAction J)) (a : LocalAction J) : Type 0 where
  pub earlier : List (LocalAction J)
  pub is : a ∷ earlier ≡ es

newest-tells : {J : Type 0} (es : List (LocalAction J)) (a : LocalAction J) (s : RunSeen) → IsNewest es a → told_by a ≡ Some s → IsToldBy es s
newest-tells es a s h e = subst (λ xs. IsToldBy xs s) h.is e

newest-answers : {J : Type 0} (es : List (LocalAction J)) (x : Action J) → IsNewest es (Did x) → IsAnsweredBy es x
newest-answers es x h = subst (λ xs. IsAnsweredBy xs x) h.is refl

pub bytes-come : {J : Type 0} (a : LocalAction J) (es : List (LocalAction J)) → bytes_of (a ∷ es) ≡ bytes_of es ++ came_by a
bytes-come (Did (Bytes place.Client bytes)) es = refl
bytes-come a es = sym (append-nil (bytes_of es))

-- This is the newest action of an execution, and with it these happened.
module _ {J R : Type 0} (site : Service J R) (now : ℕ) (es : List (LocalAction J)) (holds : Ledger J → R → Type 0) (run : IsRun site.runs holds) (minds : MindsItsOwn site.runs)
    (moment_is : moment es ≡ now) where
  abbrev Sound : Left J (Both R) → Type 0
  Sound x = Good site es (bytes_of es) x

  -- it is known, no question waits, and there were so many sockets as the execution tells
  abbrev Counts : Ledger J → Both R → Type 0
  Counts b s = Counted site now es (bytes_of es) holds run b s

  abbrev AllWhole : List Exchange → List (List ℕ) → Type 0
  AllWhole xs ls = Wholes site es (bytes_of es) xs ls

  abbrev Keeps : Move J (Both R) → Type 0
  Keeps m = Fine site now es (bytes_of es) holds run m

  -- what it learns did happen
  abbrev Learned : News J → Ledger J → Both R → List (List ℕ) → Type 0
  Learned n b s ls = Learns site now es (bytes_of es) holds run minds n (here_at b s ls)

  -- what happened is news of any run, of a client that is told so only while it is there
  any-news : (n : News J) (b : Ledger J) (s : Both R) (ls : List (List ℕ)) → ((older : List Exchange) (head : Head) → IsNews older head es n) → has_client (n ∷ []) ≡ true
      → (is_there b ≡ false → IsJobNews es n) → Learned n b s ls
  any-news n b s ls is has job g = of g.first g.news (learned site.runs g.first g.news).said (learned site.runs g.first g.news).logged g.of
    where
      of : (first : Alone J R) (news : List (News J)) (words : List Said) (logs : List (List ℕ)) (o : Origin site es (bytes_of es) first news words logs (site.runs.waits s.run).client (here_at b s ls))
          → LearnsOf site now es (bytes_of es) holds run minds n o
      of first news words logs (Request q) = (is q.older q.beginning.head, λ l. has)
      of first news words logs (Job j) = job j.gone

  -- ---- what comes to the strand

  -- a run that goes on has its answer
  has-answer : (b : Ledger J) (s : Both R) → Agrees site.runs holds s.client.stage b s.run → s.client.stage ≡ stage.Busy → (site.runs.waits s.run).asks ≡ None
  has-answer b s h e = (subst (λ (st : Stage). Agrees site.runs holds st b s.run) e h).1

  busy-holds : (b : Ledger J) (s : Both R) → Agrees site.runs holds s.client.stage b s.run → s.client.stage ≡ stage.Busy → holds b s.run
  busy-holds b s h e = (subst (λ (st : Stage). Agrees site.runs holds st b s.run) e h).0

  -- what the client sends is waited for, and it may be let send it
  await-good : (b : Ledger J) (s : Both R) (ls : List (List ℕ)) → s.client.stage ≡ stage.Busy → Counts b s → Sound (here_at b s ls)
      → Sound (left (await_body site now (settle site now)) b s ls)
  await-good b s ls at k h = by ((waits_of site now s).body && may_come site now b s.client) refl
    where
      by : (c : Bool) → ((waits_of site now s).body && may_come site now b s.client) ≡ c → Sound (left (if c then wait_more site now s.client (settle site now) else settle site now) b s ls)
      by true e = (waits-good site now es holds run minds moment_is)
          (s.run, ap (λ (c : Bool). c || asks_body (site.runs.waits s.run).asks) (left-of (waits_of site now s).body (may_come site now b s.client) e))
          b s ls (settle site now) at h
          (λ d t x good. (settle-fine site now es holds run minds moment_is) d t ls ((within-so site now es holds run minds moment_is) b d s t x.same.alike x.run x.stage k) good)
      by false e = (settle-fine site now es holds run minds moment_is) b s ls k h

  -- a piece comes, with which these bytes came in all
  came-at-good : (before piece : List ℕ) → bytes_of es ≡ before ++ piece → (b : Ledger J) (s : Both R) (ls : List (List ℕ)) → Counts b s → is_there b ≡ true → Good site es before (here_at b s ls)
      → Sound (left (came_at site now s.client.stage (fed s.client.came piece) s) b s ls)
  came-at-good before piece all b s ls k there h = by s.client.stage refl
    where
      f : Fed
      f = fed s.client.came piece

      t : Both R
      t = record s { client = record s.client { came = f.after } }

      here_now : (st : Stage) → s.client.stage ≡ st → LineAt site es before st s.client ls
      here_now st e = subst (λ (st : Stage). LineAt site es before st s.client ls) e (h.line there)

      -- lines that were logged don't depend on bytes
      logs : Logged site es (bytes_of es) s.client.exchanges ls
      logs = subst (λ (bs : List ℕ). Logged site es bs s.client.exchanges ls) (sym all) (logs-on h.logged)
        where
          logs-on : Logged site es before s.client.exchanges ls → Logged site es (before ++ piece) s.client.exchanges ls
          logs-on x = elim x [
            | inl o ↦ inl o
            | inr j ↦ inr (record { began = j.began; number = j.number; premature = j.premature; job = j.job; starts = j.starts; news = j.news; learned_them = j.learned_them; logged = j.logged })
          ]

      heard-so : (anew : Bool) → (anew ≡ false → s.client.stage ≡ stage.Head) → IsBlank b → IsInStep s.client.came.at × Placed before s.client.exchanges s.client.came × (Unit {0} → AllWhole s.client.exchanges ls)
          → Sound (left (heard site now anew (settle site now) s.client.ended f) b s ls)
      heard-so anew at_head blank line =
          (heard-good site now es holds run minds moment_is) anew (settle site now) s.client.ended s.client.came piece b s ls (settle-fine site now es holds run minds moment_is) blank k.2 there at_head (line.2 tt) line.0
          (subst (λ (bs : List ℕ). Placed bs s.client.exchanges (settled s.client.came.at (s.client.came.held ++ piece))) (sym all) (settled-placed before piece s.client.exchanges s.client.came line.1))

      never : {A : Type 0} → is_there b ≡ false → A
      never g = absurd (let e : true ≡ false = sym there ∙ g in cc)

      fed-origin : (first : Alone J R) (news : List (News J)) (words : List Said) (logs : List (List ℕ)) (client : Bool) → Origin site es before first news words logs client (here_at b s ls)
          → Origin site es (bytes_of es) first news words logs client (here_at b t ls)
      fed-origin first news words logs client (Request q) = Request (record {
        beginning = q.beginning;
        older = q.older;
        is = q.is;
        olds = q.olds;
        old_lines = q.old_lines;
        old_whole = q.old_whole;
        no_job = q.no_job;
        lines_are = q.lines_are;
        learned_them = q.learned_them;
        reads = record {
          step = fed-in-step s.client.came piece q.reads.step;
          placed = subst (λ (bs : List ℕ). Placed bs (exchange (out.Request q.beginning.head q.beginning.target) [] ∷ q.older) (done f.after)) (sym all)
              (fed-placed before piece (exchange (out.Request q.beginning.head q.beginning.target) [] ∷ q.older) s.client.came.at s.client.came.held
              (body-kept before q.older q.beginning.head.body s.client.came.at s.client.came.held q.reads.body) q.reads.placed);
          body = subst (λ (bs : List ℕ). BodyAt bs q.older q.beginning.head.body f.after) (sym all) (fed-body before piece q.older q.beginning.head.body s.client.came.at s.client.came.held q.reads.body);
        };
        newest = record { reply = q.newest.reply; is = q.newest.is };
        has = q.has;
        says = λ l. let h = q.says l in record { newest = h.newest; unsent = h.unsent; expects = h.expects; waits = h.waits };
      })
      fed-origin first news words logs client (Job j) = never j.gone

      goes-on : s.client.stage ≡ stage.Busy → Goes site es before (here_at b s ls) → Sound (here_at b t ls)
      goes-on e g = good-busy site es (bytes_of es) (here_at b t ls) e (record {
        first = g.first;
        news = g.news;
        of = fed-origin g.first g.news (learned site.runs g.first g.news).said (learned site.runs g.first g.news).logged (site.runs.waits s.run).client g.of;
        run = g.run;
        ledger = g.ledger;
        over = g.over;
      }) (λ l. never l)

      by : (st : Stage) → s.client.stage ≡ st → Sound (left (came_at site now st f s) b s ls)
      by stage.Busy e = await-good b t ls e k (goes-on e (h.goes e))
      by stage.Head e = heard-so false (λ x. e) (subst (λ (st : Stage). AgreesWithin holds st b s.run) e k.0) (here_now stage.Head e)
      by stage.Idle e = heard-so true (λ x. absurd (let n : true ≡ false = x in cc)) (subst (λ (st : Stage). AgreesWithin holds st b s.run) e k.0) (here_now stage.Idle e)
      by stage.Drop e = heard-so true (λ x. absurd (let n : true ≡ false = x in cc)) (subst (λ (st : Stage). AgreesWithin holds st b s.run) e k.0) (here_now stage.Drop e)
      by stage.Flush e =
          let x = here_now stage.Flush e in
          (idle-at site now es holds run minds moment_is) b t ls (subst IsIdle (sym e) tt) h.replies logs (λ l. subst (λ (st : Stage). LineAt site es (bytes_of es) st t.client ls) (sym e) (
            fed-in-step s.client.came piece x.0,
            fed-kept s.client.came.at s.client.came.held piece x.1,
            subst (λ (bs : List ℕ). Placed bs s.client.exchanges (done f.after)) (sym all) (fed-placed before piece s.client.exchanges s.client.came.at s.client.came.held x.1 x.2),
            x.3,
          ))
      by stage.Over e = (idle-at site now es holds run minds moment_is) b t ls (subst IsIdle (sym e) tt) h.replies logs (λ l. subst (λ (st : Stage). LineAt site es (bytes_of es) st t.client ls) (sym e) tt)

  -- where no run goes on it is as before
  quiet-good : (b c : Ledger J) (s : Both R) (ls : List (List ℕ)) → IsIdle s.client.stage → is_there c ≡ is_there b → Sound (here_at b s ls) → Sound (here_at c s ls)
  quiet-good b c s ls idle same h = record { replies = h.replies; logged = h.logged; goes = λ e. absurd (not-busy s.client.stage idle e); line = λ l. h.line (sym same ∙ l) }

  -- a run is told something
  run-good : (x : RunSeen) (m : Move J (Both R)) (b : Ledger J) (s : Both R) (ls : List (List ℕ)) → Agrees site.runs holds s.client.stage b s.run
      → ((site.runs.waits s.run).asks ≡ None → MayCome site.runs now x b s.run) → (entered_as x b).asked ≡ None → (entered_as x b).count ≡ socket_count es
      → ((c : Ledger J) → SameOwn b c → SameOwn (entered_as x b) (entered_as x c)) → is_there (entered_as x b) ≡ is_there b → Learned (Seen now x) b s ls → Sound (here_at b s ls) → Keeps m
      → Sound (left (to_run site now m s.client.stage x) (entered_as x b) s ls)
  run-good x m b s ls agrees may none counts enters opened true_news h fine = by s.client.stage refl
    where
      idle : (st : Stage) → IsIdle st → s.client.stage ≡ st → Sound (here_at (entered_as x b) s ls)
      idle st i e = quiet-good b (entered_as x b) s ls (subst IsIdle (sym e) i) opened h

      by : (st : Stage) → s.client.stage ≡ st → Sound (left (to_run site now m st x) (entered_as x b) s ls)
      by stage.Busy e = tell-good site now es (bytes_of es) holds run minds x m b s ls e (busy-holds b s agrees e) (may (has-answer b s agrees e)) none counts enters opened true_news h fine
      by stage.Idle e = idle stage.Idle tt e
      by stage.Head e = idle stage.Head tt e
      by stage.Flush e = idle stage.Flush tt e
      by stage.Drop e = idle stage.Drop tt e
      by stage.Over e = idle stage.Over tt e

  -- it gets its answer
  given-good : (x : Action J) (given : Answer) (b : Ledger J) (s : Both R) (ls : List (List ℕ)) → Agrees site.runs holds s.client.stage b s.run → answered (asking_if b.asked) given ≡ Some x → (entered (Did x) b).asked ≡ None
      → (entered (Did x) b).count ≡ socket_count es
      → ((c : Ledger J) → SameOwn b c → SameOwn (entered (Did x) b) (entered (Did x) c)) → is_there (entered (Did x) b) ≡ is_there b → (moment es ≡ now) × IsAnsweredBy es x → Sound (here_at b s ls)
      → Sound (left (turns.answered site now s.client.stage x (entered (Did x) b) s) (entered (Did x) b) s ls)
  given-good x given b s ls agrees is none counts enters opened true_news h = by s.client.stage refl
    where
      idle : (st : Stage) → IsIdle st → s.client.stage ≡ st → Sound (here_at (entered (Did x) b) s ls)
      idle st i e = quiet-good b (entered (Did x) b) s ls (subst IsIdle (sym e) i) opened h

      by : (st : Stage) → s.client.stage ≡ st → Sound (left (turns.answered site now st x (entered (Did x) b) s) (entered (Did x) b) s ls)
      by stage.Busy e =
          answer-good site now es (bytes_of es) holds run minds x (settle site now) b s ls e (run.answers now x given b s.run (busy-holds b s agrees e) is) none counts enters opened
          (any-news (Given now x) b s ls (λ older head. true_news) refl (λ l. true_news)) h (settle-fine site now es holds run minds moment_is)
      by stage.Idle e = idle stage.Idle tt e
      by stage.Head e = idle stage.Head tt e
      by stage.Flush e = idle stage.Flush tt e
      by stage.Drop e = idle stage.Drop tt e
      by stage.Over e = idle stage.Over tt e

  sock-good : (k : ℕ) (x : SockSeen) (b : Ledger J) (s : Both R) (ls : List (List ℕ)) → Agrees site.runs holds s.client.stage b s.run → MayComeAt k x b
      → (entered_as (seen.Sock k x) b).asked ≡ None → (entered_as (seen.Sock k x) b).count ≡ socket_count es → ((c : Ledger J) → SameOwn b c → SameOwn (entered_as (seen.Sock k x) b) (entered_as (seen.Sock k x) c))
      → is_there (entered_as (seen.Sock k x) b) ≡ is_there b → (moment es ≡ now) × IsToldBy es (seen.Sock k x) → Sound (here_at b s ls)
      → Sound (left (to_run site now (settle site now) s.client.stage (seen.Sock k x)) (entered_as (seen.Sock k x) b) s ls)
  sock-good k x b s ls agrees may none counts enters opened true_news h =
      run-good (seen.Sock k x) (settle site now) b s ls agrees (λ a. (may, a)) none counts enters opened (any-news (Seen now (seen.Sock k x)) b s ls (λ older head. true_news) refl (λ l. true_news)) h
      (settle-fine site now es holds run minds moment_is)

  -- the client sends no more: a run that goes on is told
  ends-at-good : (b : Ledger J) (s : Both R) (ls : List (List ℕ)) → Agrees site.runs holds s.client.stage b s.run → Counts b s → is_there b ≡ true → IsToldBy es seen.ClientEnded → Sound (here_at b s ls)
      → Sound (left (ends_at site now s.client.stage s) b s ls)
  ends-at-good b s ls agrees k there told h = by s.client.stage refl
    where
      t : Both R
      t = record s { client = record s.client { ended = true } }

      busy : s.client.stage ≡ stage.Busy → Sound (here_at b t ls)
      busy e = (read-good site now es holds run minds moment_is) b s ls t.client e e refl
          (λ head target older words g. record { newest = g.newest; unsent = g.unsent; expects = g.expects; waits = g.waits }) (λ older head target r. r) (λ n. n) h

      goes : s.client.stage ≡ stage.Busy → (c : Bool) → (waits_of site now s).client ≡ c
          → Sound (left (if c then tell site now seen.ClientEnded (settle site now) else settle site now) b t ls)
      goes e true w =
          tell-good site now es (bytes_of es) holds run minds seen.ClientEnded (settle site now) b t ls e (busy-holds b s agrees e) (record { outside = k.1; within = has-answer b s agrees e }, w) k.1 k.2
          (λ c same. same) refl (any-news (Seen now seen.ClientEnded) b t ls (λ older head. (moment_is, told)) refl (λ l. (moment_is, told))) (busy e) (settle-fine site now es holds run minds moment_is)
      goes e false w = (settle-fine site now es holds run minds moment_is) b t ls k (busy e)

      by : (st : Stage) → s.client.stage ≡ st → Sound (left (ends_at site now st s) b s ls)
      by stage.Busy e = goes e (waits_of site now s).client refl
      by stage.Flush e = (idle-at site now es holds run minds moment_is) b t ls (subst IsIdle (sym e) tt) h.replies h.logged
          (λ l. subst (λ (st : Stage). LineAt site es (bytes_of es) st t.client ls) (sym e) (subst (λ (st : Stage). LineAt site es (bytes_of es) st s.client ls) e (h.line l)))
      by stage.Idle e = (finish-good site now es holds run minds moment_is) b s ls h.replies h.logged
      by stage.Head e = (finish-good site now es holds run minds moment_is) b s ls h.replies h.logged
      by stage.Drop e = (finish-good site now es holds run minds moment_is) b s ls h.replies h.logged
      by stage.Over e = (finish-good site now es holds run minds moment_is) b s ls h.replies h.logged

  -- its place breaks, or one of the connection's deadlines comes due
  lost-good : (b c : Ledger J) (s : Both R) (ls : List (List ℕ)) → AreAlike b c → is_there c ≡ is_there b → Agrees site.runs holds s.client.stage b s.run → c.asked ≡ None → c.count ≡ socket_count es
      → Sound (here_at b s ls) → Sound (left (lose site now) c s ls)
  lost-good b c s ls like same agrees none counts h =
      (lose-fine site now es holds run minds moment_is) c s ls (within-alike site now holds run s.client.stage b c s.run like (within-of site.runs holds s.client.stage b s.run agrees), none, counts)
      (λ e. has-answer b s agrees e) (good-alike site es (bytes_of es) b c s ls like (λ l. sym same ∙ l) h)

  due-good : (n : ℕ) (b : Ledger J) (s : Both R) (ls : List (List ℕ)) → Agrees site.runs holds s.client.stage b s.run → IsDue now b n → b.count ≡ socket_count es → IsToldBy es (seen.Due n)
      → Sound (here_at b s ls) → Sound (left (is_due site now s.client.stage n) (entered (Did (Due n)) b) s ls)
  due-good zero b s ls agrees x counts told h = lost-good b (entered (Did (Due 0)) b) s ls (due-alike 0 b refl x.none_asked) refl agrees refl counts h
  due-good (suc zero) b s ls agrees x counts told h = lost-good b (entered (Did (Due 1)) b) s ls (due-alike 1 b refl x.none_asked) refl agrees refl counts h
  due-good (suc (suc n)) b s ls agrees x counts told h =
      let low : 2 ≤ suc (suc n) = omega arith in
      run-good (seen.Due (suc (suc n))) Done b s ls agrees (λ a. (x, low, a)) refl counts (λ c same. due-same (suc (suc n)) b c (not-below (suc (suc n)) low) same) refl
      (any-news (Seen now (seen.Due (suc (suc n)))) b s ls (λ older head. (moment_is, told)) refl (λ l. (moment_is, told))) h (done-fine site now es holds run minds moment_is)

  -- something comes at the client's place
  pub record IsAtClient (x : Action J) (st : State J (Both R)) (before : List ℕ) (ls : List (List ℕ)) : Type 0 where
    pub like : AreAlike st.ledger (entered (Did x) st.ledger)
    pub agrees : Agrees site.runs holds st.inner.client.stage (entered (Did x) st.ledger) st.inner.run
    pub counted : Counts (entered (Did x) st.ledger) st.inner
    pub good : Good site es before (here_at (entered (Did x) st.ledger) st.inner ls)

  agrees-alike : (st : Stage) (b c : Ledger J) (r : R) → AreAlike b c → Agrees site.runs holds st b r → Agrees site.runs holds st c r
  agrees-alike st b c r like h = settled-so site.runs holds st c r (within-alike site now holds run st b c r like (within-of site.runs holds st b r h)) (answered-of site.runs holds st b r h)

  at-client : (x : Action J) (st : State J (Both R)) (ls : List (List ℕ)) → AtClient x → Knows site.runs holds st → st.ledger.asked ≡ None → is_there (entered (Did x) st.ledger) ≡ is_there st.ledger
      → (entered (Did x) st.ledger).count ≡ socket_count es → (before : List ℕ) → Good site es before (here_at st.ledger st.inner ls) → IsAtClient x st before ls
  at-client x st ls at h none same counts before good =
      let like = client-alike x st.ledger at none in
      let agrees = agrees-alike st.inner.client.stage st.ledger (entered (Did x) st.ledger) st.inner.run like h in
      record {
        like = like;
        agrees = agrees;
        counted = (within-of site.runs holds st.inner.client.stage (entered (Did x) st.ledger) st.inner.run agrees, sym like.asked ∙ none, counts);
        good = good-alike site es before st.ledger (entered (Did x) st.ledger) st.inner ls like (λ l. sym same ∙ l) good;
      }

  -- what the turn of an action leaves
  abbrev pub turned : LocalAction J → State J (Both R) → List (List ℕ) → Left J (Both R)
  turned a st ls = left (move_of (connection_plan site) now a st) (entered a st.ledger) st.inner ls

  client-begins : (begun c : ℕ) (ls : List (List ℕ)) → bytes_of es ≡ [] → ls ≡ [] → starts_job es ≡ false → Sound (turned (Did (Began begun (start.Client c))) (unborn_state (connection_plan site)) ls)
  client-begins begun c ls none unlogged no_job =
      let b = entered (Did (Began begun (start.Client c))) empty_ledger in
      let s = (unborn_state (connection_plan site)).inner in
      (begins-good site now es holds run minds moment_is) timer.Header b s ls ((idle-at site now es holds run minds moment_is) b s ls tt (λ later. tt) (inl ((λ later. unlogged), no_job))
      (λ l. (tt, (λ l later. ap (λ (bs : List ℕ). bs ++ later) none), λ u. ((λ later. tt), (λ later. unlogged), no_job))))

  job-begins : (begun n : ℕ) (premature : Bool) (job : J) (ls : List (List ℕ)) → ls ≡ [] → begun ≡ now → IsUpTo es (Did (Began begun (start.Job n premature job)) ∷ []) → 0 ≡ socket_count es
      → Sound (turned (Did (Began begun (start.Job n premature job))) (unborn_state (connection_plan site)) ls)
  job-begins begun n premature job ls unlogged same starts counts =
      turn-good site now es (bytes_of es) holds run (site.runs.begun_job now premature job b) Done (waits_at_first false) b s ls refl
      (run.begins_job now premature job b blank) refl counts takes (λ e later. tt) (done-fine site now es holds run minds moment_is)
    where
      b : Ledger J
      b = entered (Did (Began begun (start.Job n premature job))) empty_ledger

      s : Both R
      s = record (unborn_state (connection_plan site)).inner { client = record (unborn_state (connection_plan site)).inner.client { stage = stage.Busy } }

      blank : IsBlank (entered (Did (Began begun (start.Job n premature job))) empty_ledger)
      blank = record { no_thread = refl; no_deadline = refl; no_socket = λ k. refl; none_asked = refl; unused = λ k low. (refl, refl, refl) }

      takes : Takes site es (bytes_of es) (site.runs.begun_job now premature job b) (waits_at_first false) (here_at b s ls)
      takes = record {
        first = begins_job site.runs now premature job;
        news = [];
        words = [];
        logs = [];
        own = own_ledger 0;
        turn = site.runs.begun_job now premature job (own_ledger 0);
        of = Job (record {
          began = begun;
          number = n;
          premature = premature;
          job = job;
          is = ap (λ (t : ℕ). begins_job site.runs t premature job) (sym same);
          starts = starts;
          learned_them = tt;
          lines_are = unlogged;
          read = refl;
          none = refl;
          gone = refl;
          no_client = refl;
        });
        same = minds.begins_job now premature job b (own_ledger 0) (blank-same b blank);
        is = refl;
        over = refl;
      }

  -- with the action these bytes came in all, and as it begins the strand nothing happened before
  pub record Since (a : LocalAction J) (st : State J (Both R)) (before : List ℕ) (ls : List (List ℕ)) : Type 0 where
    pub bytes : bytes_of es ≡ before ++ came_by a
    pub newest : IsNewest es a
    pub first : is_first a ≡ true → (before ≡ []) × (ls ≡ []) × (a ∷ [] ≡ es)
    pub counts : (entered a st.ledger).count ≡ socket_count es

  as-before : (x : Left J (Both R)) (before : List ℕ) → bytes_of es ≡ before ++ [] → Good site es before x → Sound x
  as-before x before e h = subst (λ (bs : List ℕ). Good site es bs x) (sym (e ∙ append-nil before)) h

  -- the beginning
  pub began-good : (begun : ℕ) (begin : Start J) (st : State J (Both R)) (ls : List (List ℕ)) → st ≡ unborn_state (connection_plan site) → (before : List ℕ) → Since (Did (Began begun begin)) st before ls
      → Sound (turned (Did (Began begun begin)) st ls)
  began-good begun (start.Client c) st ls comes before x =
      let f = x.first refl in
      subst (λ (st : State J (Both R)). Sound (turned (Did (Began begun (start.Client c))) st ls)) (sym comes)
      (client-begins begun c ls (x.bytes ∙ append-nil before ∙ f.0) f.1 (ap starts_job (sym f.2)))
  began-good begun (start.Job n premature job) st ls comes before x =
      let f = x.first refl in
      subst (λ (st : State J (Both R)). Sound (turned (Did (Began begun (start.Job n premature job))) st ls)) (sym comes)
      (job-begins begun n premature job ls f.1 (ap moment f.2 ∙ moment_is) (record { since = []; is = f.2 }) (sym (ap (λ (u : State J (Both R)). u.ledger.count) comes) ∙ x.counts))

  pub step-good : (a : LocalAction J) (st : State J (Both R)) (ls : List (List ℕ)) → Knows site.runs holds st → Comes (connection_plan site) now a st → (before : List ℕ) → Since a st before ls
      → Good site es before (here_at st.ledger st.inner ls) → Sound (turned a st ls)
  step-good (Did (Began begun begin)) st ls k comes before x h = began-good begun begin st ls comes before x
  step-good (Did (Bytes place.Client bytes)) st ls k comes before x h =
      let y = at-client (Bytes place.Client bytes) st ls tt k comes.0.free.none_asked refl x.counts before h in
      came-at-good before bytes x.bytes (entered (Did (Bytes place.Client bytes)) st.ledger) st.inner ls y.counted comes.0.opened y.good
  step-good (Did (Ended place.Client)) st ls k comes before since g =
      let x = at-client (Ended place.Client) st ls tt k comes.free.none_asked refl since.counts (bytes_of es) (as-before (here_at st.ledger st.inner ls) before since.bytes g) in
      ends-at-good (entered (Did (Ended place.Client)) st.ledger) st.inner ls x.agrees x.counted comes.opened (newest-tells es _ _ since.newest refl) x.good
  step-good (Did (Broken place.Client)) st ls k comes before since g =
      let x = at-client (Broken place.Client) st ls tt k comes.free.none_asked refl since.counts (bytes_of es) (as-before (here_at st.ledger st.inner ls) before since.bytes g) in
      let b = entered (Did (Broken place.Client)) st.ledger in
      lost-good b b st.inner ls (alike-refl b) refl x.agrees x.counted.1 x.counted.2 x.good
  step-good (Did (Ready place.Client)) st ls k comes before since g =
      let x = at-client (Ready place.Client) st ls tt k comes.free.none_asked refl since.counts (bytes_of es) (as-before (here_at st.ledger st.inner ls) before since.bytes g) in
      let b = entered (Did (Ready place.Client)) st.ledger in
      (ends-good site now es holds run minds moment_is) timer.Send (move.Send place.Client [] Done) b st.inner ls
      (λ c like same. good-alike site es (bytes_of es) c (with_offer place.Client (with_sent place.Client [] c)) st.inner ls (sent-alike [] c) (λ l. l)
      (good-alike site es (bytes_of es) b c st.inner ls like (λ l. sym same ∙ l) x.good))
  step-good (Did (Put place.Client bytes)) st ls k comes before since g =
      let x = at-client (Put place.Client bytes) st ls tt k comes.taking.none_asked refl since.counts (bytes_of es) (as-before (here_at st.ledger st.inner ls) before since.bytes g) in
      (settle-fine site now es holds run minds moment_is) (entered (Did (Put place.Client bytes)) st.ledger) st.inner ls x.counted x.good
  step-good (Did (Later place.Client)) st ls k comes before since g =
      let x = at-client (Later place.Client) st ls tt k comes.none_asked refl since.counts (bytes_of es) (as-before (here_at st.ledger st.inner ls) before since.bytes g) in
      (begins-good site now es holds run minds moment_is) timer.Send (entered (Did (Later place.Client)) st.ledger) st.inner ls x.good
  step-good (Did (Lost place.Client)) st ls k comes before since g =
      let x = at-client (Lost place.Client) st ls tt k comes.none_asked refl since.counts (bytes_of es) (as-before (here_at st.ledger st.inner ls) before since.bytes g) in
      let b = entered (Did (Lost place.Client)) st.ledger in
      lost-good b b st.inner ls (alike-refl b) refl x.agrees x.counted.1 x.counted.2 x.good
  step-good (Did (Bytes (place.Sock n) bytes)) st ls k comes before since g =
      sock-good n (at.Bytes bytes) st.ledger st.inner ls k comes refl since.counts (λ c same. bytes-same n bytes st.ledger c same) refl (moment_is, newest-tells es _ _ since.newest refl)
      (as-before (here_at st.ledger st.inner ls) before since.bytes g)
  step-good (Did (Ended (place.Sock n))) st ls k comes before since g =
      sock-good n at.Ended st.ledger st.inner ls k comes refl since.counts (λ c same. ended-same n st.ledger c same) refl (moment_is, newest-tells es _ _ since.newest refl)
      (as-before (here_at st.ledger st.inner ls) before since.bytes g)
  step-good (Did (Broken (place.Sock n))) st ls k comes before since g =
      sock-good n at.Broken st.ledger st.inner ls k comes refl since.counts (λ c same. broken-same n st.ledger c same) refl (moment_is, newest-tells es _ _ since.newest refl)
      (as-before (here_at st.ledger st.inner ls) before since.bytes g)
  step-good (Did (Ready (place.Sock n))) st ls k comes before since g =
      sock-good n at.Ready st.ledger st.inner ls k comes refl since.counts (λ c same. ready-same n st.ledger c same) refl (moment_is, newest-tells es _ _ since.newest refl)
      (as-before (here_at st.ledger st.inner ls) before since.bytes g)
  step-good (Did (Put (place.Sock n) bytes)) st ls k comes before since g =
      subst (λ (xs : List ℕ). Sound (left (to_run site now (settle site now) st.inner.client.stage (seen.Sock n (at.Took (length bytes)))) (entered (Did (Put (place.Sock n) xs)) st.ledger) st.inner ls))
      (taken-are bytes (left_at (place.Sock n) st.ledger) _ comes.prefix)
      (sock-good n (at.Took (length bytes)) st.ledger st.inner ls k (taken-of st.ledger n bytes comes) refl since.counts (λ c same. took-same n (length bytes) st.ledger c same) refl
      (moment_is, newest-tells es _ _ since.newest refl) (as-before (here_at st.ledger st.inner ls) before since.bytes g))
  step-good (Did (Later (place.Sock n))) st ls k comes before since g =
      sock-good n at.Later st.ledger st.inner ls k comes refl since.counts (λ c same. later-same n st.ledger c same) refl (moment_is, newest-tells es _ _ since.newest refl)
      (as-before (here_at st.ledger st.inner ls) before since.bytes g)
  step-good (Did (Lost (place.Sock n))) st ls k comes before since g =
      sock-good n at.Lost st.ledger st.inner ls k comes refl since.counts (λ c same. lost-same n st.ledger c same) refl (moment_is, newest-tells es _ _ since.newest refl)
      (as-before (here_at st.ledger st.inner ls) before since.bytes g)
  step-good (Did (Dialled n)) st ls k comes before since g =
      sock-good n at.Dialled st.ledger st.inner ls k comes refl since.counts (λ c same. dialled-same n st.ledger c same) refl (moment_is, newest-tells es _ _ since.newest refl)
      (as-before (here_at st.ledger st.inner ls) before since.bytes g)
  step-good (Did (Refused n)) st ls k comes before since g =
      sock-good n at.Refused st.ledger st.inner ls k comes refl since.counts (λ c same. refused-same n st.ledger c same) refl (moment_is, newest-tells es _ _ since.newest refl)
      (as-before (here_at st.ledger st.inner ls) before since.bytes g)
  step-good (Did (Dict zone call given)) st ls k comes before since g =
      given-good (Dict zone call given) (answer.Dict given) st.ledger st.inner ls k (ap (λ o. answered (asking_if o) (answer.Dict given)) comes.0) refl since.counts (λ c same. dict-same zone call given st.ledger c same) refl
      (moment_is, newest-answers es _ since.newest) (as-before (here_at st.ledger st.inner ls) before since.bytes g)
  step-good (Did (Take key None)) st ls k comes before since g =
      given-good (Take key None) (answer.Took None) st.ledger st.inner ls k (ap (λ o. answered (asking_if o) (answer.Took None)) comes) refl since.counts (λ c same. take-same key None st.ledger c same) refl
      (moment_is, newest-answers es _ since.newest) (as-before (here_at st.ledger st.inner ls) before since.bytes g)
  step-good (Did (Take key (Some uses))) st ls k comes before since g =
      given-good (Take key (Some uses)) (answer.Took (Some uses)) st.ledger st.inner ls k (ap (λ o. answered (asking_if o) (answer.Took (Some uses))) comes) refl since.counts (λ c same. take-same key (Some uses) st.ledger c same) (has-append place.Client (place.Sock st.ledger.count) st.ledger.opened)
      (moment_is, newest-answers es _ since.newest) (as-before (here_at st.ledger st.inner ls) before since.bytes g)
  step-good (Did (Dial host port true)) st ls k comes before since g =
      given-good (Dial host port true) (answer.Dialled true) st.ledger st.inner ls k (ap (λ o. answered (asking_if o) (answer.Dialled true)) comes) refl since.counts (λ c same. dial-same host port true st.ledger c same) (has-append place.Client (place.Sock st.ledger.count) st.ledger.opened)
      (moment_is, newest-answers es _ since.newest) (as-before (here_at st.ledger st.inner ls) before since.bytes g)
  step-good (Did (Dial host port false)) st ls k comes before since g =
      given-good (Dial host port false) (answer.Dialled false) st.ledger st.inner ls k (ap (λ o. answered (asking_if o) (answer.Dialled false)) comes) refl since.counts (λ c same. dial-same host port false st.ledger c same) refl
      (moment_is, newest-answers es _ since.newest) (as-before (here_at st.ledger st.inner ls) before since.bytes g)
  step-good (Did (Keep n key idle size)) st ls k comes before since g =
      given-good (Keep n key idle size) answer.Kept st.ledger st.inner ls k (ap (λ o. answered (asking_if o) answer.Kept) comes.0) refl since.counts (λ c same. keep-same n key idle size st.ledger c same) (has-without place.Client (place.Sock n) st.ledger.opened)
      (moment_is, newest-answers es _ since.newest) (as-before (here_at st.ledger st.inner ls) before since.bytes g)
  step-good (Did (Timer due given)) st ls k comes before since g =
      given-good (Timer due given) (answer.Timer given) st.ledger st.inner ls k (ap (λ o. answered (asking_if o) (answer.Timer given)) comes.1) refl since.counts (λ c same. timer-same due given st.ledger c same) refl
      (moment_is, newest-answers es _ since.newest) (as-before (here_at st.ledger st.inner ls) before since.bytes g)
  step-good (Did (Run n)) st ls k comes before since g =
      run-good (seen.Run n) (settle site now) st.ledger st.inner ls k (λ a. (comes.0, record { outside = comes.1; within = a })) refl since.counts (λ c same. run-same n st.ledger c same) refl
      (any-news (Seen now (seen.Run n)) st.ledger st.inner ls (λ older head. (moment_is, newest-tells es _ _ since.newest refl)) refl (λ l. (moment_is, newest-tells es _ _ since.newest refl)))
      (as-before (here_at st.ledger st.inner ls) before since.bytes g) (settle-fine site now es holds run minds moment_is)
  step-good (Did (Due n)) st ls k comes before since g =
      due-good n st.ledger st.inner ls k comes since.counts (newest-tells es _ _ since.newest refl) (as-before (here_at st.ledger st.inner ls) before since.bytes g)
  step-good (Did Halted) st ls k comes before since g =
      let h = as-before (here_at st.ledger st.inner ls) before since.bytes g in (finish-good site now es holds run minds moment_is) (entered (Did Halted) st.ledger) st.inner ls h.replies h.logged
  step-good (Told w) st ls k comes before since g =
      good-alike site es (bytes_of es) st.ledger (entered (Told w) st.ledger) st.inner ls (still-alike (Told w) st.ledger refl) (λ l. l) (as-before (here_at st.ledger st.inner ls) before since.bytes g)
  step-good (Did (Close q)) st ls k comes before since g =
      good-alike site es (bytes_of es) st.ledger (entered (Did (Close q)) st.ledger) st.inner ls (still-alike (Did (Close q)) st.ledger refl) (λ l. l) (as-before (here_at st.ledger st.inner ls) before since.bytes g)
  step-good (Did (Log line done)) st ls k comes before since g =
      good-alike site es (bytes_of es) st.ledger (entered (Did (Log line done)) st.ledger) st.inner ls (still-alike (Did (Log line done)) st.ledger refl) (λ l. l) (as-before (here_at st.ledger st.inner ls) before since.bytes g)
  step-good (Did (Offer q)) st ls k comes before since g =
      good-alike site es (bytes_of es) st.ledger (entered (Did (Offer q)) st.ledger) st.inner ls (still-alike (Did (Offer q)) st.ledger refl) (λ l. l) (as-before (here_at st.ledger st.inner ls) before since.bytes g)
  step-good (Did Gone) st ls k comes before since g =
      good-alike site es (bytes_of es) st.ledger (entered (Did Gone) st.ledger) st.inner ls (still-alike (Did Gone) st.ledger refl) (λ l. l) (as-before (here_at st.ledger st.inner ls) before since.bytes g)
  step-good (Did Dropped) st ls k comes before since g =
      good-alike site es (bytes_of es) st.ledger (entered (Did Dropped) st.ledger) st.inner ls (still-alike (Did Dropped) st.ledger refl) (λ l. l) (as-before (here_at st.ledger st.inner ls) before since.bytes g)
