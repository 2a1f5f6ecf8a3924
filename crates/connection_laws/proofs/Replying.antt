-- Whatever a connection does, every reply stays its run's own.
use Rattle.std.proofs.Common.{inl, inr, ◌⊎◌, Option, ◌≡◌, ℕ, zero, suc, ◌&&◌, ◌||◌, Bool, true, false, List, [], ◌∷◌, ◌++◌, length, Some, None, if◌then◌else◌, refl, sym, ap, ◌∙◌, subst, append-nil}
use Rattle.std.specs.Prelude.{not}
use Rattle.uri_args.specs.declared.targets.Target.{Target}
use Rattle.http_in.specs.declared.heads.Head.{Head}
use Rattle.http_bodies.specs.declared.bodies.BodyRead.{BodyRead}
use Rattle.http_bodies.specs.declared.bodies.BodyRead.TheVariants as body
use Rattle.client_line.specs.declared.requests.LineOut.{LineOut}
use Rattle.client_line.specs.declared.requests.LineOut.TheVariants as out
use Rattle.client_line.specs.declared.line.Held.{Held}
use Rattle.client_line.specs.declared.line.Held.TheVariants as held
use Rattle.client_line.specs.Records.{At, Came}
use Rattle.client_line.specs.Records as line
use Rattle.client_line.specs.Lines.{nothing, came_at, asked_at, after_asked, body_answer, content, settled, done, held_in, IsFed}
use Rattle.client_line.specs.Feeding.{fed}
use Rattle.client_line.proofs.FeedAnswers.{is-fed}
use Rattle.connection_plan.proofs.Bodies.{asked-in-step, fed-in-step, done-in-step}
use Rattle.connection_plan.proofs.Readings.{fed-has-room}
use Rattle.connection_plan.specs.InStep.{IsInStep}
use Rattle.connection_plan.specs.Asked.{bytes_of}
use Rattle.strand_contract.specs.declared.turns.Place.TheVariants as place
use Rattle.strand_contract.specs.Actions.{LocalAction}
use Rattle.strand_contract.specs.Alone.{moment, socket_count}
use Rattle.strand_contract.specs.Alone.{is_some_left}
use Rattle.strand_plans.specs.Ledgers.{Ledger, has_number, numbers, left_at}
use Rattle.strand_plans.specs.Moves.{Move, Done, Cancel, HangUp, with_sent, with_offer, with_deadline, without_deadline, hung_up}
use Rattle.strand_plans.specs.Moves as move
use Rattle.strand_plans.proofs.Places.{has-without}
use Rattle.run_contract.specs.declared.turns.RunSeen.{RunSeen}
use Rattle.run_contract.specs.declared.turns.RunSeen.TheVariants as seen
use Rattle.run_contract.specs.declared.turns.Asking.{Asking}
use Rattle.run_contract.specs.declared.turns.Asking.TheVariants as asking
use Rattle.run_contract.specs.declared.turns.Said.{Said}
use Rattle.run_contract.specs.Runs.{waits_at_first}
use Rattle.run_contract.specs.Alike.{AreAlike}
use Rattle.run_contract.specs.Conditions.{IsBlank, IsRun, MayCome, MayHear, asks_body, entered_as}
use Rattle.connection_plan.specs.Clients.{Stage, Client, Exchange, exchange, with_more, with_request, with_refusal, closes_after}
use Rattle.connection_plan.specs.Clients as stage
use Rattle.connection_plan.specs.Services.{Service, Both}
use Rattle.connection_plan.specs.Timers.{number_of, time_of, later}
use Rattle.connection_plan.specs.Timers as timer
use Rattle.connection_plan.specs.Turns.{continue_reply, is_there, is_all_taken, is_to_close, change, finish, begin_timer, end_timer, tell, lose_at, lose, begin, close_if_taken, refuse, wait_for, heard_by, heard, next, body_told, wait_more, tell_body, ask_body, answer_body, waiting, busy_at, busy, flush, settled_at, tells, settle_for, settle}
use Rattle.connection_plan.proofs.Alike.{alike-refl, alike-trans, armed-alike, cancelled-alike, hung-up-alike, blank-alike}
use Rattle.connection_plan.specs.Conditions.{AgreesWithin}
use Rattle.connection_plan.proofs.Steps.{own-number}
use Rattle.connection_plan.proofs.Stays.{within-alike, body-answers, body-waits, taken-answers, taken-waits, asks-some}
use Rattle.connection_laws.specs.Own.{SameOwn, MindsItsOwn}
use Rattle.connection_laws.specs.Alone.{Alone, News, Seen, own_ledger, begins, learned, MayWaitForBody}
use Rattle.connection_laws.specs.Bodies.{IsOwnBody, IsOwnFault}
use Rattle.connection_laws.specs.Replies.{IsNews, has_client}
use Rattle.connection_laws.proofs.Leaving.{Left, here_at, left}
use Rattle.connection_laws.proofs.Saying.{Says, left-of, IsWaited, wait-leads}
use Rattle.connection_laws.proofs.Places.{Placed, BodyAt, IsKept, settled-placed, begun-placed, begun-body, waits-placed, asked-body, asked-placed, told-own, told-fault}
use Rattle.connection_laws.proofs.Owns.{blank-same, same-alike}
use Rattle.connection_laws.proofs.Good.{here, up-to-later, LineAt, Own, Wholes, Logged, OwnLines, whole-owns, whole-logs, Reads, Newest, Origin, Request, Job, Good, goes-moved, good-idle, good-busy, good-alike}
use Rattle.connection_laws.proofs.Going.{Counted, Fine, Takes, turn-good, LearnsOf, Learns, tell-good}

-- a stage at which no run goes on
abbrev pub IsIdle : Stage → Type 0
IsIdle stage.Busy = ⊥
IsIdle st = Unit {0}

pub not-busy : (st : Stage) → IsIdle st → st ≡ stage.Busy → ⊥
not-busy stage.Busy h e = h
not-busy stage.Idle h e = let f : stage.Idle ≡ stage.Busy = e in cc
not-busy stage.Head h e = let f : stage.Head ≡ stage.Busy = e in cc
not-busy stage.Flush h e = let f : stage.Flush ≡ stage.Busy = e in cc
not-busy stage.Drop h e = let f : stage.Drop ≡ stage.Busy = e in cc
not-busy stage.Over h e = let f : stage.Over ≡ stage.Busy = e in cc

-- a request is present
abbrev is_present : At → Bool
is_present (line.Present body kind skips) = true
is_present at = false

and-right : (a b : Bool) → (a && b) ≡ true → b ≡ true
and-right true b h = h
and-right false b h = absurd (let e : false ≡ true = h in cc)

neither-left : (a b : Bool) → (not a || b) ≡ false → a ≡ true
neither-left true b h = refl
neither-left false b h = absurd (let e : true ≡ false = h in cc)

neither-right : (a b : Bool) → (not a || b) ≡ false → b ≡ false
neither-right true b h = h
neither-right false b h = absurd (let e : true ≡ false = h in cc)

-- This is the newest action of an execution, and with it these happened.
module _ {J R : Type 0} (site : Service J R) (now : ℕ) (es : List (LocalAction J)) (holds : Ledger J → R → Type 0) (run : IsRun site.runs holds) (minds : MindsItsOwn site.runs)
    (moment_is : moment es ≡ now) where
  abbrev pub Sound : Left J (Both R) → Type 0
  Sound x = Good site es (bytes_of es) x

  -- it is known, no question waits, and there were so many sockets as the execution tells
  abbrev pub Counts : Ledger J → Both R → Type 0
  Counts b s = Counted site now es (bytes_of es) holds run b s

  abbrev pub AllWhole : List Exchange → List (List ℕ) → Type 0
  AllWhole xs ls = Wholes site es (bytes_of es) xs ls

  abbrev pub Owns : List Exchange → Type 0
  Owns xs = Own site es (bytes_of es) xs

  abbrev pub Logs : List Exchange → List (List ℕ) → Type 0
  Logs xs ls = Logged site es (bytes_of es) xs ls

  abbrev pub Keeps : Move J (Both R) → Type 0
  Keeps m = Fine site now es (bytes_of es) holds run m

  -- where no run goes on
  abbrev pub LineNow : Stage → Client → List (List ℕ) → Type 0
  LineNow st c ls = LineAt site es (bytes_of es) st c ls

  pub idle-at : (b : Ledger J) (s : Both R) (ls : List (List ℕ)) → IsIdle s.client.stage → Owns s.client.exchanges → Logs s.client.exchanges ls
      → (is_there b ≡ true → LineNow s.client.stage s.client ls) → Sound (here_at b s ls)
  idle-at b s ls h own logs line = good-idle site es (bytes_of es) (here_at b s ls) (not-busy s.client.stage h) own logs line

  whole-own : (xs : List Exchange) (ls : List (List ℕ)) → AllWhole xs ls → Owns xs
  whole-own xs ls h = whole-owns site es (bytes_of es) xs h.0

  whole-log : (xs : List Exchange) (ls : List (List ℕ)) → AllWhole xs ls → Logs xs ls
  whole-log xs ls h = inl (whole-logs site es (bytes_of es) xs ls h.1, h.2)

  -- what it learns did happen
  abbrev pub Learned : News J → Ledger J → Both R → List (List ℕ) → Type 0
  Learned n b s ls = Learns site now es (bytes_of es) holds run minds n (here_at b s ls)

  pub done-fine : Keeps Done
  done-fine b s ls k h = h

  pub finish-good : (b : Ledger J) (s : Both R) (ls : List (List ℕ)) → Owns s.client.exchanges → Logs s.client.exchanges ls → Sound (left finish b s ls)
  finish-good b s ls own logs = record {
    replies = own;
    logged = logs;
    goes = λ e. absurd (let f : stage.Over ≡ stage.Busy = e in cc);
    line = λ l. absurd (let f : false ≡ true = l in cc);
  }

  known-alike : (b c : Ledger J) (s : Both R) → AreAlike b c → Counts b s → Counts c s
  known-alike b c s like k = (within-alike site now holds run s.client.stage b c s.run like k.0, sym like.asked ∙ k.1, sym like.count ∙ k.2)

  -- after the end of a timer
  pub ends-good : (t : timer.Timer) (m : Move J (Both R)) (b : Ledger J) (s : Both R) (ls : List (List ℕ)) → ((c : Ledger J) → AreAlike b c → is_there c ≡ is_there b → Sound (left m c s ls))
      → Sound (left (end_timer site now t m) b s ls)
  ends-good t m b s ls f = by (has_number (number_of t) (numbers b.armed))
    where
      by : (c : Bool) → Sound (left (if c then Cancel (number_of t) m else m) b s ls)
      by true = f (without_deadline (number_of t) b) (cancelled-alike (number_of t) b (own-number t)) refl
      by false = f b (alike-refl b) refl

  pub begins-good : (t : timer.Timer) (b : Ledger J) (s : Both R) (ls : List (List ℕ)) → Sound (here_at b s ls) → Sound (left (begin_timer site now t Done) b s ls)
  begins-good t b s ls h =
      let due = later now (time_of site.default_times s.client.times t) in
      good-alike site es (bytes_of es) b (with_deadline (number_of t) due b) s ls (armed-alike (number_of t) due b (own-number t)) (λ l. l) h

  busy-within : (b : Ledger J) (s : Both R) → s.client.stage ≡ stage.Busy → Counts b s → holds b s.run
  busy-within b s at k = subst (λ (st : Stage). AgreesWithin holds st b s.run) at k.0

  -- told of its client
  pub told-fine : (x : RunSeen) (m : Move J (Both R)) (b : Ledger J) (s : Both R) (ls : List (List ℕ)) → s.client.stage ≡ stage.Busy → Counts b s → MayCome site.runs now x b s.run
      → ((c : Ledger J) → entered_as x c ≡ c) → Learned (Seen now x) b s ls → Sound (here_at b s ls) → Keeps m → Sound (left (tell site now x m) b s ls)
  told-fine x m b s ls at k may enters true_news h fine =
      subst (λ (c : Ledger J). Sound (left (tell site now x m) c s ls)) (enters b)
      (tell-good site now es (bytes_of es) holds run minds x m b s ls at (busy-within b s at k) may
      (ap (λ (c : Ledger J). c.asked) (enters b) ∙ k.1) (ap (λ (c : Ledger J). c.count) (enters b) ∙ k.2)
      (λ c same. subst (λ (d : Ledger J). SameOwn d (entered_as x c)) (sym (enters b)) (subst (λ (d : Ledger J). SameOwn b d) (sym (enters c)) same))
      (ap (λ (c : Ledger J). is_there c) (enters b)) true_news h fine)

  -- ---- the client's end

  hung-gone : (b : Ledger J) → is_there (hung_up place.Client b) ≡ false
  hung-gone b = has-without place.Client place.Client b.opened

  -- a client that is gone isn't there
  never : {A : Type 0} (b : Bool) → b ≡ false → b ≡ true → A
  never b h k = absurd (let e : false ≡ true = sym h ∙ k in cc)

  pub lose-fine : (b : Ledger J) (s : Both R) (ls : List (List ℕ)) → Counts b s → (s.client.stage ≡ stage.Busy → (site.runs.waits s.run).asks ≡ None) → Sound (here_at b s ls) → Sound (left (lose site now) b s ls)
  lose-fine b s ls k answered h = by s.client.stage refl
    where
      -- it is told that its client is gone, where it had one
      told : (c : Ledger J) → (site.runs.waits s.run).client ≡ true → is_there c ≡ false → Learned (Seen now seen.ClientGone) c s ls
      told c w none g = of g.first g.news (learned site.runs g.first g.news).said (learned site.runs g.first g.news).logged g.of
        where
          of : (first : Alone J R) (news : List (News J)) (words : List Said) (logs : List (List ℕ)) (o : Origin site es (bytes_of es) first news words logs (site.runs.waits s.run).client (here_at c s ls))
              → LearnsOf site now es (bytes_of es) holds run minds (Seen now seen.ClientGone) o
          of first news words logs (Request q) = (moment_is, λ l. never (is_there c) none l)
          of first news words logs (Job j) = never (site.runs.waits s.run).client j.no_client w

      gone : (c : Ledger J) → AreAlike b c → is_there c ≡ false → s.client.stage ≡ stage.Busy → (w : Bool) → (site.runs.waits s.run).client ≡ w
          → Sound (left (if w then tell site now seen.ClientGone Done else Done) c s ls)
      gone c like none e false w = good-alike site es (bytes_of es) b c s ls like (λ l. never (is_there c) none l) h
      gone c like none e true w =
          let n = known-alike b c s like k in
          told-fine seen.ClientGone Done c s ls e n (record { outside = n.1; within = answered e }, w) (λ d. refl) (told c w none)
          (good-alike site es (bytes_of es) b c s ls like (λ l. never (is_there c) none l) h) done-fine

      by : (st : Stage) → s.client.stage ≡ st → Sound (left (lose_at site now st s) b s ls)
      by stage.Busy e =
          let told = if (site.runs.waits s.run).client then tell site now seen.ClientGone Done else Done in
          let c0 = hung_up place.Client b in
          ends-good timer.Body (end_timer site now timer.Send told) c0 s ls (λ c like same. ends-good timer.Send told c s ls
          (λ d like' same'. gone d (alike-trans b c0 d (hung-up-alike b) (alike-trans c0 c d like like')) (same' ∙ same ∙ hung-gone b) e (site.runs.waits s.run).client refl))
      by stage.Idle e = finish-good b s ls h.replies h.logged
      by stage.Head e = finish-good b s ls h.replies h.logged
      by stage.Flush e = finish-good b s ls h.replies h.logged
      by stage.Drop e = finish-good b s ls h.replies h.logged
      by stage.Over e = finish-good b s ls h.replies h.logged

  -- ---- requests in turn

  begin-good : (rest : Move J (Both R)) (head : Head) (target : Target) (b : Ledger J) (s : Both R) (ls : List (List ℕ)) → Keeps rest → IsBlank b → b.count ≡ socket_count es → is_there b ≡ true
      → AllWhole s.client.exchanges ls → Reads site es (bytes_of es) s.client.exchanges head target s.client.came
      → Sound (left (begin site now rest head target) b s ls)
  begin-good rest head target b s ls fine blank counts there own reads =
      turn-good site now es (bytes_of es) holds run (site.runs.begun now head target b) rest (waits_at_first true) b begun ls refl
      (run.begins now head target b blank) blank.none_asked counts takes (λ e. never (is_there b) e there) fine
    where
      begun : Both R
      begun = record { client = with_request head target (site.times_of head target) s.client; run = site.runs.unborn }

      takes : Takes site es (bytes_of es) (site.runs.begun now head target b) (waits_at_first true) (here_at b begun ls)
      takes = record {
        first = begins site.runs (record { head = head; target = target; now = now; sockets = b.count });
        news = [];
        words = [];
        logs = [];
        own = own_ledger b.count;
        turn = site.runs.begun now head target (own_ledger b.count);
        of = Request (record {
          beginning = record { head = head; target = target; now = now; sockets = b.count };
          older = s.client.exchanges;
          is = refl;
          olds = own.0;
          old_lines = ls;
          old_whole = own.1;
          no_job = own.2;
          lines_are = sym (append-nil ls);
          learned_them = (es, here es, moment_is, sym counts);
          reads = record { step = reads.step; placed = reads.placed; body = reads.body };
          newest = record { reply = []; is = refl };
          has = λ l. refl;
          says = λ l. record { newest = refl; unsent = λ e. refl; expects = refl; waits = λ e. absurd (let f : false ≡ true = e in cc) };
        });
        same = minds.begins now head target b (own_ledger b.count) (blank-same b blank);
        is = refl;
        over = refl;
      }

  closing-good : (b : Ledger J) (s : Both R) (ls : List (List ℕ)) → IsIdle s.client.stage → Owns s.client.exchanges → Logs s.client.exchanges ls → LineNow s.client.stage s.client ls
      → Sound (left (close_if_taken site now) b s ls)
  closing-good b s ls idle own logs line = by (is_all_taken b)
    where
      by : (c : Bool) → Sound (left (if c then finish else Done) b s ls)
      by true = finish-good b s ls own logs
      by false = idle-at b s ls idle own logs (λ l. line)

  -- nothing more is read
  over-line : (status : ℕ) (c : Client) (ls : List (List ℕ)) → c.came.at ≡ line.Over status → closes_after c.reply ≡ true → LineNow stage.Flush c ls
  over-line status c ls e closes = (
    subst IsInStep (sym e) tt,
    subst IsKept (sym e) tt,
    subst (λ (at : At). Placed (bytes_of es) c.exchanges (done (record { at = at; held = c.came.held }))) (sym e) (λ l later. absurd (let f : true ≡ false = l in cc)),
    λ f. absurd (let g : true ≡ false = sym closes ∙ f in cc),
  )

  refuse-good : (at : At) (code : ℕ) (b : Ledger J) (s : Both R) (ls : List (List ℕ)) → s.client.came.at ≡ at → is_there b ≡ true → AllWhole s.client.exchanges ls
      → Sound (left (refuse site now at code) b s ls)
  refuse-good (line.Over status) code b s ls at there own = by (is_there b) there
    where
      t : Both R
      t = record s { client = with_refusal code site.default_times s.client }

      -- a refusal logs nothing
      lines : (reply : List ℕ) → OwnLines site es (bytes_of es) (exchange (out.Refused code) reply ∷ s.client.exchanges) ls
      lines reply = λ later. record { first = ls; last = []; is = sym (append-nil ls); is_first = own.1 later; is_last = refl }

      by : (c : Bool) → c ≡ true
          → Sound (left (if c then change (λ c. record c { exchanges = with_more (site.refusal code now) c.exchanges }) (move.Send place.Client (site.refusal code now) (close_if_taken site now)) else close_if_taken site now) b t ls)
      by true e = closing-good (with_offer place.Client (with_sent place.Client (site.refusal code now) b))
          (record t { client = record t.client { exchanges = with_more (site.refusal code now) t.client.exchanges } }) ls tt (λ later. ((es, up-to-later es later es (here es), ap (site.refusal code) (sym moment_is)), own.0 later))
          (inl (lines (site.refusal code now), own.2))
          (over-line status (record t.client { exchanges = with_more (site.refusal code now) t.client.exchanges }) ls at refl)
      by false e = absurd (let n : false ≡ true = e in cc)
  refuse-good line.Head code b s ls at there own = finish-good b s ls (whole-own s.client.exchanges ls own) (whole-log s.client.exchanges ls own)
  refuse-good (line.Present body kind skips) code b s ls at there own = finish-good b s ls (whole-own s.client.exchanges ls own) (whole-log s.client.exchanges ls own)
  refuse-good (line.Dropping far) code b s ls at there own = finish-good b s ls (whole-own s.client.exchanges ls own) (whole-log s.client.exchanges ls own)

  -- what is read next, where the replies are whole
  abbrev ReadsOn : Client → List (List ℕ) → Type 0
  ReadsOn c ls = IsInStep c.came.at × Placed (bytes_of es) c.exchanges c.came × (Unit {0} → AllWhole c.exchanges ls)

  wait-at : (t : timer.Timer) (b : Ledger J) (s : Both R) (ls : List (List ℕ)) → IsIdle s.client.stage → ReadsOn s.client ls → LineNow s.client.stage s.client ls → Sound (left (begin_timer site now t Done) b s ls)
  wait-at t b s ls idle line at =
      begins-good t b s ls (idle-at b s ls idle (whole-own s.client.exchanges ls (line.2 tt)) (whole-log s.client.exchanges ls (line.2 tt)) (λ l. at))

  wait-good : (w : Held) (b : Ledger J) (s : Both R) (ls : List (List ℕ)) → ReadsOn s.client ls → Sound (left (wait_for site now w) b s ls)
  wait-good held.Body b s ls line = wait-at timer.Body b (record s { client = record s.client { stage = stage.Drop } }) ls tt line line
  wait-good held.Nothing b s ls line = wait-at timer.Keepalive b (record s { client = record s.client { stage = stage.Idle } }) ls tt line line
  wait-good held.Begun b s ls line = wait-at timer.Header b (record s { client = record s.client { stage = stage.Head } }) ls tt line line
  wait-good held.Request b s ls line = wait-at timer.Header b (record s { client = record s.client { stage = stage.Head } }) ls tt line line

  pub heard-good : (anew : Bool) (rest : Move J (Both R)) (ended : Bool) (came : Came) (piece : List ℕ) (b : Ledger J) (s : Both R) (ls : List (List ℕ)) → Keeps rest → IsBlank b
      → b.count ≡ socket_count es → is_there b ≡ true
      → (anew ≡ false → s.client.stage ≡ stage.Head) → AllWhole s.client.exchanges ls → IsInStep came.at → Placed (bytes_of es) s.client.exchanges (settled came.at (came.held ++ piece))
      → Sound (left (heard site now anew rest ended (fed came piece)) b s ls)
  heard-good anew rest ended came piece b s ls fine blank counts there at_head own step placed = by (fed came piece).answer refl
    where
      after : Came
      after = (fed came piece).after

      t : Both R
      t = record s { client = record s.client { came = after } }

      stepped_on : IsInStep after.at
      stepped_on = fed-in-step came piece step

      is : (answer : LineOut) → (fed came piece).answer ≡ answer → IsFed came piece answer after
      is answer e = subst (λ (a : LineOut). IsFed came piece a after) e (is-fed came piece)

      more : (c d : Bool) → anew ≡ d → ReadsOn t.client ls → Sound (left (if c then finish else (if d then wait_for site now (held_in after.at after.held) else Done)) b t ls)
      more true d e line = finish-good b t ls (whole-own s.client.exchanges ls own) (whole-log s.client.exchanges ls own)
      more false true e line = wait-good (held_in after.at after.held) b t ls line
      more false false e line = idle-at b t ls (subst IsIdle (sym (at_head e)) tt) (whole-own s.client.exchanges ls own) (whole-log s.client.exchanges ls own)
          (λ l. subst (λ (st : Stage). LineNow st t.client ls) (sym (at_head e)) line)

      by : (answer : LineOut) → (fed came piece).answer ≡ answer → Sound (left (heard_by site now anew rest after ended answer) b t ls)
      by (out.Request head target) e = ends-good timer.Header (begin site now rest head target) b t ls
          (λ c like same. begin-good rest head target c t ls fine (blank-alike b c like blank) (sym like.count ∙ counts) (same ∙ there) own (record {
            step = stepped_on;
            placed = begun-placed (bytes_of es) s.client.exchanges came after piece head target [] (is (out.Request head target) e) placed;
            body = begun-body (bytes_of es) s.client.exchanges came after piece head target (is (out.Request head target) e) placed;
          }))
      by (out.Refused code) e = ends-good timer.Header (refuse site now after.at code) b t ls (λ c like same. refuse-good after.at code c t ls refl (same ∙ there) own)
      by out.Waiting e = more ended anew refl (stepped_on, waits-placed (bytes_of es) s.client.exchanges came after piece out.Waiting (is out.Waiting e) refl placed, λ u. own)
      by out.Memory e = absurd (fed-has-room came piece e)

  -- ---- what a run asks, and what it waits for

  -- a client that changes in what was read of it alone, while a run goes on
  pub read-good : (b : Ledger J) (s : Both R) (ls : List (List ℕ)) (c : Client) → s.client.stage ≡ stage.Busy → c.stage ≡ stage.Busy → c.exchanges ≡ s.client.exchanges
      → ((head : Head) (target : Target) (older : List Exchange) (words : List Said) → Says (MayWaitForBody site.runs) head target older words s.client
      → Says (MayWaitForBody site.runs) head target older words c)
      → ((older : List Exchange) (head : Head) (target : Target) → Reads site es (bytes_of es) older head target s.client.came → Reads site es (bytes_of es) older head target c.came)
      → (s.client.came ≡ nothing → c.came ≡ nothing) → Sound (here_at b s ls) → Sound (here_at b (record s { client = c }) ls)
  read-good b s ls c at at' same says reads none h =
      let x = here_at b s ls in
      let y = here_at b (record s { client = c }) ls in
      good-busy site es (bytes_of es) y at'
      (goes-moved site es (bytes_of es) x y (record {
        lines = refl;
        there = λ l. l;
        run = refl;
        like = λ c h. h;
        none = λ g e. same ∙ e;
        newest = λ head target older n. record { reply = n.reply; is = same ∙ n.is };
        says = λ head target older words l g. says head target older words g;
        reads = reads;
        nothing_read = none;
      }) (h.goes at))
      (λ l. subst Owns (sym same) h.replies)

  asked-nothing : (came : Came) (max : ℕ) → came ≡ nothing → after_asked came max ≡ nothing
  asked-nothing came max e = ap (λ (c : Came). after_asked c max) e

  asked-reads : (came : Came) (max : ℕ) (older : List Exchange) (head : Head) (target : Target) → Reads site es (bytes_of es) older head target came
      → Reads site es (bytes_of es) older head target (after_asked came max)
  asked-reads came max older head target r = record {
    step = asked-in-step came.at came.held max r.step;
    placed = asked-placed (bytes_of es) (exchange (out.Request head target) [] ∷ older) came max r.step r.placed;
    body = asked-body (bytes_of es) older head.body came.at came.held max r.body;
  }

  asked-good : (b : Ledger J) (s : Both R) (ls : List (List ℕ)) (max : ℕ) → s.client.stage ≡ stage.Busy → Sound (here_at b s ls)
      → Sound (here_at b (record s { client = record s.client { limit = max; came = after_asked s.client.came max } }) ls)
  asked-good b s ls max at h = read-good b s ls (record s.client { limit = max; came = after_asked s.client.came max }) at at refl
      (λ head target older words g. record { newest = g.newest; unsent = g.unsent; expects = g.expects; waits = g.waits })
      (asked-reads s.client.came max) (asked-nothing s.client.came max) h

  pub within-so : (b d : Ledger J) (s t : Both R) → AreAlike b d → t.run ≡ s.run → t.client.stage ≡ s.client.stage → Counts b s → Counts d t
  within-so b d s t like ran st k =
      let n = known-alike b d s like k in
      (subst (λ (st : Stage). AgreesWithin holds st d t.run) (sym st) (subst (λ (r : R). AgreesWithin holds s.client.stage d r) (sym ran) n.0), n.1, n.2)

  waited-newest : (xs ys : List Exchange) (b : Bool) (head : Head) (target : Target) (older : List Exchange) → (ys ≡ xs) ⊎ ((b ≡ true) × (ys ≡ with_more continue_reply xs))
      → Newest site es (bytes_of es) head target older xs → Newest site es (bytes_of es) head target older ys
  waited-newest xs ys b head target older x n = elim x [
    | inl e ↦ record { reply = n.reply; is = e ∙ n.is }
    | inr e ↦ record { reply = n.reply ++ continue_reply; is = e.1 ∙ ap (with_more continue_reply) n.is }
  ]

  waited-same : (xs ys : List Exchange) (b : Bool) → b ≡ false → (ys ≡ xs) ⊎ ((b ≡ true) × (ys ≡ with_more continue_reply xs)) → ys ≡ xs
  waited-same xs ys b g x = elim x [
    | inl e ↦ e
    | inr e ↦ never b g e.0
  ]

  -- more of the body is waited for, and the client may be let send it
  pub waits-good : MayWaitForBody site.runs → (b : Ledger J) (s : Both R) (ls : List (List ℕ)) (m : Move J (Both R)) → s.client.stage ≡ stage.Busy → Sound (here_at b s ls)
      → ((d : Ledger J) (t : Both R) → IsWaited site now b s d t → Sound (here_at d t ls) → Sound (left m d t ls))
      → Sound (left (wait_more site now s.client m) b s ls)
  waits-good may b s ls m at h f = wait-leads site now Sound m b s ls may
      (λ d t x. f d t x (good-busy site es (bytes_of es) (here_at d t ls) (x.stage ∙ at) (goes-moved site es (bytes_of es) (here_at b s ls) (here_at d t ls) (record {
        lines = refl;
        there = λ l. sym x.there ∙ l;
        run = x.run;
        like = λ c. same-alike b d c x.same.alike;
        none = λ g e. waited-same s.client.exchanges t.client.exchanges (is_there b) g x.exchanges ∙ e;
        newest = λ head target older n. waited-newest s.client.exchanges t.client.exchanges (is_there b) head target older x.exchanges n;
        says = λ head target older words l g. x.says head target older words (sym x.there ∙ l) g;
        reads = λ older head target r. subst (λ (c : Came). Reads site es (bytes_of es) older head target c) (sym x.came) r;
        nothing_read = λ e. x.came ∙ e;
      }) (h.goes at))
      (λ l. subst Owns (sym (waited-same s.client.exchanges t.client.exchanges (is_there b) (sym x.there ∙ l) x.exchanges)) h.replies)))

  -- what was read of the body, as news; `was` is what came before it was asked for
  module _ (was : Came) (max : ℕ) (b : Ledger J) (s : Both R) (ls : List (List ℕ)) (read : s.client.came ≡ after_asked was max) (jobs : s.client.came ≡ nothing → was ≡ nothing) where
    -- all bytes that came, and none later
    whole-bytes : bytes_of es ++ [] ≡ bytes_of es
    whole-bytes = append-nil (bytes_of es)

    body-news : (n : ℕ) (waited : Bool) → body_answer was max ≡ body.Whole n → Learned (Seen now (seen.Body (content (after_asked was max).at) waited)) b s ls
    body-news n waited e g = of g.first g.news (learned site.runs g.first g.news).said (learned site.runs g.first g.news).logged g.of
      where
        of : (first : Alone J R) (news : List (News J)) (words : List Said) (logs : List (List ℕ)) (o : Origin site es (bytes_of es) first news words logs (site.runs.waits s.run).client (here_at b s ls))
            → LearnsOf site now es (bytes_of es) holds run minds (Seen now (seen.Body (content (after_asked was max).at) waited)) o
        of first news words logs (Request q) = (
          (
            moment_is,
            subst (λ (bs : List ℕ). IsOwnBody bs q.older q.beginning.head (content (after_asked was max).at)) whole-bytes
                (told-own (bytes_of es) q.older q.beginning.head was.at was.held max n e (subst (λ (x : Came). BodyAt (bytes_of es) q.older q.beginning.head.body x) read q.reads.body) []),
          ),
          λ l. refl,
        )
        of first news words logs (Job j) = (moment_is, ap (λ (c : Came). content (after_asked c max).at) (jobs j.read))

    fault-news : (code : ℕ) → body_answer was max ≡ body.Refused code → Learned (Seen now (seen.BodyRefused code)) b s ls
    fault-news code e g = of g.first g.news (learned site.runs g.first g.news).said (learned site.runs g.first g.news).logged g.of
      where
        of : (first : Alone J R) (news : List (News J)) (words : List Said) (logs : List (List ℕ)) (o : Origin site es (bytes_of es) first news words logs (site.runs.waits s.run).client (here_at b s ls))
            → LearnsOf site now es (bytes_of es) holds run minds (Seen now (seen.BodyRefused code)) o
        of first news words logs (Request q) = (
          (
            moment_is,
            inl (subst (λ (bs : List ℕ). IsOwnFault bs q.older q.beginning.head code) whole-bytes
                (told-fault (bytes_of es) q.older q.beginning.head was.at was.held max code e (subst (λ (x : Came). BodyAt (bytes_of es) q.older q.beginning.head.body x) read q.reads.body) [])),
          ),
          λ l. refl,
        )
        of first news words logs (Job j) =
            absurd (let f : body.Whole 0 ≡ body.Refused code = sym (ap (λ (c : Came). body_answer c max) (jobs j.read)) ∙ e in cc)

    -- the body of a job is whole, of no bytes
    unread-news : (x : RunSeen) → (body_answer was max ≡ body.Whole 0 → ⊥) → ((older : List Exchange) (head : Head) → IsNews older head es (Seen now x)) → has_client {J = J} (Seen now x ∷ []) ≡ true
        → Learned (Seen now x) b s ls
    unread-news x unless is has g = of g.first g.news (learned site.runs g.first g.news).said (learned site.runs g.first g.news).logged g.of
      where
        of : (first : Alone J R) (news : List (News J)) (words : List Said) (logs : List (List ℕ)) (o : Origin site es (bytes_of es) first news words logs (site.runs.waits s.run).client (here_at b s ls))
            → LearnsOf site now es (bytes_of es) holds run minds (Seen now x) o
        of first news words logs (Request q) = (is q.older q.beginning.head, λ l. has)
        of first news words logs (Job j) = absurd (unless (ap (λ (c : Came). body_answer c max) (jobs j.read)))

  -- where something is left of a client it is there
  some-there : (x y : Bool) → not (x && y) ≡ false → x ≡ true
  some-there true y h = refl
  some-there false y h = absurd (let e : true ≡ false = h in cc)

  -- what the job of a strand reads is nothing
  unasked : (came : Came) (max : ℕ) → after_asked came max ≡ nothing → came ≡ nothing
  unasked came max e = by came.at came.held e
    where
      by : (at : At) (held : List ℕ) → asked_at at held max ≡ nothing → came_at at held ≡ nothing
      by line.Head held e = e
      by (line.Present body kind skips) held e = absurd (let f : true ≡ false = ap (λ (c : Came). is_present c.at) e in cc)
      by (line.Dropping far) held e = e
      by (line.Over code) held e = e

  -- all is taken, or not yet: this is news of any run but a job's
  taken-news : (b : Ledger J) (s : Both R) (ls : List (List ℕ)) → Learned (Seen now seen.AllTaken) b s ls
  taken-news b s ls g = of g.first g.news (learned site.runs g.first g.news).said (learned site.runs g.first g.news).logged g.of
    where
      of : (first : Alone J R) (news : List (News J)) (words : List Said) (logs : List (List ℕ)) (o : Origin site es (bytes_of es) first news words logs (site.runs.waits s.run).client (here_at b s ls))
          → LearnsOf site now es (bytes_of es) holds run minds (Seen now seen.AllTaken) o
      of first news words logs (Request q) = (moment_is, λ l. refl)
      of first news words logs (Job j) = moment_is

  not-yet-news : (b : Ledger J) (s : Both R) (ls : List (List ℕ)) → is_there b ≡ true → Learned (Seen now seen.NotYet) b s ls
  not-yet-news b s ls there g = of g.first g.news (learned site.runs g.first g.news).said (learned site.runs g.first g.news).logged g.of
    where
      of : (first : Alone J R) (news : List (News J)) (words : List Said) (logs : List (List ℕ)) (o : Origin site es (bytes_of es) first news words logs (site.runs.waits s.run).client (here_at b s ls))
          → LearnsOf site now es (bytes_of es) holds run minds (Seen now seen.NotYet) o
      of first news words logs (Request q) = (moment_is, λ l. refl)
      of first news words logs (Job j) = never (is_there b) j.gone there

  -- it is told of its body, after the timer of that ended
  body-told : (x : RunSeen) (again : Move J (Both R)) (b : Ledger J) (s : Both R) (ls : List (List ℕ)) → s.client.stage ≡ stage.Busy → Counts b s
      → ((d : Ledger J) → d.asked ≡ None → MayCome site.runs now x d s.run) → ((d : Ledger J) → entered_as x d ≡ d) → ((d : Ledger J) → Learned (Seen now x) d s ls)
      → Sound (here_at b s ls) → Keeps again → Sound (left (end_timer site now timer.Body (tell site now x again)) b s ls)
  body-told x again b s ls at k may enters true_news h fine = ends-good timer.Body (tell site now x again) b s ls
      (λ d like same. let n = known-alike b d s like k in
      told-fine x again d s ls at n (may d n.1) enters (true_news d) (good-alike site es (bytes_of es) b d s ls like (λ l. sym same ∙ l) h) fine)

  -- it waits for the body
  tell-body-good : (may : Bool) (c : Client) (max : ℕ) (a : BodyRead) → body_answer c.came max ≡ a → c.limit ≡ max → (again : Move J (Both R)) (b : Ledger J) (s : Both R) (ls : List (List ℕ))
      → s.client.came ≡ after_asked c.came max → (s.client.came ≡ nothing → c.came ≡ nothing) → s.client.stage ≡ stage.Busy → Counts b s
      → (site.runs.waits s.run).asks ≡ None → (site.runs.waits s.run).body ≡ true → Sound (here_at b s ls) → Keeps again → Sound (left (tell_body site now again (body_told may c a)) b s ls)
  tell-body-good may c max a is limit again b s ls came jobs at k answered waits h fine = by a is
    where
      hears : (d : Ledger J) → d.asked ≡ None → (d.asked ≡ None) × MayHear (asks_body (site.runs.waits s.run).asks) (site.runs.waits s.run).body (site.runs.waits s.run).asks
      hears d n = (n, body-waits site now holds run (site.runs.waits s.run).asks (site.runs.waits s.run).body answered waits)

      waiting_so : (body_answer c.came max ≡ body.Whole 0 → ⊥) → (c : Bool) → Sound (left (tell_body site now again (if c then None else Some (seen.BodyRefused 400))) b s ls)
      waiting_so unless true = h
      waiting_so unless false = body-told (seen.BodyRefused 400) again b s ls at k hears (λ d. refl)
          (λ d. unread-news c.came max d s ls came jobs (seen.BodyRefused 400) unless (λ older head. (moment_is, inr refl)) refl) h fine

      by : (a : BodyRead) → body_answer c.came max ≡ a → Sound (left (tell_body site now again (body_told may c a)) b s ls)
      by (body.Whole n) e = body-told (seen.Body (content (after_asked c.came c.limit).at) c.waited) again b s ls at k hears (λ d. refl)
          (λ d. subst (λ (m : ℕ). Learned (Seen now (seen.Body (content (after_asked c.came m).at) c.waited)) d s ls) (sym limit) (body-news c.came max d s ls came jobs n c.waited e)) h fine
      by (body.Refused code) e = body-told (seen.BodyRefused code) again b s ls at k hears (λ d. refl) (λ d. fault-news c.came max d s ls came jobs code e) h fine
      by body.More e = waiting_so (λ f. let g : body.More ≡ body.Whole 0 = sym e ∙ f in cc) may
      by body.Memory e = waiting_so (λ f. let g : body.Memory ≡ body.Whole 0 = sym e ∙ f in cc) may

  -- it asks for it
  answer-body-good : (there ended : Bool) (c : Client) (max : ℕ) (a : BodyRead) → body_answer c.came max ≡ a → c.limit ≡ max → (again : Move J (Both R)) (b : Ledger J) (s : Both R) (ls : List (List ℕ))
      → is_there b ≡ there → s.client.came ≡ after_asked c.came max → (s.client.came ≡ nothing → c.came ≡ nothing) → s.client.stage ≡ stage.Busy → Counts b s
      → (site.runs.waits s.run).asks ≡ Some (asking.Body max) → Sound (here_at b s ls) → Keeps again → Sound (left (answer_body site now again (body_told (there && ended) c a)) b s ls)
  answer-body-good there ended c max a is limit again b s ls there_is came jobs at k asks h fine = by a is
    where
      hears : (d : Ledger J) → d.asked ≡ None → (d.asked ≡ None) × MayHear (asks_body (site.runs.waits s.run).asks) (site.runs.waits s.run).body (site.runs.waits s.run).asks
      hears d n = (n, body-answers site now holds run (site.runs.waits s.run).asks (site.runs.waits s.run).body max asks)

      may_wait : MayWaitForBody site.runs
      may_wait = (s.run, by (site.runs.waits s.run).body)
        where
          by : (c : Bool) → (c || asks_body (site.runs.waits s.run).asks) ≡ true
          by true = refl
          by false = ap asks_body asks

      waits : is_there b ≡ true → Sound (left (wait_more site now s.client (tell site now seen.NotYet again)) b s ls)
      waits l = waits-good may_wait b s ls (tell site now seen.NotYet again) at h
          (λ d t x good.
          let n = within-so b d s t x.same.alike x.run x.stage k in
          told-fine seen.NotYet again d t ls (x.stage ∙ at) n (n.1, asks-some site now holds run (site.runs.waits t.run).asks (asking.Body max) (ap (λ (r : R). (site.runs.waits r).asks) x.run ∙ asks)) (λ d. refl)
          (not-yet-news d t ls (x.there ∙ l)) good fine)

      waiting_so : (body_answer c.came max ≡ body.Whole 0 → ⊥) → (x : Bool) → (there && ended) ≡ x → Sound (left (answer_body site now again (if x then None else Some (seen.BodyRefused 400))) b s ls)
      waiting_so unless true e = waits (there_is ∙ left-of there ended e)
      waiting_so unless false e = body-told (seen.BodyRefused 400) again b s ls at k hears (λ d. refl)
          (λ d. unread-news c.came max d s ls came jobs (seen.BodyRefused 400) unless (λ older head. (moment_is, inr refl)) refl) h fine

      by : (a : BodyRead) → body_answer c.came max ≡ a → Sound (left (answer_body site now again (body_told (there && ended) c a)) b s ls)
      by (body.Whole n) e = body-told (seen.Body (content (after_asked c.came c.limit).at) c.waited) again b s ls at k hears (λ d. refl)
          (λ d. subst (λ (m : ℕ). Learned (Seen now (seen.Body (content (after_asked c.came m).at) c.waited)) d s ls) (sym limit) (body-news c.came max d s ls came jobs n c.waited e)) h fine
      by (body.Refused code) e = body-told (seen.BodyRefused code) again b s ls at k hears (λ d. refl) (λ d. fault-news c.came max d s ls came jobs code e) h fine
      by body.More e = waiting_so (λ f. let g : body.More ≡ body.Whole 0 = sym e ∙ f in cc) (there && ended) refl
      by body.Memory e = waiting_so (λ f. let g : body.Memory ≡ body.Whole 0 = sym e ∙ f in cc) (there && ended) refl

  -- what it waits for
  waiting-good : (again : Move J (Both R)) (b : Ledger J) (s : Both R) (ls : List (List ℕ)) → s.client.stage ≡ stage.Busy → Counts b s → (site.runs.waits s.run).asks ≡ None → Sound (here_at b s ls)
      → Keeps again → Sound (left (waiting site now again b s) b s ls)
  waiting-good again b s ls at k answered h fine = first (is_all_taken b && (site.runs.waits s.run).taken) refl
    where
      third : (c : Bool) → (site.runs.waits s.run).body ≡ c → Sound (left (if c then ask_body site now again b s.client else Done) b s ls)
      third true e =
          let t = record s { client = record s.client { came = after_asked s.client.came s.client.limit } } in
          tell-body-good (is_there b && not s.client.ended) s.client s.client.limit (body_answer s.client.came s.client.limit) refl refl again b t ls refl (unasked s.client.came s.client.limit) at k answered e
          (asked-good b s ls s.client.limit at h) fine
      third false e = h

      second : (c : Bool) → Sound (left (if c then lose site now else (if (site.runs.waits s.run).body then ask_body site now again b s.client else Done)) b s ls)
      second true = lose-fine b s ls k (λ e. answered) h
      second false = third (site.runs.waits s.run).body refl

      first : (c : Bool) → (is_all_taken b && (site.runs.waits s.run).taken) ≡ c → Sound (left (if c then tell site now seen.AllTaken again
          else (if is_to_close b s.client then lose site now else (if (site.runs.waits s.run).body then ask_body site now again b s.client else Done))) b s ls)
      first true e = told-fine seen.AllTaken again b s ls at k
          (k.1, taken-waits site now holds run (site.runs.waits s.run).asks (site.runs.waits s.run).taken answered (and-right (is_all_taken b) (site.runs.waits s.run).taken e)) (λ c. refl) (taken-news b s ls) h fine
      first false e = second (is_to_close b s.client)

  busy-good : (again : Move J (Both R)) (b : Ledger J) (s : Both R) (ls : List (List ℕ)) → s.client.stage ≡ stage.Busy → Counts b s → Sound (here_at b s ls) → Keeps again
      → Sound (left (busy site now again b s) b s ls)
  busy-good again b s ls at k h fine = by (site.runs.waits s.run).asks refl
    where
      all : (site.runs.waits s.run).asks ≡ Some asking.AllTaken → (c : Bool) → is_all_taken b ≡ c → Sound (left (tell site now (if c then seen.AllTaken else seen.NotYet) again) b s ls)
      all e true t = told-fine seen.AllTaken again b s ls at k (k.1, taken-answers site now holds run (site.runs.waits s.run).asks (site.runs.waits s.run).taken e) (λ c. refl) (taken-news b s ls) h fine
      all e false t = told-fine seen.NotYet again b s ls at k (k.1, asks-some site now holds run (site.runs.waits s.run).asks asking.AllTaken e) (λ c. refl)
          (not-yet-news b s ls (some-there (is_there b) (is_some_left (left_at place.Client b)) t)) h fine

      by : (q : Option Asking) → (site.runs.waits s.run).asks ≡ q → Sound (left (busy_at site now q again b s) b s ls)
      by None e = waiting-good again b s ls at k e h fine
      by (Some asking.AllTaken) e = all e (is_all_taken b) refl
      by (Some (asking.Body max)) e =
          let t : Both R = record s { client = record s.client { limit = max; came = after_asked s.client.came max } } in
          answer-body-good (is_there b) (not s.client.ended) (record s.client { limit = max }) max (body_answer s.client.came max) refl refl again b t ls refl refl (unasked s.client.came max) at k e
          (asked-good b s ls max at h) fine

  flush-good : (rest : Move J (Both R)) (b : Ledger J) (s : Both R) (ls : List (List ℕ)) → s.client.stage ≡ stage.Flush → Counts b s → Sound (here_at b s ls) → Keeps rest
      → Sound (left (flush site now rest b s.client) b s ls)
  flush-good rest b s ls e k h fine = by (not (is_all_taken b)) (not (is_there b) || closes_after s.client.reply) refl
    where
      by : (c d : Bool) → (not (is_there b) || closes_after s.client.reply) ≡ d → Sound (left (if c then Done else (if d then finish else next site now rest s.client)) b s ls)
      by true d n = h
      by false true n = finish-good b s ls h.replies h.logged
      by false false n =
          let there = neither-left (is_there b) (closes_after s.client.reply) n in
          let at_flush : LineNow stage.Flush s.client ls = subst (λ (st : Stage). LineNow st s.client ls) e (h.line there) in
          let c = done s.client.came in
          heard-good true rest s.client.ended c [] b s ls fine (subst (λ (st : Stage). AgreesWithin holds st b s.run) e k.0) k.2 there (λ f. absurd (let x : true ≡ false = f in cc))
          (at_flush.3 (neither-right (is_there b) (closes_after s.client.reply) n))
          (done-in-step s.client.came.at s.client.came.held at_flush.0)
          (subst (λ (bs : List ℕ). Placed bs s.client.exchanges (settled c.at (c.held ++ []))) (append-nil (bytes_of es)) (settled-placed (bytes_of es) [] s.client.exchanges c at_flush.2))

  settled-good : (st : Stage) (again rest : Move J (Both R)) (b : Ledger J) (s : Both R) (ls : List (List ℕ)) → s.client.stage ≡ st → Counts b s → Sound (here_at b s ls) → Keeps again → Keeps rest
      → Sound (left (settled_at site now st again rest b s) b s ls)
  settled-good stage.Busy again rest b s ls e k h f g = busy-good again b s ls e k h f
  settled-good stage.Flush again rest b s ls e k h f g = flush-good rest b s ls e k h g
  settled-good stage.Idle again rest b s ls e k h f g = h
  settled-good stage.Head again rest b s ls e k h f g = h
  settled-good stage.Drop again rest b s ls e k h f g = h
  settled-good stage.Over again rest b s ls e k h f g = h

  tells-fine : (rest : Move J (Both R)) (n : ℕ) → Keeps rest → Keeps (tells site now rest n)
  tells-fine rest zero g b s ls k h = settled-good s.client.stage Done rest b s ls refl k h done-fine g
  tells-fine rest (suc n) g b s ls k h = settled-good s.client.stage (tells site now rest n) rest b s ls refl k h (tells-fine rest n g) g

  settle-for-fine : (n : ℕ) → Keeps (settle_for site now n)
  settle-for-fine zero b s ls k h = h
  settle-for-fine (suc n) b s ls k h = tells-fine (settle_for site now n) (site.runs.tells_left s.run) (settle-for-fine n) b s ls k h

  pub settle-fine : Keeps (settle site now)
  settle-fine b s ls k h = settle-for-fine (suc (length s.client.came.held)) b s ls k h
