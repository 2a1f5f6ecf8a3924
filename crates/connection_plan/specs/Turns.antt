-- What a connection does for each thing that happens: it reads requests in turn, hands each to a run, and does what the run says
-- (RFC 9112, 9.3 to 9.6; RFC 9110, 10.1.1).
use Rattle.std.specs.Prelude.{ℕ, zero, suc, Bool, true, false, not, ◌&&◌, ◌||◌}
use Rattle.std.specs.Prelude.{List, [], ◌∷◌, ◌++◌, codes, length, nat_lt, is_some, Option, Some, None, if◌then◌else◌}
use Rattle.uri_args.specs.declared.targets.Target.{Target}
use Rattle.http_in.specs.declared.heads.Head.{Head}
use Rattle.http_bodies.specs.declared.bodies.BodyRead.{BodyRead}
use Rattle.http_bodies.specs.declared.bodies.BodyRead.TheVariants as body
use Rattle.client_line.specs.declared.requests.LineOut.{LineOut}
use Rattle.client_line.specs.declared.requests.LineOut.TheVariants as out
use Rattle.client_line.specs.declared.line.Held.{Held}
use Rattle.client_line.specs.declared.line.Held.TheVariants as held
use Rattle.client_line.specs.Records.{At, Came}
use Rattle.client_line.specs.Records as line
use Rattle.client_line.specs.Lines.{after_asked, body_answer, content, done, held_in}
use Rattle.client_line.specs.Feeding.{Fed, fed}
use Rattle.strand_contract.specs.declared.turns.Place.TheVariants as place
use Rattle.strand_contract.specs.Alone.{is_some_left}
use Rattle.strand_plans.specs.Questions.{Question}
use Rattle.strand_plans.specs.Ledgers.{Ledger, has, has_number, numbers, left_at}
use Rattle.strand_plans.specs.Moves.{Move, Done, Send, Arm, Cancel, HangUp, Set, Look, Ask, End, asked_of}
use Rattle.run_contract.specs.declared.turns.RunSeen.{RunSeen}
use Rattle.run_contract.specs.declared.turns.RunSeen.TheVariants as seen
use Rattle.run_contract.specs.declared.turns.Said.{Said}
use Rattle.run_contract.specs.declared.turns.Said.TheVariants as said
use Rattle.run_contract.specs.declared.turns.Asking.{Asking}
use Rattle.run_contract.specs.declared.turns.Asking.TheVariants as asking
use Rattle.run_contract.specs.Deeds.{Turn, Asks, Outside}
use Rattle.run_contract.specs.Runs.{Waits}
use Rattle.connection_plan.specs.Clients.{Stage, Reply, Client, Unsent, Whole, with_more, with_request, with_refusal, with_times, begun, closes_after, is_last}
use Rattle.connection_plan.specs.Clients as stage
use Rattle.connection_plan.specs.Services.{Service, Both}
use Rattle.connection_plan.specs.Timers.{Timer, number_of, time_of, later}
use Rattle.connection_plan.specs.Timers as timer
use Rattle.connection_plan.specs.Lifts.{lifted}

-- the reply that lets a client send the body (RFC 9110, 15.2.1)
abbrev pub continue_reply : List ℕ
continue_reply = codes "HTTP/1.1 100 Continue" ++ 13 ∷ 10 ∷ 13 ∷ 10 ∷ []

-- more of the body is to come
abbrev pub is_more : BodyRead → Bool
is_more body.More = true
is_more answer = false

-- a client has a place while it isn't hung up; a job has none
abbrev pub is_there : {J : Type 0} → Ledger J → Bool
is_there b = has place.Client b.opened

-- nothing of what was sent is left to be taken
abbrev pub is_all_taken : {J : Type 0} → Ledger J → Bool
is_all_taken b = not (is_there b && is_some_left (left_at place.Client b))

-- a reply after which the connection closes is taken: the client is hung up then, though the run goes on
abbrev pub is_to_close : {J : Type 0} → Ledger J → Client → Bool
is_to_close b c = is_all_taken b && is_there b && is_last c.reply

-- what a run is told of the body that it waits for: nothing while more may come
abbrev pub body_told : Bool → Client → BodyRead → Option RunSeen
body_told may_come c (body.Whole n) = Some (seen.Body (content (after_asked c.came c.limit).at) c.waited)
body_told may_come c (body.Refused code) = Some (seen.BodyRefused code)
body_told may_come c answer = if may_come then None else Some (seen.BodyRefused 400)

-- bytes of the client are wanted while a head or a body is due, else while few are held
abbrev pub wants_bytes : Stage → Waits → Came → Bool
wants_bytes stage.Busy w came = w.body || nat_lt (length came.held) 65_536
wants_bytes stage.Flush w came = nat_lt (length came.held) 65_536
wants_bytes stage.Over w came = false
wants_bytes st w came = true

-- the client changes
abbrev pub change : {J R : Type 0} → (Client → Client) → Move J (Both R) → Move J (Both R)
change f m = Set (λ s. record s { client = f s.client }) m

-- what is open is hung up, and the life is over
abbrev pub finish : {J R : Type 0} → Move J (Both R)
finish = change (λ c. record c { stage = stage.Over }) End

-- a question ends the turn; of a socket that isn't open nothing is asked, and these come
abbrev pub ask : {J R : Type 0} → Question J → Move J (Both R) → Move J (Both R)
ask x m = Look (λ b s. if is_some (asked_of x b) then Ask x else m)

module _ {J R : Type 0} (site : Service J R) (now : ℕ) where
  abbrev pub Moves : Type 0
  Moves = Move J (Both R)

  abbrev pub waits_of : Both R → Waits
  waits_of s = site.runs.waits s.run

  -- bytes are sent to the client, where it is there
  abbrev pub send : List ℕ → Moves → Moves
  send bytes m = Look (λ b s. if is_there b then change (λ c. record c { exchanges = with_more bytes c.exchanges }) (Send place.Client bytes m) else m)

  -- a timer begins, also anew; and what it waited for is there
  abbrev pub begin_timer : Timer → Moves → Moves
  begin_timer t m = Look (λ b s. Arm (number_of t) (later now (time_of site.default_times s.client.times t)) m)

  abbrev pub end_timer : Timer → Moves → Moves
  end_timer t m = Look (λ b s. if has_number (number_of t) (numbers b.armed) then Cancel (number_of t) m else m)

  -- ---- a turn of the run

  -- while nothing of the reply was sent, the first wait for more of a body lets the client send it
  abbrev pub let_send : Client → Reply → Moves → Moves
  let_send c Unsent m =
      if c.waited then m
      else change (λ c. record c { waited = true }) (if c.expects then send continue_reply m else m)
  let_send c reply m = m

  -- the body isn't whole, and its client can send more
  abbrev pub may_come : Ledger J → Client → Bool
  may_come b c = is_there b && not c.ended && is_more (body_answer c.came c.limit)

  -- it is waited for, from now on
  abbrev pub wait_more : Client → Moves → Moves
  wait_more c m = let_send c c.reply (begin_timer timer.Body m)

  -- a piece of the body came: where more of it is waited for, the timer begins anew
  abbrev pub await_body : Moves → Moves
  await_body m = Look (λ b s. if (waits_of s).body && may_come b s.client then wait_more s.client m else m)

  -- a word of the run, and these after it
  abbrev pub says : Said → Moves → Moves
  says (said.Send bytes) m = change (λ c. record c { reply = begun c.reply }) (send bytes m)
  says said.WantsNoBody m = end_timer timer.Body m
  says (said.Times times) m = change (with_times times) m
  says (said.Ended closes) m = change (λ c. record c { reply = Whole closes }) m
  says said.Over m = end_timer timer.Body (change (λ c. record c { stage = stage.Flush }) m)

  -- a question to the outside ends the turn; one to the connection is answered as it settles
  abbrev pub asks_then : Asks J → Moves → Moves
  asks_then (Outside x) m = ask x m
  asks_then a m = m

  -- a turn of the run: the run comes to what the turn leaves, its deeds are done in order, and then these come, or its question to the outside
  abbrev pub run_turn : Turn J R → Moves → Moves
  run_turn t m = Set (λ s. record s { run = t.run }) (lifted says t.does (asks_then t.asks m))

  abbrev pub tell : RunSeen → Moves → Moves
  tell s m = Look (λ b st. run_turn (site.runs.turn now s b st.run) m)

  -- ---- the client's end

  -- it is hung up, and a run that goes on is told so
  abbrev pub lose_at : Stage → Both R → Moves
  lose_at stage.Busy s =
      HangUp place.Client (end_timer timer.Body (end_timer timer.Send (if (waits_of s).client then tell seen.ClientGone Done else Done)))
  lose_at st s = finish

  abbrev pub lose : Moves
  lose = Look (λ b s. lose_at s.client.stage s)

  -- ---- requests in turn

  -- a request begins
  abbrev pub begin : Moves → Head → Target → Moves
  begin rest head target =
      change (with_request head target (site.times_of head target))
      (Set (λ s. record s { run = site.runs.unborn }) (Look (λ b s. run_turn (site.runs.begun now head target b) rest)))

  -- where nothing of a last reply is left the life is over
  abbrev pub close_if_taken : Moves
  close_if_taken = Look (λ b s. if is_all_taken b then finish else Done)

  -- a head is refused: the client gets the reply, and nothing more is read; after a fault in a body that is dropped the connection closes
  abbrev pub refuse : At → ℕ → Moves
  refuse (line.Over status) code = change (with_refusal code site.default_times) (send (site.refusal code now) close_if_taken)
  refuse at code = finish

  -- what is waited for: more of a body that is dropped, the first byte of a head, or the rest of one
  abbrev pub wait_for : Held → Moves
  wait_for held.Body = change (λ c. record c { stage = stage.Drop }) (begin_timer timer.Body Done)
  wait_for held.Nothing = change (λ c. record c { stage = stage.Idle }) (begin_timer timer.Keepalive Done)
  wait_for h = change (λ c. record c { stage = stage.Head }) (begin_timer timer.Header Done)

  -- by what the bytes that came are answered with. Where more is waited for, a timer begins, or goes on; a client that ended is hung up
  abbrev pub heard_by : Bool → Moves → Came → Bool → LineOut → Moves
  heard_by anew rest came ended (out.Request head target) = end_timer timer.Header (begin rest head target)
  heard_by anew rest came ended (out.Refused code) = end_timer timer.Header (refuse came.at code)
  heard_by anew rest came ended answer = if ended then finish else (if anew then wait_for (held_in came.at came.held) else Done)

  abbrev pub heard : Bool → Moves → Bool → Fed → Moves
  heard anew rest ended f = change (λ c. record c { came = f.after }) (heard_by anew rest f.after ended f.answer)

  -- the reply is taken: the rest of the body is dropped, and what follows it is read
  abbrev pub next : Moves → Client → Moves
  next rest c = heard true rest c.ended (fed (done c.came) [])

  -- ---- what a run asked or waits for

  abbrev pub tell_body : Moves → Option RunSeen → Moves
  tell_body again None = Done
  tell_body again (Some s) = end_timer timer.Body (tell s again)

  -- a run that waits for the body is told once that is there, or refused
  abbrev pub ask_body : Moves → Ledger J → Client → Moves
  ask_body again b c =
      change (λ c. record c { came = after_asked c.came c.limit })
      (tell_body again (body_told (is_there b && not c.ended) c (body_answer c.came c.limit)))

  -- one that asks for it is told at once; while more can come, that it isn't there yet, and more is waited for
  abbrev pub answer_body : Moves → Option RunSeen → Moves
  answer_body again None = Look (λ b s. wait_more s.client (tell seen.NotYet again))
  answer_body again (Some s) = end_timer timer.Body (tell s again)

  -- not all is taken where the client is there and something is left for it
  abbrev pub taken_answer : Ledger J → RunSeen
  taken_answer b = if is_all_taken b then seen.AllTaken else seen.NotYet

  -- what it asked its connection
  abbrev pub answer_asked : Moves → Ledger J → Client → Asking → Moves
  answer_asked again b c (asking.Body max) =
      change (λ c. record c { limit = max; came = after_asked c.came max })
      (answer_body again (body_told (is_there b && not c.ended) (record c { limit = max }) (body_answer c.came max)))
  answer_asked again b c asking.AllTaken = tell (taken_answer b) again

  -- what it waits for; a reply that was the last of the connection ends that once it is taken
  abbrev pub waiting : Moves → Ledger J → Both R → Moves
  waiting again b s =
      if is_all_taken b && (waits_of s).taken then tell seen.AllTaken again
      else (if is_to_close b s.client then lose else (if (waits_of s).body then ask_body again b s.client else Done))

  -- a question is answered before all else
  abbrev pub busy_at : Option Asking → Moves → Ledger J → Both R → Moves
  busy_at (Some q) again b s = answer_asked again b s.client q
  busy_at None again b s = waiting again b s

  abbrev pub busy : Moves → Ledger J → Both R → Moves
  busy again b s = busy_at (waits_of s).asks again b s

  -- the run is over: once all is taken the connection closes, or goes on with the next request
  abbrev pub flush : Moves → Ledger J → Client → Moves
  flush rest b c = if not (is_all_taken b) then Done else (if not (is_there b) || closes_after c.reply then finish else next rest c)

  abbrev pub settled_at : Stage → Moves → Moves → Ledger J → Both R → Moves
  settled_at stage.Busy again rest b s = busy again b s
  settled_at stage.Flush again rest b s = flush rest b s.client
  settled_at st again rest b s = Done

  -- as often as the run can be told of its client; then, once it is over, the rest
  abbrev pub tells : Moves → ℕ → Moves
  tells rest zero = Look (λ b s. settled_at s.client.stage Done rest b s)
  tells rest (suc n) = Look (λ b s. settled_at s.client.stage (tells rest n) rest b s)

  -- for so many requests
  abbrev pub settle_for : ℕ → Moves
  settle_for zero = Done
  settle_for (suc n) = Look (λ b s. tells (settle_for n) (site.runs.tells_left s.run))

  -- after a turn's own moves the run is told what it waits for, and the next requests begin: no more of them than bytes are held
  abbrev pub settle : Moves
  settle = Look (λ b s. settle_for (suc (length s.client.came.held)))
