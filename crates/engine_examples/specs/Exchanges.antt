-- Exchanges, each in the order in which it happens.
use Rattle.std.specs.Prelude.{ℕ, ◌+◌, ◌==◌, Bool, true, false, pos, List, [], ◌∷◌, ◌++◌, reverse, Option, Some, None, if◌then◌else◌, codes}
use Rattle.resty_base.specs.declared.names.Id.TheVariants as id
use Rattle.resty_base.specs.declared.names.StrandId.TheVariants as strand
use Rattle.resty_base.specs.declared.dictionary.DictCall.{DictCall}
use Rattle.resty_base.specs.declared.dictionary.DictCall.TheVariants as call
use Rattle.resty_base.specs.declared.dictionary.DictAnswer.{DictAnswer}
use Rattle.resty_base.specs.declared.dictionary.DictAnswer.TheVariants as answer
use Rattle.resty_world.specs.declared.event.Event.TheVariants as event
use Rattle.resty_world.specs.declared.entry.Entry.{Entry}
use Rattle.resty_world.specs.declared.entry.Entry.TheVariants as entry
use Rattle.resty_world.specs.declared.answers.TimerAnswer.TheVariants as timer
use Rattle.strand_contract.specs.declared.turns.Place.TheVariants as place
use Rattle.strand_contract.specs.declared.turns.Act.{Act}
use Rattle.strand_contract.specs.declared.turns.Start.TheVariants as start
use Rattle.strand_contract.specs.Actions.{Moment, Stop, Action, Began, Bytes, Ready, Dialled, Put, Later, Close, Log, Dict, Take, Dial, Keep, Timer, Dropped}
use Rattle.strand_contract.specs.Actions.{Run, Offer, Due, Halted, Gone, LocalAction, Did}
use Rattle.strand_contract.specs.Behaviors.{Behavior}
use Rattle.executions.specs.Executions.{GlobalAction, Of, Everyone, TurnedAway, IdleGave, IdleClosed}
use Rattle.engine_examples.specs.Scripts.{Op, Sleep, Say, Write, Call, Connect, Receive, GiveBack, At, script_behavior}

abbrev pub Happens : Type 0
Happens = List (GlobalAction ℕ)

-- an action without a number, of a connection and of a job
abbrev pub conn : ℕ → Action ℕ → GlobalAction ℕ
conn c x = Of (strand.Conn c) x None

abbrev pub job : ℕ → Action ℕ → GlobalAction ℕ
job j x = Of (strand.Job j) x None

abbrev pub arrive : ℕ → ℕ → GlobalAction ℕ
arrive now c = conn c (Began now (start.Client c))

abbrev pub asks : ℕ → ℕ → GlobalAction ℕ
asks c program = conn c (Bytes place.Client (program ∷ []))

abbrev pub backend : List ℕ
backend = codes "127.0.0.1:9000"

abbrev pub raise : DictCall
raise = call.Incr (codes "k") (pos 1) (Some (pos 0)) 0

abbrev pub programs : ℕ → List Op
programs n =
    if n == 1 then Sleep 50 ∷ Say (codes "a") ∷ []
    else if n == 2 then Sleep 50 ∷ Call 0 raise ∷ []
    else if n == 3 then Connect backend ∷ Receive ∷ GiveBack backend 60_000 30 ∷ []
    else if n == 4 then At 0 1 ∷ Say (codes "ok") ∷ []
    else if n == 5 then Sleep 0 ∷ Say (codes "a") ∷ []
    else if n == 6 then At 50 1 ∷ []
    else if n == 7 then Connect backend ∷ Receive ∷ GiveBack backend 50 1 ∷ []
    else if n == 8 then At 0 2 ∷ []
    else if n == 9 then At 9 1 ∷ At 5 1 ∷ []
    else if n == 10 then Say (codes "a") ∷ []
    else if n == 11 then Call 0 raise ∷ Call 0 (call.Get (codes "k")) ∷ []
    else if n == 12 then Connect backend ∷ Receive ∷ GiveBack backend 60_000 30 ∷ At 0 1 ∷ []
    else if n == 13 then Say (codes "b") ∷ []
    else []

abbrev pub jobs : ℕ → List Op
jobs n = if n == 1 then Write (codes "x") ∷ [] else Sleep 9 ∷ []

abbrev pub b : Behavior ℕ
b = script_behavior programs jobs 512

-- a reply is offered, taken whole, and the line is closed
abbrev pub replies : ℕ → List ℕ → Happens
replies c text = conn c (Offer place.Client) ∷ conn c (Put place.Client text) ∷ conn c (Close place.Client) ∷ conn c Gone ∷ []

-- one request and its reply; the reply is held back until the next event
abbrev pub one_request : Happens
one_request = reverse (arrive 0 1 ∷ asks 1 10 ∷ conn 1 (Run 0) ∷ replies 1 (codes "a") ++ Everyone Stop ∷ [])

abbrev pub held_back : Happens
held_back = reverse (arrive 0 1 ∷ asks 1 10 ∷ conn 1 (Run 0) ∷ Everyone (Moment 5) ∷ replies 1 (codes "a") ++ Everyone Stop ∷ [])

-- a connection arrives with this number
abbrev pub numbered : ℕ → Happens
numbered c = arrive 0 c ∷ []

-- two clients, of which the first is sent this byte
abbrev pub two_replies : List ℕ → Happens
two_replies first =
    reverse (arrive 0 1 ∷ arrive 0 2 ∷ asks 1 10 ∷ conn 1 (Run 0) ∷ replies 1 first ++ asks 2 13 ∷ conn 2 (Run 0) ∷ replies 2 (codes "b") ++ Everyone Stop ∷ [])

-- two sleepers: c2 armed first
abbrev pub two_asleep : Happens
two_asleep = arrive 0 1 ∷ arrive 0 2 ∷ asks 2 1 ∷ conn 2 (Run 0) ∷ asks 1 1 ∷ conn 1 (Run 0) ∷ Everyone (Moment 50) ∷ []

abbrev pub awake : ℕ → ℕ → Happens
awake first second = conn first (Due 2) ∷ conn second (Due 2) ∷ conn first (Run 0) ∷ conn second (Run 0) ∷ []

abbrev pub sleepers : Happens
sleepers = reverse (two_asleep ++ awake 2 1 ++ replies 2 (codes "a") ++ replies 1 (codes "a") ++ Everyone Stop ∷ [])

abbrev pub sleepers_exchanged : Happens
sleepers_exchanged = reverse (two_asleep ++ awake 1 2 ++ replies 1 (codes "a") ++ replies 2 (codes "a") ++ Everyone Stop ∷ [])

-- the one runs before the other was woken
abbrev pub runs_early : Happens
runs_early =
    reverse (two_asleep ++ conn 2 (Due 2) ∷ conn 2 (Run 0) ∷ conn 1 (Due 2) ∷ conn 1 (Run 0) ∷ replies 2 (codes "a") ++ replies 1 (codes "a")
    ++ Everyone Stop ∷ [])

-- a sleep of 0: at the next moment, and at once
abbrev pub sleeps_zero : Happens
sleeps_zero =
    reverse (arrive 0 1 ∷ asks 1 5 ∷ conn 1 (Run 0) ∷ Everyone (Moment 0) ∷ conn 1 (Due 2) ∷ conn 1 (Run 0) ∷ replies 1 (codes "a") ++ Everyone Stop ∷ [])

abbrev pub ends_at_once : Happens
ends_at_once = reverse (arrive 0 1 ∷ asks 1 5 ∷ conn 1 (Run 0) ∷ conn 1 (Due 2) ∷ conn 1 (Run 0) ∷ replies 1 (codes "a") ++ Everyone Stop ∷ [])

-- two count in one dictionary after a sleep
abbrev pub counts_as : ℕ → ℕ → GlobalAction ℕ
counts_as c n = conn c (Dict 0 raise (answer.Number (pos n) false))

abbrev pub counted : ℕ → Happens
counted second =
    reverse (arrive 0 1 ∷ asks 1 2 ∷ conn 1 (Run 0) ∷ arrive 0 2 ∷ asks 2 2 ∷ conn 2 (Run 0) ∷ Everyone (Moment 50)
    ∷ conn 1 (Due 2) ∷ conn 2 (Due 2) ∷ conn 1 (Run 0) ∷ counts_as 1 1 ∷ conn 2 (Run 0) ∷ counts_as 2 second
    ∷ replies 1 (codes "1\n") ++ replies 2 ((48 + second) ∷ 10 ∷ []) ++ Everyone Stop ∷ [])

abbrev pub counted_history : List Entry
counted_history = reverse (
    entry.Given (event.Arrive 1) ∷ entry.Given (event.Bytes (id.Conn 1) (2 ∷ [])) ∷ entry.Given (event.Arrive 2) ∷ entry.Given (event.Bytes (id.Conn 2) (2
    ∷ []))
    ∷ entry.Given (event.Moment (record { 0 = 50 })) ∷ entry.Dict (strand.Conn 1) (codes "d") raise (answer.Number (pos 1) false)
    ∷ entry.Dict (strand.Conn 2) (codes "d") raise (answer.Number (pos 2) false)
    ∷ entry.Put (id.Conn 1) (codes "1\n") ∷ entry.Close (id.Conn 1) ∷ entry.Put (id.Conn 2) (codes "2\n") ∷ entry.Close (id.Conn 2) ∷ entry.Given event.Stop
    ∷ [])

-- the key that was counted is read
abbrev pub read_as : DictAnswer → Happens
read_as given =
    reverse (arrive 0 1 ∷ asks 1 11 ∷ conn 1 (Run 0) ∷ counts_as 1 1 ∷ conn 1 (Dict 0 (call.Get (codes "k")) given)
    ∷ replies 1 (codes "1\nnil\n") ++ Everyone Stop ∷ [])

-- keep and take again: c1 dials s1 and keeps it, c2 takes it and keeps it
abbrev pub first_use : ℕ → Happens
first_use program =
    arrive 0 1 ∷ asks 1 program ∷ conn 1 (Run 0) ∷ conn 1 (Take backend None) ∷ Of (strand.Conn 1) (Dial (127 ∷ 0 ∷ 0 ∷ 1 ∷ []) 9_000 true) (Some 1)
    ∷ conn 1 (Dialled 0) ∷ conn 1 (Run 0) ∷ conn 1 (Offer place.Client) ∷ conn 1 (Put place.Client (codes "1 0\n"))
    ∷ conn 1 (Bytes (place.Sock 0) (codes "x")) ∷ conn 1 (Run 0) ∷ []

abbrev pub over : ℕ → Happens
over c = conn c (Close place.Client) ∷ conn c Gone ∷ []

abbrev pub keeps : ℕ → ℕ → ℕ → Option ℕ → GlobalAction ℕ
keeps c idle size crowded = Of (strand.Conn c) (Keep 0 backend (record { 0 = idle }) size) crowded

abbrev pub second_use : Happens
second_use =
    arrive 0 2 ∷ asks 2 3 ∷ conn 2 (Run 0) ∷ Of (strand.Conn 2) (Take backend (Some 1)) (Some 1)
    ∷ conn 2 (Offer place.Client) ∷ conn 2 (Put place.Client (codes "1 1\n")) ∷ conn 2 (Bytes (place.Sock 0) (codes "x")) ∷ conn 2 (Run 0)
    ∷ keeps 2 60_000 30 None ∷ over 2

-- then the idle socket gives a byte and is closed; c3 finds none and dials; Stop closes the line and the socket of c3
abbrev pub reused : Happens
reused =
    reverse (first_use 3 ++ keeps 1 60_000 30 None ∷ over 1 ++ second_use ++ IdleGave (event.Bytes (id.Sock 1) (codes "z"))
    ∷ arrive 0 3 ∷ asks 3 3 ∷ conn 3 (Run 0) ∷ conn 3 (Take backend None) ∷ Of (strand.Conn 3) (Dial (127 ∷ 0 ∷ 0 ∷ 1 ∷ []) 9_000 true) (Some 2)
    ∷ Everyone Stop ∷ conn 3 Halted ∷ conn 3 (Close place.Client) ∷ conn 3 (Close (place.Sock 0)) ∷ conn 3 Gone ∷ [])

abbrev pub reused_history : List Entry
reused_history = reverse (
    entry.Given (event.Arrive 1) ∷ entry.Given (event.Bytes (id.Conn 1) (3 ∷ [])) ∷ entry.Take (strand.Conn 1) backend None
    ∷ entry.Dial (strand.Conn 1) (127 ∷ 0 ∷ 0 ∷ 1 ∷ []) 9_000 (Some 1) ∷ entry.Given (event.Dialled 1) ∷ entry.Put (id.Conn 1) (codes "1 0\n")
    ∷ entry.Given (event.Bytes (id.Sock 1) (codes "x")) ∷ entry.Keep (strand.Conn 1) 1 backend (record { 0 = 60_000 }) 30 None ∷ entry.Close (id.Conn 1)
    ∷ entry.Given (event.Arrive 2) ∷ entry.Given (event.Bytes (id.Conn 2) (3 ∷ [])) ∷ entry.Take (strand.Conn 2) backend (Some (1, 1))
    ∷ entry.Put (id.Conn 2) (codes "1 1\n") ∷ entry.Given (event.Bytes (id.Sock 1) (codes "x"))
    ∷ entry.Keep (strand.Conn 2) 1 backend (record { 0 = 60_000 }) 30 None
    ∷ entry.Close (id.Conn 2) ∷ entry.Given (event.Bytes (id.Sock 1) (codes "z")) ∷ entry.Close (id.Sock 1)
    ∷ entry.Given (event.Arrive 3) ∷ entry.Given (event.Bytes (id.Conn 3) (3 ∷ [])) ∷ entry.Take (strand.Conn 3) backend None
    ∷ entry.Dial (strand.Conn 3) (127 ∷ 0 ∷ 0 ∷ 1 ∷ []) 9_000 (Some 2) ∷ entry.Given event.Stop ∷ entry.Close (id.Conn 3) ∷ entry.Close (id.Sock 2) ∷ [])

-- the idle socket is closed at Stop; it isn't
abbrev pub idle_at_stop : Happens
idle_at_stop = reverse (first_use 3 ++ keeps 1 60_000 30 None ∷ over 1 ++ Everyone Stop ∷ IdleClosed 1 ∷ [])

abbrev pub idle_stays : Happens
idle_stays = reverse (first_use 3 ++ keeps 1 60_000 30 None ∷ over 1 ++ Everyone Stop ∷ [])

-- a strand is told that it took a socket, and the history that there was none
abbrev pub took_none : Happens
took_none =
    reverse (arrive 0 1 ∷ asks 1 3 ∷ conn 1 (Run 0) ∷ conn 1 (Take backend (Some 1)) ∷ conn 1 (Offer place.Client)
    ∷ conn 1 (Put place.Client (codes "1 1\n")) ∷ [])

-- a job starts at the next moment
abbrev pub asked_job : ℕ → Happens
asked_job program = arrive 0 1 ∷ asks 1 program ∷ conn 1 (Run 0) ∷ []

abbrev pub accepts : ℕ → GlobalAction ℕ
accepts at = conn 1 (Timer (record { 0 = at }) (timer.Job 1))

abbrev pub started : Happens
started =
    reverse (asked_job 4 ++ accepts 0 ∷ replies 1 (codes "ok") ++ Everyone (Moment 5) ∷ job 1 (Began 5 (start.Job 1 false 1)) ∷ job 1 (Run 0)
    ∷ job 1 (Log (codes "x") true) ∷ job 1 Gone ∷ Everyone Stop ∷ [])

abbrev pub started_history : List Entry
started_history = reverse (
    entry.Given (event.Arrive 1) ∷ entry.Given (event.Bytes (id.Conn 1) (4 ∷ [])) ∷ entry.Timer (strand.Conn 1) (record { 0 = 0 }) (timer.Job 1)
    ∷ entry.Put (id.Conn 1) (codes "ok") ∷ entry.Close (id.Conn 1) ∷ entry.Given (event.Moment (record { 0 = 5 })) ∷ entry.Start 1
    ∷ entry.Log (strand.Job 1) (codes "x") true ∷ entry.Given event.Stop ∷ [])

-- it starts without a moment
abbrev pub started_early : Happens
started_early =
    reverse (asked_job 4 ++ accepts 0 ∷ replies 1 (codes "ok") ++ job 1 (Began 0 (start.Job 1 false 1)) ∷ job 1 (Run 0)
    ∷ job 1 (Log (codes "x") true) ∷ job 1 Gone ∷ Everyone Stop ∷ [])

-- after Stop it is premature
abbrev pub premature : Bool → Happens
premature flag =
    reverse (asked_job 4 ++ accepts 0 ∷ replies 1 (codes "ok") ++ Everyone Stop ∷ job 1 (Began 0 (start.Job 1 flag 1)) ∷ job 1 (Run 0)
    ∷ (if flag then job 1 (Log (codes "premature") true) ∷ [] else []) ++ job 1 (Log (codes "x") true) ∷ job 1 Gone ∷ [])

-- one that sleeps then is ended; it isn't
abbrev pub sleeps_on : Happens
sleeps_on =
    asked_job 8 ++ accepts 0 ∷ over 1 ++ Everyone Stop ∷ job 1 (Began 0 (start.Job 1 true 2)) ∷ job 1 (Run 0) ∷ job 1 (Log (codes "premature") true) ∷ []

abbrev pub wound_up : Happens
wound_up = reverse (sleeps_on ++ job 1 Halted ∷ job 1 Gone ∷ [])

abbrev pub lives_on : Happens
lives_on = reverse sleeps_on

-- a job that can't start is dropped in the place of its start
abbrev pub never_started : Happens
never_started = reverse (asked_job 4 ++ accepts 0 ∷ replies 1 (codes "ok") ++ Everyone (Moment 5) ∷ job 1 Dropped ∷ Everyone Stop ∷ [])

-- a strand with a line and a socket is dropped: both are closed, in this order
abbrev pub dropped_by : Happens → Happens
dropped_by closings = reverse (first_use 3 ++ conn 1 Dropped ∷ closings ++ Everyone Stop ∷ [])

abbrev pub line_then_socket : Happens
line_then_socket = conn 1 (Close place.Client) ∷ conn 1 (Close (place.Sock 0)) ∷ []

abbrev pub socket_then_line : Happens
socket_then_line = conn 1 (Close (place.Sock 0)) ∷ conn 1 (Close place.Client) ∷ []

-- another strand's turn comes before its line is closed
abbrev pub others_between : Happens
others_between =
    reverse (two_asleep ++ conn 2 (Due 2) ∷ conn 2 Dropped ∷ conn 1 (Due 2) ∷ conn 2 (Close place.Client) ∷ conn 1 (Run 0) ∷ replies 1 (codes "a")
    ++ Everyone Stop ∷ [])

abbrev pub none_between : Happens
none_between =
    reverse (two_asleep ++ conn 2 (Due 2) ∷ conn 2 Dropped ∷ conn 2 (Close place.Client) ∷ conn 1 (Due 2) ∷ conn 1 (Run 0) ∷ replies 1 (codes "a")
    ++ Everyone Stop ∷ [])

-- one connection may be open at a time
abbrev pub narrow : Behavior ℕ
narrow = script_behavior programs jobs 1

abbrev pub turned : Happens
turned = reverse (arrive 0 1 ∷ TurnedAway 2 ∷ Everyone Stop ∷ conn 1 Halted ∷ over 1)

abbrev pub not_turned : Happens
not_turned = reverse (arrive 0 1 ∷ arrive 0 2 ∷ Everyone Stop ∷ conn 1 Halted ∷ over 1 ++ conn 2 Halted ∷ over 2)

-- a kept socket that expires, a job and a sleeper, all due at 50, in the order of arming
abbrev pub all_at_50 : Happens → Happens
all_at_50 comes =
    reverse (first_use 7 ++ keeps 1 50 1 None ∷ over 1 ++ arrive 0 2 ∷ asks 2 6 ∷ conn 2 (Run 0) ∷ conn 2 (Timer (record { 0 = 50 }) (timer.Job 1)) ∷ over 2
    ++ arrive 0 3 ∷ asks 3 1 ∷ conn 3 (Run 0) ∷ Everyone (Moment 60) ∷ comes ++ job 1 (Run 0) ∷ job 1 (Log (codes "x") true) ∷ job 1 Gone
    ∷ conn 3 (Run 0) ∷ replies 3 (codes "a") ++ Everyone Stop ∷ [])

abbrev pub in_order : Happens
in_order = IdleClosed 1 ∷ job 1 (Began 60 (start.Job 1 false 1)) ∷ conn 3 (Due 2) ∷ []

abbrev pub job_first : Happens
job_first = job 1 (Began 60 (start.Job 1 false 1)) ∷ IdleClosed 1 ∷ conn 3 (Due 2) ∷ []

-- two keep a socket where one may be idle: the first is closed for the second
abbrev pub dials : ℕ → ℕ → ℕ → Happens
dials program c n =
    arrive 0 c ∷ asks c program ∷ conn c (Run 0) ∷ conn c (Take backend None) ∷ Of (strand.Conn c) (Dial (127 ∷ 0 ∷ 0 ∷ 1 ∷ []) 9_000 true) (Some n)
    ∷ conn c (Dialled 0) ∷ conn c (Run 0) ∷ conn c (Offer place.Client) ∷ conn c (Put place.Client (codes "1 0\n")) ∷ []

abbrev pub gets : ℕ → Happens
gets c = conn c (Bytes (place.Sock 0) (codes "x")) ∷ conn c (Run 0) ∷ []

abbrev pub crowded : Option ℕ → Happens
crowded out =
    reverse (dials 7 1 1 ++ dials 7 2 2 ++ gets 1 ++ keeps 1 50 1 None ∷ over 1 ++ gets 2 ++ keeps 2 50 1 out ∷ over 2 ++ IdleGave (event.Ready (id.Sock 2))
    ∷ Everyone Stop ∷ IdleClosed 2 ∷ [])

-- of two idle sockets of a key this one is taken
abbrev pub two_idle : ℕ → Happens
two_idle n =
    reverse (dials 3 1 1 ++ dials 3 2 2 ++ gets 1 ++ keeps 1 60_000 30 None ∷ over 1 ++ gets 2 ++ keeps 2 60_000 30 None ∷ over 2
    ++ arrive 0 3 ∷ asks 3 3 ∷ conn 3 (Run 0) ∷ Of (strand.Conn 3) (Take backend (Some 1)) (Some n) ∷ conn 3 (Offer place.Client)
    ∷ conn 3 (Put place.Client (codes "1 1\n")) ∷ [])

-- Stop: a client is ended, an idle socket is closed, a job starts; the last two in this order
abbrev pub all_at_stop : Happens → Happens
all_at_stop comes =
    reverse (first_use 12 ++ keeps 1 60_000 30 None ∷ accepts 0 ∷ over 1 ++ arrive 0 2 ∷ Everyone Stop ∷ conn 2 Halted ∷ over 2 ++ comes
    ++ job 1 (Run 0) ∷ job 1 (Log (codes "premature") true) ∷ job 1 (Log (codes "x") true) ∷ job 1 Gone ∷ [])

abbrev pub socket_then_job : Happens
socket_then_job = IdleClosed 1 ∷ job 1 (Began 0 (start.Job 1 true 1)) ∷ []

abbrev pub job_then_socket : Happens
job_then_socket = job 1 (Began 0 (start.Job 1 true 1)) ∷ IdleClosed 1 ∷ []

-- a dial that failed, and one that is told as failed though it began
abbrev pub fails : Bool → Happens
fails done = reverse (arrive 0 1 ∷ asks 1 3 ∷ conn 1 (Run 0) ∷ conn 1 (Take backend None) ∷ conn 1 (Dial (127 ∷ 0 ∷ 0 ∷ 1 ∷ []) 9_000 done) ∷ [])

-- a place that was put off is offered again once it is ready
abbrev pub put_off : Happens → Happens
put_off again =
    reverse (asked_job 4 ++ accepts 0 ∷ conn 1 (Offer place.Client) ∷ conn 1 (Put place.Client (codes "o")) ∷ conn 1 (Later place.Client)
    ∷ conn 1 (Ready place.Client) ∷ again)

abbrev pub offered_again : Happens
offered_again = conn 1 (Offer place.Client) ∷ conn 1 (Put place.Client (codes "k")) ∷ over 1

-- one that doesn't offer it again
abbrev pub forgetful : List (LocalAction ℕ) → List (Act ℕ)
forgetful (Did (Ready q) ∷ es) = []
forgetful es = b.acts es

abbrev pub forgets : Behavior ℕ
forgets = record b { acts = forgetful }

-- at Stop jobs start by the moment at which they are due; then all are ended
abbrev pub two_jobs : Happens
two_jobs = asked_job 9 ++ conn 1 (Timer (record { 0 = 9 }) (timer.Job 1)) ∷ conn 1 (Timer (record { 0 = 5 }) (timer.Job 2)) ∷ over 1 ++ Everyone Stop ∷ []

abbrev pub begins_job : ℕ → GlobalAction ℕ
begins_job j = job j (Began 0 (start.Job j true 1))

abbrev pub runs_job : ℕ → Happens
runs_job j = job j (Run 0) ∷ job j (Log (codes "premature") true) ∷ job j (Log (codes "x") true) ∷ job j Gone ∷ []

abbrev pub jobs_at_stop : ℕ → ℕ → Happens
jobs_at_stop i j = reverse (two_jobs ++ begins_job i ∷ begins_job j ∷ runs_job i ++ runs_job j)

-- a strand is dropped as Stop ends it, and another's is ended after it
abbrev pub dropped_at_stop : Happens
dropped_at_stop = reverse (arrive 0 1 ∷ arrive 0 2 ∷ Everyone Stop ∷ conn 1 Halted ∷ conn 1 Dropped ∷ conn 1 (Close place.Client) ∷ conn 2 Halted ∷ over 2)

-- a strand is dropped for what another one does
abbrev pub dropped_by_others : Happens
dropped_by_others = reverse (arrive 0 1 ∷ arrive 0 2 ∷ asks 2 4 ∷ conn 2 (Run 0) ∷ conn 2 (Timer (record { 0 = 0 }) (timer.Job 1)) ∷ conn 1 Dropped ∷ [])
