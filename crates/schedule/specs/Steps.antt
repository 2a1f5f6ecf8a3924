-- What a replay does step by step, and which steps the lines that it passed allow.
use Rattle.std.specs.Prelude.{◌≡◌, ℕ, ◌+◌, ◌-◌, ◌<◌, min, Bool, true, false, not, ◌||◌, ◌&&◌, nat_lt}
use Rattle.std.specs.Prelude.{List, [], ◌∷◌, ◌++◌, length, slice_get, Option, Some, None, if◌then◌else◌}
use Rattle.resty_base.specs.declared.names.Id.{Id}
use Rattle.resty_world.specs.declared.event.Event.{Event}
use Rattle.resty_world.specs.declared.event.Event.TheVariants as event
use Rattle.resty_world.specs.declared.entry.Entry.{Entry}
use Rattle.resty_world.specs.declared.entry.Entry.TheVariants as entry
use Rattle.resty_world.specs.declared.schedule_line.SchedLine.{SchedLine}
use Rattle.resty_world.specs.declared.schedule_line.SchedLine.TheVariants as line
use Rattle.resty_world.specs.Given.{named_id, names_absent}
use Rattle.resty_world.specs.Ids.{same_id}
use Rattle.schedule_text.specs.Ranges.{IsBytes}
use Rattle.schedule.specs.Counts.{arrived_in, dials_in}
use Rattle.schedule.specs.OpenIds.{hung_up, has_ended}

-- a step: a line is passed; a call is answered by an entry, of a piece of that length where it is a write; listening on a port is
-- answered, and it fails or not; or an event is asked for where the next line is bad, or after the last line
pub data Step : Type 0 where
  Passed : SchedLine → Step
  Answered : Entry → ℕ → Step
  Listened : ℕ → Bool → Step
  AskedAtBadLine : Step
  AskedAtEnd : Step

-- the line isn't given: its id was hung up, or it has bytes of an id that ended or broke
abbrev pub names_closed : List Entry → Option Id → Bool
names_closed history None = false
names_closed history (Some i) = hung_up history i

abbrev pub names_ended : List Entry → SchedLine → Bool
names_ended history (line.Given (event.Bytes i bytes)) = has_ended history i
names_ended history l = false

abbrev pub is_skipped : List Entry → SchedLine → Bool
is_skipped history l = names_closed history (named_id l) || names_ended history l

-- the entry of a line that is passed: an event is given, a setting leaves none
abbrev pub given_by : List Entry → SchedLine → List Entry
given_by history (line.Given e) = if is_skipped history (line.Given e) then [] else entry.Given e ∷ []
given_by history l = []

-- the history of the steps, the newest first
abbrev pub history_of : List Step → List Entry
history_of [] = []
history_of (Passed l ∷ steps) = given_by (history_of steps) l ++ history_of steps
history_of (Answered e n ∷ steps) = e ∷ history_of steps
history_of (Listened port failed ∷ steps) = history_of steps
history_of (AskedAtBadLine ∷ steps) = history_of steps
history_of (AskedAtEnd ∷ steps) = history_of steps

-- the lines that were passed, in the order of the schedule
abbrev pub lines_of : List Step → List SchedLine
lines_of [] = []
lines_of (Passed l ∷ steps) = lines_of steps ++ l ∷ []
lines_of (Answered e n ∷ steps) = lines_of steps
lines_of (Listened port failed ∷ steps) = lines_of steps
lines_of (AskedAtBadLine ∷ steps) = lines_of steps
lines_of (AskedAtEnd ∷ steps) = lines_of steps

-- the lengths of the pieces that were taken or put off, the newest first
abbrev pub offers_by : Entry → ℕ → List ℕ → List ℕ
offers_by (entry.Put i bytes) n others = n ∷ others
offers_by (entry.Later i) n others = n ∷ others
offers_by e n others = others

abbrev pub offers_of : List Step → List ℕ
offers_of [] = []
offers_of (Passed l ∷ steps) = offers_of steps
offers_of (Answered e n ∷ steps) = offers_by e n (offers_of steps)
offers_of (Listened port failed ∷ steps) = offers_of steps
offers_of (AskedAtBadLine ∷ steps) = offers_of steps
offers_of (AskedAtEnd ∷ steps) = offers_of steps

-- a call that a line makes fail
pub data Call : Type 0 where
  Dialling : Call
  Logging : Call
  Writing : Id → Call

abbrev pub same_call : Call → Call → Bool
same_call Dialling Dialling = true
same_call Logging Logging = true
same_call (Writing i) (Writing j) = same_id i j
same_call c d = false

abbrev pub is_call : Option Call → Call → Bool
is_call None c = false
is_call (Some d) c = same_call c d

-- the call that a line makes fail, and the call that an entry answers
abbrev pub failing_by : SchedLine → Option Call
failing_by line.FailDial = Some Dialling
failing_by line.FailLog = Some Logging
failing_by (line.FailPut i) = Some (Writing i)
failing_by l = None

abbrev pub answered_by : Entry → Option Call
answered_by (entry.Put i bytes) = Some (Writing i)
answered_by (entry.Later i) = Some (Writing i)
answered_by (entry.Lost i) = Some (Writing i)
answered_by (entry.Dial who host port n) = Some Dialling
answered_by (entry.Log who text written) = Some Logging
answered_by e = None

-- the entry says that its call failed
abbrev pub tells_failure : Entry → Bool
tells_failure (entry.Lost i) = true
tells_failure (entry.Dial who host port None) = true
tells_failure (entry.Log who text false) = true
tells_failure e = false

abbrev pub one_if : Bool → ℕ
one_if b = if b then 1 else 0

-- how many `fail` lines for a call were passed and aren't spent: each call that fails spends one
abbrev pub unspent : Call → List Step → ℕ
unspent c [] = 0
unspent c (Passed l ∷ steps) = unspent c steps + one_if (is_call (failing_by l) c)
unspent c (Answered e n ∷ steps) = unspent c steps - one_if (tells_failure e && is_call (answered_by e) c)
unspent c (Listened port failed ∷ steps) = unspent c steps
unspent c (AskedAtBadLine ∷ steps) = unspent c steps
unspent c (AskedAtEnd ∷ steps) = unspent c steps

-- the room after a `room` line, and after an entry
abbrev pub room_by : SchedLine → Id → Option ℕ → Option ℕ
room_by (line.Room i n) x room = if same_id x i then n else room
room_by l x room = room

abbrev pub less : ℕ → Option ℕ → Option ℕ
less n None = None
less n (Some room) = Some (room - n)

abbrev pub room_after : Entry → Id → Option ℕ → Option ℕ
room_after (entry.Put i bytes) x room = if same_id x i then less (length bytes) room else room
room_after e x room = room

-- How many bytes a connection or a socket takes: so many as its last `room` line gave, less what it took since; all where there is none.
abbrev pub room_of : Id → List Step → Option ℕ
room_of x [] = None
room_of x (Passed l ∷ steps) = room_by l x (room_of x steps)
room_of x (Answered e n ∷ steps) = room_after e x (room_of x steps)
room_of x (Listened port failed ∷ steps) = room_of x steps
room_of x (AskedAtBadLine ∷ steps) = room_of x steps
room_of x (AskedAtEnd ∷ steps) = room_of x steps

-- so many bytes are taken of a piece: the least of its length and the room, which isn't 0
abbrev pub TakesLeast : ℕ → Option ℕ → ℕ → Type 0
TakesLeast offered None taken = taken ≡ offered
TakesLeast offered (Some room) taken = (0 < room) × (taken ≡ min offered room)

-- a call fails exactly where a `fail` line for it is unspent
abbrev pub FailsRightly : Option Call → Bool → List Step → Type 0
FailsRightly None failed steps = Unit {0}
FailsRightly (Some c) failed steps = failed ≡ nat_lt 0 (unspent c steps)

-- What a call answers: a write takes bytes, the least of what it was offered and the room, and is put off where there is none; sockets are
-- numbered in order; a log line is of bytes. Events come of their lines alone.
abbrev pub IsAnswer : List Step → Entry → ℕ → Type 0
IsAnswer steps (entry.Given e) n = ⊥
IsAnswer steps (entry.Put i bytes) n = TakesLeast n (room_of i steps) (length bytes) × IsBytes bytes
IsAnswer steps (entry.Later i) n = room_of i steps ≡ Some 0
IsAnswer steps (entry.Dial who host port (Some k)) n = k ≡ dials_in (history_of steps) + 1
IsAnswer steps (entry.Log who text written) n = IsBytes text
IsAnswer steps e n = Unit {0}

-- listening failed before
abbrev pub has_listened_in_vain : List Step → Bool
has_listened_in_vain [] = false
has_listened_in_vain (Listened port failed ∷ steps) = failed || has_listened_in_vain steps
has_listened_in_vain (Passed l ∷ steps) = has_listened_in_vain steps
has_listened_in_vain (Answered e n ∷ steps) = has_listened_in_vain steps
has_listened_in_vain (AskedAtBadLine ∷ steps) = has_listened_in_vain steps
has_listened_in_vain (AskedAtEnd ∷ steps) = has_listened_in_vain steps

-- the port that the world listens on
abbrev pub port_of : List Step → Option ℕ
port_of [] = None
port_of (Passed l ∷ steps) = port_of steps
port_of (Answered e n ∷ steps) = port_of steps
port_of (Listened port failed ∷ steps) = if failed then port_of steps else Some port
port_of (AskedAtBadLine ∷ steps) = port_of steps
port_of (AskedAtEnd ∷ steps) = port_of steps

-- the schedule begins with `fail listen`
abbrev pub begins_by_failing : List SchedLine → Bool
begins_by_failing (line.FailListen ∷ lines) = true
begins_by_failing lines = false

-- the newest event of a history
abbrev pub newest_given : List Entry → Option Event
newest_given [] = None
newest_given (entry.Given e ∷ history) = Some e
newest_given (e ∷ history) = newest_given history

-- the line answers an asking, by its event or by a fault
abbrev pub answers_asking : List Entry → SchedLine → Bool
answers_asking history (line.Given e) = not (is_skipped history (line.Given e))
answers_asking history line.FailNext = true
answers_asking history l = false

-- the steps stand within an asking: the newest passed a line that doesn't answer it
abbrev pub within_asking : List Step → Bool
within_asking [] = false
within_asking (Passed l ∷ steps) = not (answers_asking (history_of steps) l)
within_asking (s ∷ steps) = false

-- the line names an id that was never there
abbrev pub names_absent_now : List Step → SchedLine → Bool
names_absent_now steps l = names_absent (arrived_in (history_of steps)) (dials_in (history_of steps)) (named_id l)

-- A step may come after the steps before it. A line that is passed names no id that was never there, and a bad line does. No call is answered
-- within an asking. Listening fails once, where the schedule begins with `fail listen`. The last line is `stop`.
abbrev pub IsStep : List SchedLine → List Step → Step → Type 0
IsStep schedule steps (Passed l) = names_absent_now steps l ≡ false
IsStep schedule steps (Answered e n) = FailsRightly (answered_by e) (tells_failure e) steps × IsAnswer steps e n × (within_asking steps ≡ false)
IsStep schedule steps (Listened port failed) = (failed ≡ (begins_by_failing schedule && not (has_listened_in_vain steps))) × (within_asking steps ≡ false)
IsStep schedule steps AskedAtBadLine = (l : SchedLine) × (slice_get schedule (length (lines_of steps)) ≡ Some l) × (names_absent_now steps l ≡ true)
IsStep schedule steps AskedAtEnd = newest_given (history_of steps) ≡ Some event.Stop

-- each step may come where it stands
abbrev pub AreSteps : List SchedLine → List Step → Type 0
AreSteps schedule [] = Unit {0}
AreSteps schedule (s ∷ steps) = AreSteps schedule steps × IsStep schedule steps s

-- the step is a fault of the world: `fail next` is one of the event that was asked for
abbrev pub is_fail_next : SchedLine → Bool
is_fail_next line.FailNext = true
is_fail_next l = false

abbrev pub is_failed_log : Entry → Bool
is_failed_log (entry.Log who text false) = true
is_failed_log e = false

abbrev pub is_faulty : Step → Bool
is_faulty (Passed l) = is_fail_next l
is_faulty (Answered e n) = is_failed_log e
is_faulty (Listened port failed) = failed
is_faulty AskedAtBadLine = false
is_faulty AskedAtEnd = true

-- how many faults there were
abbrev pub faults_in : List Step → ℕ
faults_in [] = 0
faults_in (s ∷ steps) = faults_in steps + one_if (is_faulty s)
