-- The events that a world gives.
use Rattle.std.specs.Prelude.{◌≡◌, ◌⊎◌, ℕ, ◌+◌, ◌<◌, ◌≤◌, Bool, true, false, not, ◌&&◌, nat_lt, nat_le}
use Rattle.std.specs.Prelude.{List, [], ◌∷◌, ◌++◌, length, take, slice_get, Option, Some, None, IfSome, if◌then◌else◌}
use Rattle.resty_base.specs.Counting.{RoseWhere}
use Rattle.resty_base.specs.declared.names.Id.{Id}
use Rattle.resty_base.specs.declared.names.Id.TheVariants as id
use Rattle.resty_base.specs.declared.names.StrandId.{StrandId}
use Rattle.resty_base.specs.declared.names.StrandId.TheVariants as strand
use Rattle.resty_world.specs.declared.event.Event.{Event}
use Rattle.resty_world.specs.declared.event.Event.TheVariants as event
use Rattle.resty_world.specs.declared.entry.Entry.{Entry}
use Rattle.resty_world.specs.declared.entry.Entry.TheVariants as entry
use Rattle.resty_world.specs.declared.schedule_line.SchedLine.{SchedLine}
use Rattle.resty_world.specs.declared.schedule_line.SchedLine.TheVariants as line
use Rattle.resty_world.specs.Book.{Book, told}
use Rattle.resty_world.specs.Ids.{same_id, same_strand}

-- it is an event, and not the want of one
abbrev pub is_event : Event → Bool
is_event event.Fault = false
is_event (event.BadLine n) = false
is_event event.Memory = false
is_event e = true

-- the entry of an event
abbrev pub given_entry : Event → List Entry
given_entry e = if is_event e then entry.Given e ∷ [] else []

-- the event is the arrival of this connection, or of this strand
abbrev pub arrives : Event → Id → Bool
arrives (event.Arrive k) x = same_id x (id.Conn k)
arrives e x = false

abbrev pub arrives_strand : Event → StrandId → Bool
arrives_strand (event.Arrive k) s = same_strand s (strand.Conn k)
arrives_strand e s = false

-- how many connections the event brings
abbrev pub arrivals_of : Event → ℕ
arrivals_of (event.Arrive k) = 1
arrivals_of e = 0

-- no bytes of this id come after the event
abbrev pub ends : Event → Id → Bool
ends (event.Ended i) x = same_id x i
ends (event.Broken i) x = same_id x i
ends e x = false

-- the event is a fault of the world, or a loss
abbrev pub is_fault : Event → Bool
is_fault event.Fault = true
is_fault e = false

abbrev pub is_break : Event → Bool
is_break (event.Broken i) = true
is_break e = false

-- the id that a line of a schedule names as one that is there
abbrev pub event_id : Event → Option Id
event_id (event.Bytes i b) = Some i
event_id (event.Ended i) = Some i
event_id (event.Broken i) = Some i
event_id (event.Ready i) = Some i
event_id (event.Dialled n) = Some (id.Sock n)
event_id (event.Refused n) = Some (id.Sock n)
event_id e = None

abbrev pub named_id : SchedLine → Option Id
named_id (line.Given e) = event_id e
named_id (line.Room i n) = Some i
named_id (line.FailPut i) = Some i
named_id l = None

-- the id is of a connection that arrived, or of a socket that was dialled
abbrev pub was_there : ℕ → ℕ → Id → Bool
was_there arrivals dials (id.Conn c) = nat_lt 0 c && nat_le c arrivals
was_there arrivals dials (id.Sock n) = nat_lt 0 n && nat_le n dials

abbrev pub names_absent : ℕ → ℕ → Option Id → Bool
names_absent arrivals dials None = false
names_absent arrivals dials (Some i) = not (was_there arrivals dials i)

-- line n of the schedule is the next after those that were passed, and names an id that was never there
pub record IsBadLine (book : Book) (n : ℕ) : Type 0 where
  pub lines : List SchedLine
  pub schedule : book.schedule ≡ Some lines
  pub next : n ≡ book.passed + 1
  pub bad : SchedLine
  pub here : slice_get lines book.passed ≡ Some bad
  pub absent : names_absent book.arrivals book.dials (named_id bad) ≡ true

-- the last of these lines is `fail next`
abbrev pub EndsByFailing : List SchedLine → Type 0
EndsByFailing lines = (before : List SchedLine) × (lines ≡ before ++ line.FailNext ∷ [])

-- Where a world goes by a schedule, a line is called bad only where it is, and it fails only where the last line that was passed has it fail, or
-- where no line is left.
abbrev pub IsCaused : Book → Event → Type 0
IsCaused book (event.BadLine n) = IsBadLine book n
IsCaused book event.Fault = IfSome book.schedule (λ lines. EndsByFailing (take book.passed lines) ⊎ (take book.passed lines ≡ lines))
IsCaused book e = Unit {0}

-- the last moment that a world gives
abbrev pub last_moment : ℕ
last_moment = 99_999_999_999_999

-- what a world may give: connections are numbered as they arrive, and all else comes of what is open
abbrev pub IsFit : Book → Event → Type 0
IsFit book (event.Arrive k) = k ≡ book.arrivals + 1
IsFit book (event.Bytes i b) = (book.is_open i ≡ true) × (book.has_ended i ≡ false) × (0 < length b) × (length b ≤ 65_536)
IsFit book (event.Ended i) = book.is_open i ≡ true
IsFit book (event.Broken i) = book.is_open i ≡ true
IsFit book (event.Ready i) = book.is_open i ≡ true
IsFit book (event.Dialled n) = book.is_open (id.Sock n) ≡ true
IsFit book (event.Refused n) = book.is_open (id.Sock n) ≡ true
IsFit book (event.Moment t) = t.0 ≤ last_moment
IsFit book event.Stop = Unit {0}
IsFit book event.Fault = Unit {0}
IsFit book (event.BadLine n) = Unit {0}
IsFit book event.Memory = Unit {0}

-- the world gave this event
pub record Gave (old new : Book) (e : Event) : Type 0 where
  pub history : new.history ≡ told (given_entry e) old.history
  pub offered : new.offered ≡ old.offered
  pub schedule : new.schedule ≡ old.schedule
  pub passed : old.passed ≤ new.passed
  pub fit : IsFit old e
  pub caused : IsCaused new e
  pub is_open : (x : Id) → new.is_open x ≡ (if arrives e x then true else old.is_open x)
  pub has_ended : (x : Id) → new.has_ended x ≡ (if arrives e x then false else if ends e x then true else old.has_ended x)
  pub id_aside : (x : Id) → new.id_aside x ≡ (if arrives e x then true else old.id_aside x)
  pub strand_aside : (s : StrandId) → new.strand_aside s ≡ (if arrives_strand e s then true else old.strand_aside s)
  pub arrivals : new.arrivals ≡ old.arrivals + arrivals_of e
  pub dials : new.dials ≡ old.dials
  pub faults : RoseWhere (is_fault e) old.faults new.faults
  pub losses : RoseWhere (is_break e) old.losses new.losses
  pub port : new.port ≡ old.port
