-- What the next line of a schedule is to a world that is asked for an event.
use Rattle.std.specs.Prelude.{Bool, ◌||◌, ◌&&◌, Option, Some, None, List, if◌then◌else◌}
use Rattle.resty_base.specs.declared.names.Id.{Id}
use Rattle.resty_world.specs.declared.entry.Entry.{Entry}
use Rattle.resty_world.specs.declared.schedule_line.SchedLine.{SchedLine}
use Rattle.resty_world.specs.declared.schedule_line.SchedLine.TheVariants as line
use Rattle.resty_world.specs.Given.{named_id, names_absent}
use Rattle.schedule.specs.declared.ahead.Ahead.{Ahead}
use Rattle.schedule.specs.declared.ahead.Ahead.TheVariants as ahead
use Rattle.schedule.specs.Counts.{arrived_in, dials_in}
use Rattle.schedule.specs.OpenIds.{hung_up, has_ended}
use Rattle.schedule.specs.Steps.{is_skipped}

-- the line is an event
abbrev pub IsGiven : SchedLine → Type 0
IsGiven (line.Given e) = Unit {0}
IsGiven l = ⊥

-- the id was never there
abbrev pub is_absent : List Entry → Option Id → Bool
is_absent history i = names_absent (arrived_in history) (dials_in history) i

-- a line that names no absent id
abbrev pub ahead_by : List Entry → SchedLine → Ahead
ahead_by history (line.Given e) = if is_skipped history (line.Given e) then ahead.Quiet else ahead.Due
ahead_by history line.FailNext = ahead.Fault
ahead_by history l = ahead.Quiet

abbrev pub ahead_of : List Entry → Option SchedLine → Ahead
ahead_of history None = ahead.Nothing
ahead_of history (Some l) =
    if is_absent history (named_id l) then ahead.Absent else ahead_by history l

-- the same for a line with an event of this id, which brings bytes or doesn't
abbrev pub ahead_of_id : List Entry → Id → Bool → Ahead
ahead_of_id history i bytes =
    if is_absent history (Some i) then ahead.Absent else if hung_up history i || bytes && has_ended history i then ahead.Quiet else ahead.Due
