-- The given events of a history, the newest entry first, as the lines of a schedule.
use Rattle.std.specs.Prelude.{ℕ, max, Bool, true, false, List, [], ◌∷◌, ◌++◌, if◌then◌else◌}
use Rattle.resty_world.specs.declared.entry.Entry.{Entry}
use Rattle.resty_world.specs.declared.entry.Entry.TheVariants as entry
use Rattle.resty_world.specs.declared.event.Event.{Event}
use Rattle.resty_world.specs.declared.event.Event.TheVariants as event
use Rattle.resty_world.specs.declared.schedule_line.SchedLine.{SchedLine}
use Rattle.resty_world.specs.declared.schedule_line.SchedLine.TheVariants as line

-- the present moment after an entry
abbrev pub present_after : Entry → ℕ → ℕ
present_after (entry.Given (event.Moment t)) present = max present t.0
present_after e present = present

-- the latest moment that was given, 0 where there was none
abbrev pub present_in : List Entry → ℕ
present_in [] = 0
present_in (e ∷ history) = present_after e (present_in history)

-- an event as a line: a moment below the present one is written as the present one
abbrev pub given_line : ℕ → Event → SchedLine
given_line present (event.Moment t) = line.Given (event.Moment record { 0 = max present t.0 })
given_line present e = line.Given e

-- the lines after an entry: one more for a given event
abbrev pub lines_after : Entry → ℕ → List SchedLine → List SchedLine
lines_after (entry.Given e) present lines = lines ++ given_line present e ∷ []
lines_after e present lines = lines

-- the given events as lines, in the order of time
abbrev pub given_lines : List Entry → List SchedLine
given_lines [] = []
given_lines (e ∷ history) = lines_after e (present_in history) (given_lines history)

-- whether the last given event is `stop`, after an entry
abbrev pub stopped_after : Entry → Bool → Bool
stopped_after (entry.Given event.Stop) stopped = true
stopped_after (entry.Given e) stopped = false
stopped_after e stopped = stopped

-- whether the last given event is `stop`
abbrev pub has_stopped : List Entry → Bool
has_stopped [] = false
has_stopped (e ∷ history) = stopped_after e (has_stopped history)

-- the given events, with a `stop` after them where the last isn't one
abbrev pub events_of : List Entry → List SchedLine
events_of history = if has_stopped history then given_lines history else given_lines history ++ line.Given event.Stop ∷ []
