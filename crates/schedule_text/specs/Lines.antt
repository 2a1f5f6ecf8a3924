-- What the lines of a schedule bring, read from the first on.
use Rattle.std.specs.Prelude.{ℕ, Bool, true, false, List, [], ◌∷◌, max, count_by}
use Rattle.resty_world.specs.declared.event.Event.{Event}
use Rattle.resty_world.specs.declared.event.Event.TheVariants as event
use Rattle.resty_world.specs.declared.schedule_line.SchedLine.{SchedLine}
use Rattle.resty_world.specs.declared.schedule_line.SchedLine.TheVariants as line

-- the event is an arrival
abbrev pub is_arrival_event : Event → Bool
is_arrival_event (event.Arrive k) = true
is_arrival_event e = false

-- the line is an arrival
abbrev pub is_arrival : SchedLine → Bool
is_arrival (line.Given e) = is_arrival_event e
is_arrival l = false

-- how many connections arrive
abbrev pub arrivals_in : List SchedLine → ℕ
arrivals_in lines = count_by is_arrival lines

-- the moment that a line brings, 0 where it brings none
abbrev pub moment_of : SchedLine → ℕ
moment_of (line.Given (event.Moment t)) = t.0
moment_of l = 0

-- the latest moment, 0 where there is none
abbrev pub latest_in : List SchedLine → ℕ
latest_in [] = 0
latest_in (l ∷ lines) = max (moment_of l) (latest_in lines)

-- the line is the end of the schedule
abbrev pub is_stop : SchedLine → Bool
is_stop (line.Given event.Stop) = true
is_stop l = false

-- how many lines end the schedule
abbrev pub stops_in : List SchedLine → ℕ
stops_in lines = count_by is_stop lines
