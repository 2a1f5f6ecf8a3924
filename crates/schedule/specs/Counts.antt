-- What the entries of a history count.
use Rattle.std.specs.Prelude.{ℕ, ◌+◌, ◌-◌, ◌^◌, min, List, [], ◌∷◌, Some, None}
use Rattle.resty_world.specs.declared.event.Event.TheVariants as event
use Rattle.resty_world.specs.declared.entry.Entry.{Entry}
use Rattle.resty_world.specs.declared.entry.Entry.TheVariants as entry

abbrev pub arrives_by : Entry → ℕ
arrives_by (entry.Given (event.Arrive k)) = 1
arrives_by e = 0

-- how many connections arrived
abbrev pub arrived_in : List Entry → ℕ
arrived_in [] = 0
arrived_in (e ∷ history) = arrived_in history + arrives_by e

abbrev pub dials_by : Entry → ℕ
dials_by (entry.Dial who host port (Some n)) = 1
dials_by e = 0

-- how many sockets were dialled
abbrev pub dials_in : List Entry → ℕ
dials_in [] = 0
dials_in (e ∷ history) = dials_in history + dials_by e

abbrev pub loses_by : Entry → ℕ
loses_by (entry.Given (event.Broken i)) = 1
loses_by (entry.Lost i) = 1
loses_by (entry.Dial who host port None) = 1
loses_by e = 0

-- how many losses there were: connections and sockets that broke, writes that broke, dials that failed
abbrev pub losses_in : List Entry → ℕ
losses_in [] = 0
losses_in (e ∷ history) = losses_in history + loses_by e

-- a count that stands still at the last value of a u64
abbrev pub counted : ℕ → ℕ
counted n = min n (2 ^ 64 - 1)
