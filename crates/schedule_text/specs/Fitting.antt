-- Which lines make a schedule: each fits what stands before it, and `stop` is the last.
use Rattle.std.specs.Prelude.{◌≡◌, ℕ, ◌+◌, ◌≤◌, List, [], ◌∷◌, ◌++◌, take, slice_get, Some}
use Rattle.resty_world.specs.declared.event.Event.{Event}
use Rattle.resty_world.specs.declared.event.Event.TheVariants as event
use Rattle.resty_world.specs.declared.schedule_line.SchedLine.{SchedLine}
use Rattle.resty_world.specs.declared.schedule_line.SchedLine.TheVariants as line
use Rattle.schedule_text.specs.Lines.{arrivals_in, latest_in, stops_in}
use Rattle.schedule_text.specs.Ranges.{IsLine}

-- an arrival is the next connection, and moments don't fall
abbrev pub FollowsEvent : List SchedLine → Event → Type 0
FollowsEvent before (event.Arrive k) = k ≡ arrivals_in before + 1
FollowsEvent before (event.Moment t) = latest_in before ≤ t.0
FollowsEvent before e = Unit {0}

-- the line may come after the others
abbrev pub Follows : List SchedLine → SchedLine → Type 0
Follows before (line.Given e) = FollowsEvent before e
Follows before l = Unit {0}

-- a line may come next: nothing follows a `stop`
pub record Fits (before : List SchedLine) (next : SchedLine) : Type 0 where
  pub goes_on : stops_in before ≡ 0
  pub ranged : IsLine next
  pub follows : Follows before next

-- each line fits what stands before it
abbrev pub AllFit : List SchedLine → Type 0
AllFit lines = (i : ℕ) (next : SchedLine) → slice_get lines i ≡ Some next → Fits (take i lines) next

-- the lines make a schedule
pub record IsSchedule (lines : List SchedLine) : Type 0 where
  pub fit : AllFit lines
  pub before : List SchedLine
  pub ends : lines ≡ before ++ line.Given event.Stop ∷ []
