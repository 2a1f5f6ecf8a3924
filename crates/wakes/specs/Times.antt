-- Deadlines, as a list of numbers, each with what is armed, in the order of arming.
use Rattle.std.specs.Prelude.{ℕ, ◌+◌, nat_eq, nat_le, List, [], ◌∷◌, ◌++◌, Option, Some, None, if◌then◌else◌}
use Rattle.std.specs.Map.{remove_entry}
use Rattle.resty_base.specs.declared.names.Ms.{Ms}
use Rattle.wakes.specs.declared.deadlines.Whose.{Whose}
use Rattle.wakes.specs.declared.deadlines.Armed.{Armed}

-- a number with what is armed by it
abbrev pub Deadline : Type 0
Deadline = ℕ × Armed

-- what is armed, in the order of arming, and the last number that was given out
pub record DeadlinesView : Type 0 where
  pub armed : List Deadline
  pub last : ℕ

-- one more is armed, by the next number
abbrev pub armed_with : DeadlinesView → Ms → Whose → DeadlinesView
armed_with old at whose =
    record { armed = old.armed ++ (old.last + 1, record { at = at; whose = whose }) ∷ []; last = old.last + 1 }

-- of a deadline and those that were armed after it the one that comes first: among equal moments the one that was armed first
abbrev pub sooner : Deadline → Option Deadline → Deadline
sooner d None = d
sooner d (Some e) = if nat_le d.1.at.0 e.1.at.0 then d else e

-- the deadline that comes first: the least by moment and number
abbrev pub soonest : List Deadline → Option Deadline
soonest [] = None
soonest (d ∷ ds) = Some (sooner d (soonest ds))

-- a deadline, if its moment is at or before now
abbrev pub if_due : ℕ → Option Deadline → Option Deadline
if_due now None = None
if_due now (Some d) = if nat_le d.1.at.0 now then Some d else None

-- the deadline that is due now
abbrev pub due_at : ℕ → List Deadline → Option Deadline
due_at now ds = if_due now (soonest ds)

-- the deadlines without one, if one is given
abbrev pub without_any : Option Deadline → List Deadline → List Deadline
without_any None ds = ds
without_any (Some d) ds = remove_entry (nat_eq d.0) ds
