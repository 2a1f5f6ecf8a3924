-- How the deadlines of strands are kept: by rising numbers, to which each strand's own numbers lead.
use Rattle.std.specs.Prelude.{◌≡◌, ℕ, ◌<◌, ◌≤◌, nat_eq, ◌==◌, Bool, true, false, List, [], ◌∷◌, Option, Some, None}
use Rattle.std.specs.List.{AllByRecursion}
use Rattle.std.specs.Map.{remove_entry}
use Rattle.resty_base.specs.declared.names.StrandId.{StrandId}
use Rattle.wakes.specs.declared.deadlines.Whose.{Whose}
use Rattle.wakes.specs.declared.deadlines.Whose.TheVariants as owner
use Rattle.wakes.specs.Times.{Deadline, DeadlinesView, due_at, without_any}
use Rattle.executions.specs.Agenda.{is_number}
use Rattle.engine_tables.specs.Agenda.{whose_of}

-- the strand of a deadline and its own number, where it is a strand's
abbrev pub strand_in : Whose → Option (StrandId × ℕ)
strand_in (owner.Strand s k) = Some (s, k)
strand_in other = None

abbrev pub strand_of : Option Deadline → Option (StrandId × ℕ)
strand_of None = None
strand_of (Some d) = strand_in d.1.whose

abbrev pub is_strands : Whose → Bool
is_strands (owner.Strand s k) = true
is_strands other = false

-- the number is this one, if there is one
abbrev pub is_the : Option ℕ → ℕ → Bool
is_the None n = false
is_the (Some m) n = m == n

-- a deadline is a strand's, and the strand's own number for it leads to its number, and no other does
pub record IsFound (numbers : StrandId → ℕ → Option ℕ) (d : Deadline) : Type 0 where
  pub strands : is_strands d.1.whose ≡ true
  pub found : (s : StrandId) (k : ℕ) → is_number s k (whose_of d.1.whose) ≡ is_the (numbers s k) d.0

-- the numbers rise from above one up to another
abbrev pub Rises : ℕ → List Deadline → ℕ → Type 0
Rises low [] last = low ≤ last
Rises low (d ∷ ds) last = (low < d.0) × Rises d.0 ds last

pub record IsKept (numbers : StrandId → ℕ → Option ℕ) (deadlines : DeadlinesView) : Type 0 where
  pub each : AllByRecursion (IsFound numbers) deadlines.armed
  pub rising : Rises 0 deadlines.armed deadlines.last
  pub given : (s : StrandId) (k n : ℕ) → numbers s k ≡ Some n → n ≤ deadlines.last

-- the deadline of a number leaves, if one is named
abbrev pub disarmed : Option ℕ → DeadlinesView → DeadlinesView
disarmed None deadlines = deadlines
disarmed (Some n) deadlines = record deadlines { armed = remove_entry (nat_eq n) deadlines.armed }

-- the deadline that is due first leaves
abbrev pub without_due : ℕ → DeadlinesView → DeadlinesView
without_due now deadlines = record deadlines { armed = without_any (due_at now deadlines.armed) deadlines.armed }
