-- Deadlines of strands in the words of executions: whose each is, and its moment, in the order of arming.
use Rattle.std.specs.Prelude.{ℕ, nat_le, List, [], ◌∷◌, Option, Some, None, if◌then◌else◌}
use Rattle.resty_base.specs.declared.names.StrandId.{StrandId}
use Rattle.wakes.specs.declared.deadlines.Whose.{Whose as Owner}
use Rattle.wakes.specs.declared.deadlines.Whose.TheVariants as owner
use Rattle.wakes.specs.Times.{Deadline}
use Rattle.executions.specs.Agenda.{Whose, OfStrand, OfJob, OfIdle, without_one, is_number}

-- whose a deadline is
abbrev pub whose_of : Owner → Whose
whose_of (owner.Strand s k) = OfStrand s k
whose_of (owner.Job j) = OfJob j
whose_of (owner.Idle n) = OfIdle n

-- what is armed
abbrev pub agenda_of : List Deadline → List (Whose × ℕ)
agenda_of [] = []
agenda_of (d ∷ ds) = (whose_of d.1.whose, d.1.at.0) ∷ agenda_of ds

-- what is armed without a strand's deadline, if one is given
abbrev pub without_given : Option (StrandId × ℕ) → List (Whose × ℕ) → List (Whose × ℕ)
without_given None agenda = agenda
without_given (Some d) agenda = without_one (is_number d.0 d.1) agenda

-- the earlier one of a moment and of another, if there is another
abbrev pub earlier : ℕ → Option ℕ → ℕ
earlier at None = at
earlier at (Some other) = if nat_le at other then at else other

-- the moment of what comes first
abbrev pub first_moment : List (Whose × ℕ) → Option ℕ
first_moment [] = None
first_moment (d ∷ agenda) = Some (earlier d.1 (first_moment agenda))
