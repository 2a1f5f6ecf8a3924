-- What is to come at a moment: deadlines, jobs, and idle sockets that expire.
use Rattle.std.specs.Prelude.{ℕ, ◌==◌, ◌&&◌, nat_le, Bool, false, List, [], ◌∷◌, ◌++◌, Option, Some, None, if◌then◌else◌}
use Rattle.resty_base.specs.declared.names.Ms.{Ms}
use Rattle.resty_base.specs.declared.names.StrandId.{StrandId}
use Rattle.resty_base.specs.declared.names.StrandId.TheVariants as strand
use Rattle.resty_world.specs.Ids.{same_strand}
use Rattle.resty_world.specs.declared.answers.TimerAnswer.TheVariants as timer
use Rattle.strand_contract.specs.declared.turns.Act.{Act}
use Rattle.strand_contract.specs.declared.turns.Act.TheVariants as act
use Rattle.shared_rules.specs.Pool.{idle_until}
use Rattle.strand_contract.specs.Actions.{Action, Began, Take, Keep, Timer, Dropped, Due, Gone, Did}
use Rattle.strand_contract.specs.Behaviors.{Behavior}
use Rattle.executions.specs.Executions.{GlobalAction, Of, IdleGave, IdleClosed, projection, present}
use Rattle.executions.specs.Sockets.{socket_at, closed_by}

-- whose something is that is armed
pub data Whose : Type 0 where
  OfStrand : (s : StrandId) (k : ℕ) → Whose
  OfJob : (j : ℕ) → Whose
  OfIdle : (n : ℕ) → Whose

-- without the first that is so
abbrev pub without_one : (Whose → Bool) → List (Whose × ℕ) → List (Whose × ℕ)
without_one is_so [] = []
without_one is_so (d ∷ ds) = if is_so d.0 then ds else d ∷ without_one is_so ds

-- without all that are so
abbrev pub without_those : (Whose → Bool) → List (Whose × ℕ) → List (Whose × ℕ)
without_those is_so [] = []
without_those is_so (d ∷ ds) = if is_so d.0 then without_those is_so ds else d ∷ without_those is_so ds

-- it is the deadline of that number of a strand
abbrev pub is_number : StrandId → ℕ → Whose → Bool
is_number s k (OfStrand t j) = same_strand s t && (k == j)
is_number s k w = false

-- it is one of the strand's deadlines, or its start
abbrev pub is_of : StrandId → Whose → Bool
is_of s (OfStrand t j) = same_strand s t
is_of (strand.Job i) (OfJob j) = i == j
is_of s w = false

-- it is the job's start
abbrev pub is_start : ℕ → Whose → Bool
is_start i (OfJob j) = i == j
is_start i w = false

-- it is the socket's expiry, if one is named
abbrev pub is_socket : Option ℕ → Whose → Bool
is_socket (Some m) (OfIdle n) = m == n
is_socket n w = false

-- acts arm and cancel; what is armed again counts as armed now
abbrev pub armed_with : {J : Type 0} → StrandId → List (Act J) → List (Whose × ℕ) → List (Whose × ℕ)
armed_with s [] ds = ds
armed_with s (act.Arm k at ∷ acts) ds = armed_with s acts (without_one (is_number s k) ds ++ (OfStrand s k, at.0) ∷ [])
armed_with s (act.Cancel k ∷ acts) ds = armed_with s acts (without_one (is_number s k) ds)
armed_with s (a ∷ acts) ds = armed_with s acts ds

-- the expiry of a socket that is kept, if it expires
abbrev pub idle_armed : ℕ → Option Ms → List (Whose × ℕ)
idle_armed n None = []
idle_armed n (Some at) = (OfIdle n, at.0) ∷ []

-- what an action arms by itself, and what it takes out: a job asked for, a socket kept, taken or crowded out, a strand's end
abbrev pub agenda_at : {J : Type 0} → StrandId → Action J → Option ℕ → List (GlobalAction J) → List (Whose × ℕ) → List (Whose × ℕ)
agenda_at s (Due k) n ms ds = without_one (is_number s k) ds
agenda_at s (Timer at (timer.Job j)) n ms ds = ds ++ (OfJob j, at.0) ∷ []
agenda_at (strand.Job j) (Began now how) n ms ds = without_those (is_start j) ds
agenda_at s (Take key uses) n ms ds = without_those (is_socket n) ds
agenda_at s (Keep k key idle size) n ms ds = without_those (is_socket n) ds ++ idle_armed (socket_at s k ms).sock (idle_until (present ms) idle.0)
agenda_at s Gone n ms ds = without_those (is_of s) ds
agenda_at s Dropped n ms ds = without_those (is_of s) ds
agenda_at s x n ms ds = ds

-- an action, and then the acts of the turn that it begins; an idle socket that is closed expires no more
abbrev pub agenda_by : {J : Type 0} → Behavior J → GlobalAction J → List (GlobalAction J) → List (Whose × ℕ) → List (Whose × ℕ)
agenda_by b (Of s x n) ms ds = armed_with s (b.acts (Did x ∷ projection s ms)) (agenda_at s x n ms ds)
agenda_by b (IdleGave e) ms ds = without_those (is_socket (closed_by e)) ds
agenda_by b (IdleClosed n) ms ds = without_those (is_socket (Some n)) ds
agenda_by b m ms ds = ds

-- what is armed, each with its moment, in the order of arming
abbrev pub agenda : {J : Type 0} → Behavior J → List (GlobalAction J) → List (Whose × ℕ)
agenda b [] = []
agenda b (m ∷ ms) = agenda_by b m ms (agenda b ms)

-- of what is armed and the first that is due of what was armed later, the one that is due first
abbrev pub sooner : ℕ → Whose × ℕ → Option (Whose × ℕ) → Option (Whose × ℕ)
sooner now d None = if nat_le d.1 now then Some d else None
sooner now d (Some e) = if nat_le d.1 now && nat_le d.1 e.1 then Some d else Some e

-- of what is armed, the first that is due: the least by moment, among equals the one that was armed first
abbrev pub least : ℕ → List (Whose × ℕ) → Option (Whose × ℕ)
least now [] = None
least now (d ∷ ds) = sooner now d (least now ds)

-- whose it is
abbrev pub whose : Option (Whose × ℕ) → Option Whose
whose None = None
whose (Some d) = Some d.0

-- whose turn is due at the present moment
abbrev pub next_due : {J : Type 0} → Behavior J → List (GlobalAction J) → Option Whose
next_due b ms = whose (least (present ms) (agenda b ms))
