-- Executions of all strands, the newest action first: what happens, and what each strand sees of it.
-- Here ms is an execution of all strands, m its newest action, s a strand, and n the world's number of a socket.
use Rattle.std.specs.Prelude.{ℕ, max, Bool, true, false, ◌||◌, List, [], ◌∷◌, Option, if◌then◌else◌}
use Rattle.resty_base.specs.declared.names.StrandId.{StrandId}
use Rattle.resty_world.specs.Ids.{same_strand}
use Rattle.resty_world.specs.declared.event.Event.{Event}
use Rattle.strand_contract.specs.Actions.{Word, Moment, Stop, Action, LocalAction, Told, Did, is_given}
use Rattle.strand_contract.specs.Alone.{lives}

-- what happens in an execution of all strands
pub data GlobalAction (J : Type 0) : Type 0 where
  -- to one strand; where it gets a socket, or one is closed for it, with the world's number of that
  Of : (s : StrandId) (x : Action J) (sock : Option ℕ) → GlobalAction J
  -- every living strand is told it
  Everyone : (w : Word) → GlobalAction J
  -- a connection is turned away as it arrives
  TurnedAway : (c : ℕ) → GlobalAction J
  -- an idle socket gives something, which may close it; it is closed because it expired or at Stop
  IdleGave : (e : Event) → GlobalAction J
  IdleClosed : (n : ℕ) → GlobalAction J

-- what one strand sees of an action, behind what it saw before: its own actions, and while it lives what all are told
abbrev pub seen_by : {J : Type 0} → StrandId → GlobalAction J → List (LocalAction J) → List (LocalAction J)
seen_by s (Of t x n) es = if same_strand s t then Did x ∷ es else es
seen_by s (Everyone w) es = if lives es then Told w ∷ es else es
seen_by s m es = es

-- what one strand sees of an execution
abbrev pub projection : {J : Type 0} → StrandId → List (GlobalAction J) → List (LocalAction J)
projection s [] = []
projection s (m ∷ ms) = seen_by s m (projection s ms)

-- the action has an event of the world in it
abbrev pub has_given : {J : Type 0} → GlobalAction J → Bool
has_given (Of s x n) = is_given x
has_given (Everyone w) = true
has_given (TurnedAway c) = true
has_given (IdleGave e) = true
has_given (IdleClosed n) = false

-- an action may give a later moment
abbrev pub present_by : {J : Type 0} → GlobalAction J → ℕ → ℕ
present_by (Everyone (Moment t)) now = max t now
present_by m now = now

-- the present moment: the greatest that was given
abbrev pub present : {J : Type 0} → List (GlobalAction J) → ℕ
present [] = 0
present (m ∷ ms) = present_by m (present ms)

-- the action is that Stop is given
abbrev pub is_stop : {J : Type 0} → GlobalAction J → Bool
is_stop (Everyone Stop) = true
is_stop m = false

-- Stop was given
abbrev pub has_stopped : {J : Type 0} → List (GlobalAction J) → Bool
has_stopped [] = false
has_stopped (m ∷ ms) = is_stop m || has_stopped ms

-- a relation holds of each action with what was before it
abbrev pub Throughout : {J : Type 0} → (GlobalAction J → List (GlobalAction J) → Type 0) → List (GlobalAction J) → Type 0
Throughout P [] = Unit {0}
Throughout P (m ∷ ms) = Throughout P ms × P m ms
