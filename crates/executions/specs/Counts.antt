-- What is counted in an execution.
use Rattle.std.specs.Prelude.{ℕ, ◌+◌, ◌-◌, true, List, [], ◌∷◌}
use Rattle.resty_world.specs.declared.answers.TimerAnswer.TheVariants as timer
use Rattle.strand_contract.specs.declared.turns.Start.TheVariants as start
use Rattle.strand_contract.specs.Actions.{Action, Began, Close, Dial, Timer}
use Rattle.strand_contract.specs.declared.turns.Place.TheVariants as place
use Rattle.executions.specs.Executions.{GlobalAction, Of, TurnedAway}

-- a connection arrives
abbrev pub arrived_by : {J : Type 0} → GlobalAction J → ℕ
arrived_by (Of s (Began now (start.Client c)) n) = 1
arrived_by (TurnedAway c) = 1
arrived_by m = 0

-- how many connections arrived
abbrev pub arrived : {J : Type 0} → List (GlobalAction J) → ℕ
arrived [] = 0
arrived (m ∷ ms) = arrived ms + arrived_by m

-- a socket is dialled
abbrev pub dialled_by : {J : Type 0} → GlobalAction J → ℕ
dialled_by (Of s (Dial host port true) n) = 1
dialled_by m = 0

-- how many sockets were dialled
abbrev pub dialled : {J : Type 0} → List (GlobalAction J) → ℕ
dialled [] = 0
dialled (m ∷ ms) = dialled ms + dialled_by m

-- a job is accepted
abbrev pub accepted_by : {J : Type 0} → GlobalAction J → ℕ
accepted_by (Of s (Timer at (timer.Job j)) n) = 1
accepted_by m = 0

-- how many jobs were accepted
abbrev pub accepted : {J : Type 0} → List (GlobalAction J) → ℕ
accepted [] = 0
accepted (m ∷ ms) = accepted ms + accepted_by m

-- a connection begins, or is closed
abbrev pub open_at : {J : Type 0} → Action J → ℕ → ℕ
open_at (Began now (start.Client c)) count = count + 1
open_at (Close place.Client) count = count - 1
open_at x count = count

-- the same of any action
abbrev pub open_by : {J : Type 0} → GlobalAction J → ℕ → ℕ
open_by (Of s x n) count = open_at x count
open_by m count = count

-- how many connections are open
abbrev pub open_connections : {J : Type 0} → List (GlobalAction J) → ℕ
open_connections [] = 0
open_connections (m ∷ ms) = open_by m (open_connections ms)
