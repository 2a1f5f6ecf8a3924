-- Where strands are dropped: an index counts the actions before the drop.
use Rattle.std.specs.Prelude.{◌≡◌, ◌<◌, ◌==◌, ℕ, List, [], ◌∷◌, length, Option, Some, None, if◌then◌else◌}
use Rattle.resty_base.specs.declared.names.StrandId.{StrandId}
use Rattle.strand_contract.specs.Actions.{Dropped}
use Rattle.strand_contract.specs.Behaviors.{Behavior}
use Rattle.executions.specs.Executions.{GlobalAction, Of}
use Rattle.executions.specs.Histories.{external}
use Rattle.execution_laws.specs.Inputs.{drops}

-- the strand that an action drops
abbrev pub dropped_by : {J : Type 0} → GlobalAction J → Option StrandId
dropped_by (Of s Dropped n) = Some s
dropped_by m = None

-- the strand that the action at an index drops
abbrev pub dropped_at : {J : Type 0} → ℕ → List (GlobalAction J) → Option StrandId
dropped_at index [] = None
dropped_at index (m ∷ ms) = if index == length ms then dropped_by m else dropped_at index ms

-- drops stand at the same points in both
abbrev pub DropAlike : {J : Type 0} → List (GlobalAction J) → List (GlobalAction J) → Type 0
DropAlike ms ns = (index : ℕ) → dropped_at index ms ≡ dropped_at index ns

-- and the same as far as the first goes
abbrev pub DropAlikeSoFar : {J : Type 0} → List (GlobalAction J) → List (GlobalAction J) → Type 0
DropAlikeSoFar ms ns = (index : ℕ) → index < length ms → dropped_at index ms ≡ dropped_at index ns

-- the same strands are dropped in the same order, wherever
abbrev pub DropTheSame : {J : Type 0} → Behavior J → List (GlobalAction J) → List (GlobalAction J) → Type 0
DropTheSame b ms ns = drops (external b ms) ≡ drops (external b ns)
