-- Executions that the definitions allow, and their histories.
use Rattle.std.specs.Prelude.{◌≡◌, List}
use Rattle.resty_world.specs.declared.entry.Entry.{Entry}
use Rattle.strand_contract.specs.Behaviors.{Behavior}
use Rattle.executions.specs.Executions.{GlobalAction, Throughout}
use Rattle.executions.specs.Histories.{external}
use Rattle.executions.specs.Lawful.{IsLawful}
use Rattle.executions.specs.Plain.{IsPlain}
use Rattle.executions.specs.Ordered.{MayTurn}

-- lawful and plain, and each turn is one that may come
pub record IsAllowedBy {J : Type 0} (b : Behavior J) (May : GlobalAction J → List (GlobalAction J) → Type 0) (ms : List (GlobalAction J)) : Type 0 where
  pub lawful : IsLawful b ms
  pub plain : IsPlain b ms
  pub ordered : Throughout May ms

-- lawful, plain and ordered
abbrev pub IsAllowed : {J : Type 0} → Behavior J → List (GlobalAction J) → Type 0
IsAllowed b ms = IsAllowedBy b (MayTurn b) ms

-- the history is that of an execution that is allowed
pub record IsHistoryOf {J : Type 0} (b : Behavior J) (h : List Entry) : Type 0 where
  pub execution : List (GlobalAction J)
  pub allowed : IsAllowed b execution
  pub history : external b execution ≡ h
