-- Each strand does what it does alone, and nothing is left to be done or held back when the world is asked.
use Rattle.std.specs.Prelude.{◌≡◌, true, List, Some}
use Rattle.resty_base.specs.declared.names.StrandId.{StrandId}
use Rattle.resty_base.specs.declared.names.StrandId.TheVariants as strand
use Rattle.strand_contract.specs.declared.turns.Start.{Start}
use Rattle.strand_contract.specs.declared.turns.Start.TheVariants as start
use Rattle.strand_contract.specs.Actions.{Began}
use Rattle.strand_contract.specs.Behaviors.{Behavior}
use Rattle.strand_contract.specs.Alone.{lives, IsExecution, IsQuiescent, KeepsNothingBack}
use Rattle.executions.specs.Executions.{GlobalAction, Of, projection, has_given, present, has_stopped, Throughout}
use Rattle.executions.specs.Jobs.{pending, job_of}
use Rattle.executions.specs.Ordered.{NothingWaits}

-- all strands are at rest, and nothing waits
pub record AllAtRest {J : Type 0} (b : Behavior J) (ms : List (GlobalAction J)) : Type 0 where
  pub each : (s : StrandId) → IsQuiescent b (projection s ms)
  pub waits : NothingWaits b ms

-- at a given event all were at rest
abbrev pub IsGivenAtRest : {J : Type 0} → Behavior J → GlobalAction J → List (GlobalAction J) → Type 0
IsGivenAtRest b m ms = has_given m ≡ true → AllAtRest b ms

-- a connection begins as its client, a job as the one that was asked for, premature exactly after Stop
abbrev pub IsStartOf : {J : Type 0} → Behavior J → StrandId → Start J → List (GlobalAction J) → Type 0
IsStartOf b (strand.Conn c) (start.Client d) ms = c ≡ d
IsStartOf b (strand.Job i) (start.Job j premature job) ms = (i ≡ j) × (job_of j (pending b ms) ≡ Some job) × (premature ≡ has_stopped ms)
IsStartOf b s how ms = ⊥

-- each strand begins with its own start, at the present moment
abbrev pub BeginsRight : {J : Type 0} → Behavior J → GlobalAction J → List (GlobalAction J) → Type 0
BeginsRight b (Of s (Began now how) n) ms = IsStartOf b s how ms × (now ≡ present ms)
BeginsRight b m ms = Unit {0}

-- each strand does what it does alone, and begins right; all are at rest at each given event and at the end
pub record IsLawful {J : Type 0} (b : Behavior J) (ms : List (GlobalAction J)) : Type 0 where
  pub alone : (s : StrandId) → IsExecution b (projection s ms)
  pub begins : Throughout (BeginsRight b) ms
  pub given : Throughout (IsGivenAtRest b) ms
  pub rests : AllAtRest b ms

-- nothing that was sent to an open place of a living strand is held back
abbrev pub NoneHoldsBack : {J : Type 0} → Behavior J → List (GlobalAction J) → Type 0
NoneHoldsBack b ms = (s : StrandId) → lives (projection s ms) ≡ true → KeepsNothingBack b (projection s ms)

-- at a given event nothing was held back
abbrev pub HeldNothingBack : {J : Type 0} → Behavior J → GlobalAction J → List (GlobalAction J) → Type 0
HeldNothingBack b m ms = has_given m ≡ true → NoneHoldsBack b ms

-- nothing is held back, at each given event and at the end
abbrev pub IsKept : {J : Type 0} → Behavior J → List (GlobalAction J) → Type 0
IsKept b ms = Throughout (HeldNothingBack b) ms × NoneHoldsBack b ms
