-- The beginnings of executions.
use Rattle.std.specs.Prelude.{List}
use Rattle.resty_base.specs.declared.names.StrandId.{StrandId}
use Rattle.strand_contract.specs.Behaviors.{Behavior}
use Rattle.strand_contract.specs.Alone.{IsExecution}
use Rattle.executions.specs.Executions.{GlobalAction, projection, Throughout}
use Rattle.executions.specs.Ordered.{IsOrdered}
use Rattle.executions.specs.Lawful.{BeginsRight, IsGivenAtRest}
use Rattle.executions.specs.Plain.{IsPlain}

-- lawful but for the rest at the end, plain and ordered so far
pub record IsBeginning {J : Type 0} (b : Behavior J) (ms : List (GlobalAction J)) : Type 0 where
  pub alone : (s : StrandId) → IsExecution b (projection s ms)
  pub begins : Throughout (BeginsRight b) ms
  pub given : Throughout (IsGivenAtRest b) ms
  pub plain : IsPlain b ms
  pub ordered : IsOrdered b ms
