use Rattle.strand_plans.proofs.Ledgers.{asks-last}
use Rattle.strand_plans.proofs.Executions.{quiet}
use Rattle.strand_plans.proofs.Grows.{grows}
use Rattle.strand_plans.proofs.PlanLaws.{silent}
use Rattle.strand_plans.proofs.Once.{threads-once, deadlines-once}
use Rattle.strand_plans.proofs.laws.any_plan.Goals as goal

pub returns-clause-quiet : goal.returns-clause-quiet
returns-clause-quiet g c = quiet

pub returns-clause-silent : goal.returns-clause-silent
returns-clause-silent g c = silent

pub returns-clause-grows : goal.returns-clause-grows
returns-clause-grows g c = grows

pub returns-clause-asks_last : goal.returns-clause-asks_last
returns-clause-asks_last g c = asks-last

pub returns-clause-threads : goal.returns-clause-threads
returns-clause-threads g c = threads-once

pub returns-clause-deadlines : goal.returns-clause-deadlines
returns-clause-deadlines g c = deadlines-once
