use Rattle.execution_laws.proofs.StrandExecutions.{premature-ended}
use Rattle.execution_laws.proofs.examples.a_premature_job_is_ended.Goals as goal

pub returns : goal.returns
returns g c = premature-ended
