use Rattle.execution_laws.proofs.StrandExecutions.{closed-first}
use Rattle.execution_laws.proofs.examples.a_dropped_strand_is_closed_first.Goals as goal

pub returns : goal.returns
returns g c = closed-first
