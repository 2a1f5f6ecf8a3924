use Rattle.execution_laws.proofs.StrandExecutions.{dropped-first}
use Rattle.execution_laws.proofs.examples.a_drop_at_the_beginning.Goals as goal

pub returns : goal.returns
returns g c = dropped-first
