use Rattle.execution_laws.proofs.Alone.{one-at-rest}
use Rattle.execution_laws.proofs.strands.one_execution.Goals as goal

pub returns : goal.returns
returns g c = one-at-rest
