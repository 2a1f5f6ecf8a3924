use Rattle.execution_laws.proofs.Alone.{beginning}
use Rattle.execution_laws.proofs.strands.a_beginning.Goals as goal

pub returns : goal.returns
returns g c = beginning
