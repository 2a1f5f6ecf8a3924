use Rattle.execution_laws.proofs.StrandExecutions.{not-grows, not-quiet}
use Rattle.execution_laws.proofs.examples.spoiled_behaviors.Goals as goal

pub returns-clause-anew : goal.returns-clause-anew
returns-clause-anew g c = not-grows

pub returns-clause-arms : goal.returns-clause-arms
returns-clause-arms g c = not-quiet
