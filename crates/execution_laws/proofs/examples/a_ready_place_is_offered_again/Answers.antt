use Rattle.execution_laws.proofs.StrandExecutions.{ready-place, ready-offered}
use Rattle.execution_laws.proofs.examples.a_ready_place_is_offered_again.Goals as goal

pub returns-clause-ready : goal.returns-clause-ready
returns-clause-ready g c = ready-place

pub returns-clause-offered : goal.returns-clause-offered
returns-clause-offered g c = ready-offered
