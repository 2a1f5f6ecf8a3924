use Rattle.connection_plan.proofs.Rows as row
use Rattle.connection_plan.proofs.laws.a_client_that_is_gone.Goals as goal

pub returns-clause-refuses : goal.returns-clause-refuses
returns-clause-refuses c = row.end-refuses

pub returns-clause-breaks : goal.returns-clause-breaks
returns-clause-breaks c = row.break-hangs-up

pub returns-clause-goes_on : goal.returns-clause-goes_on
returns-clause-goes_on c = row.run-ends
