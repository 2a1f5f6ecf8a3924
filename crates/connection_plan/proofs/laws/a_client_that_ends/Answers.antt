use Rattle.connection_plan.proofs.Scripted as row
use Rattle.connection_plan.proofs.laws.a_client_that_ends.Goals as goal

pub returns-clause-told : goal.returns-clause-told
returns-clause-told c = row.end-told

pub returns-clause-sent : goal.returns-clause-sent
returns-clause-sent c = row.end-sent

pub returns-clause-armed : goal.returns-clause-armed
returns-clause-armed c = row.end-armed
