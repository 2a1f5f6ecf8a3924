use Rattle.connection_plan.proofs.Rows as row
use Rattle.connection_plan.proofs.laws.a_client_that_takes_no_bytes.Goals as goal

pub returns-clause-waits : goal.returns-clause-waits
returns-clause-waits c = row.put-off-waits

pub returns-clause-resumes : goal.returns-clause-resumes
returns-clause-resumes c = row.ready-resumes

pub returns-clause-runs_out : goal.returns-clause-runs_out
returns-clause-runs_out c = row.send-runs-out
