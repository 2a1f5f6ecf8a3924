use Rattle.connection_plan.proofs.Rows as row
use Rattle.connection_plan.proofs.laws.a_kept_connection.Goals as goal

pub returns-clause-begins : goal.returns-clause-begins
returns-clause-begins c = row.kept-begins

pub returns-clause-replies : goal.returns-clause-replies
returns-clause-replies c = row.kept-replies

pub returns-clause-waits : goal.returns-clause-waits
returns-clause-waits c = row.kept-waits

pub returns-clause-next : goal.returns-clause-next
returns-clause-next c = row.byte-begins

pub returns-clause-runs_out : goal.returns-clause-runs_out
returns-clause-runs_out c = row.keepalive-runs-out
