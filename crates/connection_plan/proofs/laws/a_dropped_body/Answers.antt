use Rattle.connection_plan.proofs.Rows as row
use Rattle.connection_plan.proofs.laws.a_dropped_body.Goals as goal

pub returns-clause-waits : goal.returns-clause-waits
returns-clause-waits c = row.dropped-waits

pub returns-clause-whole : goal.returns-clause-whole
returns-clause-whole c = row.dropped-whole

pub returns-clause-anew : goal.returns-clause-anew
returns-clause-anew c = row.dropped-anew
