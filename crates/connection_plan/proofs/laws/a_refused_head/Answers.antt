use Rattle.connection_plan.proofs.Rows as row
use Rattle.connection_plan.proofs.laws.a_refused_head.Goals as goal

pub returns-clause-begins : goal.returns-clause-begins
returns-clause-begins c = row.refused-begins

pub returns-clause-replies : goal.returns-clause-replies
returns-clause-replies c = row.refused-replies

pub returns-clause-closes : goal.returns-clause-closes
returns-clause-closes c = row.refused-closes
