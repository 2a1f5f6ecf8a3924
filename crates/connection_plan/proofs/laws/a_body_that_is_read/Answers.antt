use Rattle.connection_plan.proofs.Rows as row
use Rattle.connection_plan.proofs.laws.a_body_that_is_read.Goals as goal

pub returns-clause-continues : goal.returns-clause-continues
returns-clause-continues c = row.continues

pub returns-clause-replies : goal.returns-clause-replies
returns-clause-replies c = row.body-replies

pub returns-clause-refused : goal.returns-clause-refused
returns-clause-refused c = row.too-large

pub returns-clause-anew : goal.returns-clause-anew
returns-clause-anew c = row.read-anew
