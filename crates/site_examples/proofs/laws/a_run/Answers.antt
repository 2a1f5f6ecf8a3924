use Rattle.site_examples.proofs.Run.{shows, told, right}
use Rattle.site_examples.proofs.laws.a_run.Goals as goal

pub returns-clause-history : goal.returns-clause-history
returns-clause-history c = shows

pub returns-clause-told : goal.returns-clause-told
returns-clause-told c = told

pub returns-clause-lawful : goal.returns-clause-lawful
returns-clause-lawful c = right.0

pub returns-clause-kept : goal.returns-clause-kept
returns-clause-kept c = right.1

pub returns-clause-plain : goal.returns-clause-plain
returns-clause-plain c = right.2

pub returns-clause-ordered : goal.returns-clause-ordered
returns-clause-ordered c = right.3
