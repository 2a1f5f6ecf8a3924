use Rattle.site_examples.proofs.Ordered.{unordered}
use Rattle.site_examples.proofs.Plain.{unplain}
use Rattle.site_examples.proofs.Untold.{untold}
use Rattle.site_examples.proofs.laws.refusals.Goals as goal

pub returns-clause-not_told : goal.returns-clause-not_told
returns-clause-not_told c = untold

pub returns-clause-not_plain : goal.returns-clause-not_plain
returns-clause-not_plain c = unplain

pub returns-clause-not_ordered : goal.returns-clause-not_ordered
returns-clause-not_ordered c = unordered
