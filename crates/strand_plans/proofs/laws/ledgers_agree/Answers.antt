use Rattle.strand_plans.proofs.Ledgers.{threads-are, places-are, armed-are, begun-is, put-off-is, taken-is, count-is}
use Rattle.strand_plans.proofs.laws.ledgers_agree.Goals as goal

pub returns-clause-threads : goal.returns-clause-threads
returns-clause-threads g c = threads-are

pub returns-clause-places : goal.returns-clause-places
returns-clause-places g c = places-are

pub returns-clause-deadlines : goal.returns-clause-deadlines
returns-clause-deadlines g c = armed-are

pub returns-clause-begun : goal.returns-clause-begun
returns-clause-begun g c = begun-is

pub returns-clause-put_off : goal.returns-clause-put_off
returns-clause-put_off g c = put-off-is

pub returns-clause-taken : goal.returns-clause-taken
returns-clause-taken g c = taken-is

pub returns-clause-count : goal.returns-clause-count
returns-clause-count g c = count-is
