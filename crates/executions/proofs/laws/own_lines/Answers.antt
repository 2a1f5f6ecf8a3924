use Rattle.executions.proofs.laws.own_lines.Goals as goal
use Rattle.executions.proofs.OwnQueues.{own-queue}
use Rattle.executions.proofs.OwnOffers.{own-offers}
use Rattle.executions.proofs.OwnAgenda.{own-agenda}

pub returns-clause-threads : goal.returns-clause-threads
returns-clause-threads g c b s ms quiet f live = own-queue b quiet s ms f live

pub returns-clause-places : goal.returns-clause-places
returns-clause-places g c b s ms quiet f live = own-offers b quiet s ms f live

pub returns-clause-deadlines : goal.returns-clause-deadlines
returns-clause-deadlines g c b s ms quiet f live = own-agenda b quiet s ms f live
