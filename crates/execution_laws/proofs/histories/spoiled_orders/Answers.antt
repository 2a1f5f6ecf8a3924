use Rattle.execution_laws.proofs.histories.spoiled_orders.Goals as goal
use Rattle.execution_laws.proofs.Sleepers.{runs-differ, drops-differ}
use Rattle.execution_laws.proofs.Askers.{starts-differ}

pub returns-clause-runs : goal.returns-clause-runs
returns-clause-runs g c = runs-differ _

pub returns-clause-starts : goal.returns-clause-starts
returns-clause-starts g c job = starts-differ job

pub returns-clause-drops : goal.returns-clause-drops
returns-clause-drops g c = drops-differ _
