use Rattle.execution_laws.proofs.histories.the_point_of_a_drop.Goals as goal
use Rattle.execution_laws.proofs.Sleepers.{points-differ}

pub returns : goal.returns
returns g c = points-differ _
