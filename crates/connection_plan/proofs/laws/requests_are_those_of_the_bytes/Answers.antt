use Rattle.connection_plan.proofs.Ordered.{asks-in-order}
use Rattle.connection_plan.proofs.laws.requests_are_those_of_the_bytes.Goals as goal

pub returns : goal.returns
returns g c site = asks-in-order site
