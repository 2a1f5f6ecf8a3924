use Rattle.conf.proofs.Routed.{one_route}
use Rattle.conf.proofs.laws.a_request_has_one_route.Goals as goal

pub returns : goal.returns
returns c = one_route
