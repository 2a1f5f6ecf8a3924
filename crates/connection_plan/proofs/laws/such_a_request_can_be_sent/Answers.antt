use Rattle.connection_plan.proofs.Heads.{can-ask}
use Rattle.connection_plan.proofs.laws.such_a_request_can_be_sent.Goals as goal

pub returns : goal.returns
returns c = can-ask
