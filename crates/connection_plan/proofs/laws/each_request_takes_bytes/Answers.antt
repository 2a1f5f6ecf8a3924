use Rattle.connection_plan.proofs.Fewer.{next-fewer}
use Rattle.connection_plan.proofs.laws.each_request_takes_bytes.Goals as goal

pub returns : goal.returns
returns c = next-fewer
