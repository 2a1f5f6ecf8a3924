use Rattle.connection_plan.proofs.Echoing.{echo-is-run}
use Rattle.connection_plan.proofs.laws.runs_of_the_rows_are_lawful.Goals as goal

pub returns : goal.returns
returns g c = echo-is-run _
