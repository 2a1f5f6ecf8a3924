use Rattle.connection_plan.specs.Examples.{EchoHolds, echo_site}
use Rattle.connection_plan.proofs.Echoing.{echo-is-run}
use Rattle.connection_laws.proofs.Executing.{replies-said-alone}
use Rattle.connection_laws.proofs.Blind.{never-looks-minds, echo-never-looks}
use Rattle.connection_laws.proofs.laws.replies_of_the_rows_are_said_alone.Goals as goal

pub returns : goal.returns
returns g c reads = replies-said-alone (echo_site reads) EchoHolds (echo-is-run _ reads) (never-looks-minds _ (echo-never-looks reads))
