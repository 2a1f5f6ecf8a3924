use Rattle.client_line.specs.Lines.{nothing}
use Rattle.client_line.proofs.Serving.{serves}
use Rattle.client_line.proofs.laws.requests_are_those_of_the_bytes.Goals as goal

pub returns : goal.returns
returns c = serves nothing
