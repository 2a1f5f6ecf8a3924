use Rattle.client_line.proofs.Serving.{waits-on, requests-on, holds-on}
use Rattle.client_line.proofs.laws.what_is_read_goes_on.Goals as goal

pub returns-clause-waits : goal.returns-clause-waits
returns-clause-waits c = waits-on

pub returns-clause-asks : goal.returns-clause-asks
returns-clause-asks c = requests-on

pub returns-clause-holds : goal.returns-clause-holds
returns-clause-holds c = holds-on
