use Rattle.connection_laws.proofs.Numbering.{clients-alike, jobs-alike}
use Rattle.connection_laws.proofs.laws.its_number_changes_nothing.Goals as goal

pub returns-clause-client : goal.returns-clause-client
returns-clause-client g x site es now c d = clients-alike site es now c d

pub returns-clause-job : goal.returns-clause-job
returns-clause-job g x site es now m n premature job = jobs-alike site es now m n premature job
