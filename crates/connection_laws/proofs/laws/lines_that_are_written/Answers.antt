use Rattle.connection_laws.proofs.Written.{first-written, all-written}
use Rattle.connection_laws.proofs.laws.lines_that_are_written.Goals as goal

pub returns-clause-first : goal.returns-clause-first
returns-clause-first g c b es quiet x = first-written b quiet es x

pub returns-clause-all : goal.returns-clause-all
returns-clause-all g c b es quiet x = all-written b quiet es x
