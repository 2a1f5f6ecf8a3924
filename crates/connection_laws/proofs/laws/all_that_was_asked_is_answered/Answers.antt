use Rattle.connection_laws.proofs.Hanging.{asks-all-between, takes-all-between}
use Rattle.connection_laws.proofs.laws.all_that_was_asked_is_answered.Goals as goal

pub returns-clause-begun : goal.returns-clause-begun
returns-clause-begun g c site es x h = asks-all-between site es x h

pub returns-clause-taken : goal.returns-clause-taken
returns-clause-taken g c site es x h = takes-all-between site es x h
