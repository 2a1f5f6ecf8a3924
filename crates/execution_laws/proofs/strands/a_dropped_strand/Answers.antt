use Rattle.execution_laws.proofs.Drops.{before, closings, closed}
use Rattle.execution_laws.proofs.strands.a_dropped_strand.Goals as goal

pub returns-clause-before : goal.returns-clause-before
returns-clause-before g c = before

pub returns-clause-closings : goal.returns-clause-closings
returns-clause-closings g c = closings

pub returns-clause-closed : goal.returns-clause-closed
returns-clause-closed g c = closed
