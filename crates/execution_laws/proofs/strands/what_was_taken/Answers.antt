use Rattle.execution_laws.proofs.Taken.{first-part, whole-part}
use Rattle.execution_laws.proofs.strands.what_was_taken.Goals as goal

pub returns-clause-first : goal.returns-clause-first
returns-clause-first g c = first-part

pub returns-clause-all : goal.returns-clause-all
returns-clause-all g c = whole-part
