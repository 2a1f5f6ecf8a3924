use Rattle.execution_laws.proofs.StrandExecutions.{begun-rests, begun-waits, told-due}
use Rattle.execution_laws.proofs.examples.a_deadline_waits_for_a_moment.Goals as goal

pub returns-clause-rests : goal.returns-clause-rests
returns-clause-rests g c = begun-rests

pub returns-clause-waits : goal.returns-clause-waits
returns-clause-waits g c = begun-waits

pub returns-clause-due : goal.returns-clause-due
returns-clause-due g c = told-due
