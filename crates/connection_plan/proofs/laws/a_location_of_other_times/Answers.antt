use Rattle.connection_plan.proofs.Scripted as row
use Rattle.connection_plan.proofs.laws.a_location_of_other_times.Goals as goal

pub returns-clause-body : goal.returns-clause-body
returns-clause-body c = row.by-new

pub returns-clause-goes_on : goal.returns-clause-goes_on
returns-clause-goes_on c = row.by-old

pub returns-clause-anew : goal.returns-clause-anew
returns-clause-anew c = row.anew-by-new

pub returns-clause-send : goal.returns-clause-send
returns-clause-send c = row.sends-by-new

pub returns-clause-keepalive : goal.returns-clause-keepalive
returns-clause-keepalive c = row.waits-by-new
