use Rattle.executions.proofs.laws.one_next.Goals as goal
use Rattle.executions.proofs.OneNext.{one-next}

pub returns : goal.returns
returns g c b m ms quiet run drop = one-next b quiet m ms (record { alone = run.alone; given = run.given; turns = run.ordered }) run.begins.1 run.plain.1 drop
