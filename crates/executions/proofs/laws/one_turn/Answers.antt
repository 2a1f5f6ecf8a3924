use Rattle.executions.proofs.laws.one_turn.Goals as goal
use Rattle.executions.proofs.Strands.{only-one}

pub returns : goal.returns
returns g c b ms s t quiet run us ut = only-one b quiet ms (record { alone = run.alone; given = run.given; turns = run.ordered }) s t us ut
