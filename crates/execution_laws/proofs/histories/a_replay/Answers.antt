use Rattle.std.proofs.Common.{ap}
use Rattle.executions.specs.Histories.{external}
use Rattle.execution_laws.proofs.histories.a_replay.Goals as goal
use Rattle.execution_laws.proofs.Decided.{one-of-events, beginning-by-events, history-goes-on}

pub returns-clause-same : goal.returns-clause-same
returns-clause-same g c b ms ns quiet f h v w e = ap (external b) (one-of-events b quiet ms ns f h v w e)

pub returns-clause-beginning : goal.returns-clause-beginning
returns-clause-beginning g c b ms ns more quiet f h v w e = history-goes-on b quiet ms ns (beginning-by-events b quiet ms ns more f h v w e)
