use Rattle.execution_laws.proofs.histories.a_beginning.Goals as goal
use Rattle.execution_laws.proofs.Decided.{beginning-by-inputs, history-goes-on}

pub returns-clause-execution : goal.returns-clause-execution
returns-clause-execution g c b ms ns more quiet f h e drop = beginning-by-inputs b quiet ms ns more f h e drop

pub returns-clause-history : goal.returns-clause-history
returns-clause-history g c b ms ns more quiet f h e drop = history-goes-on b quiet ms ns (beginning-by-inputs b quiet ms ns more f h e drop)
