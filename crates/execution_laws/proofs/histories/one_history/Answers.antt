use Rattle.std.proofs.Common.{ap}
use Rattle.executions.specs.Histories.{external}
use Rattle.execution_laws.proofs.histories.one_history.Goals as goal
use Rattle.execution_laws.proofs.Decided.{one-of-inputs}

pub returns-clause-execution : goal.returns-clause-execution
returns-clause-execution g c b ms ns quiet f h e drop = one-of-inputs b quiet ms ns f h e drop

pub returns-clause-history : goal.returns-clause-history
returns-clause-history g c b ms ns quiet f h e drop = ap (external b) (one-of-inputs b quiet ms ns f h e drop)

pub returns-clause-never_two : goal.returns-clause-never_two
returns-clause-never_two g c b two = two.differ (ap (external b) (one-of-inputs b two.quiet two.first two.second two.first_allowed two.second_allowed two.inputs_same two.drops_same))
