use Rattle.connection_plan.proofs.Rows as row
use Rattle.connection_plan.proofs.laws.a_pipelined_pair.Goals as goal

pub returns-clause-first : goal.returns-clause-first
returns-clause-first c = row.pair-replies

pub returns-clause-goes_on : goal.returns-clause-goes_on
returns-clause-goes_on c = row.pair-goes-on

pub returns-clause-second : goal.returns-clause-second
returns-clause-second c = row.pair-replies-again
