use Rattle.executions.proofs.laws.in_turn.Goals as goal
use Rattle.executions.proofs.InTurn.{ran-in-turn, offered-in-turn}

pub returns-clause-threads : goal.returns-clause-threads
returns-clause-threads g c b ms t = ran-in-turn b ms t

pub returns-clause-places : goal.returns-clause-places
returns-clause-places g c b ms t = offered-in-turn b ms t
