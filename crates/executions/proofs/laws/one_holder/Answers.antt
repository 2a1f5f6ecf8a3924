use Rattle.executions.proofs.laws.one_holder.Goals as goal
use Rattle.executions.proofs.Holders.{owner-is, idle-unowned}

pub returns-clause-held : goal.returns-clause-held
returns-clause-held g c b ms s k run h = owner-is b ms s k run.alone run.plain h

pub returns-clause-idle : goal.returns-clause-idle
returns-clause-idle g c b ms n run h = idle-unowned b ms n run.alone run.plain h
