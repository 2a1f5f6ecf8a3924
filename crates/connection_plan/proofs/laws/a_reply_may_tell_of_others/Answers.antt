use Rattle.connection_plan.proofs.Recalling.{recalls-is-run, one-byte, two-more}
use Rattle.connection_plan.proofs.laws.a_reply_may_tell_of_others.Goals as goal

pub returns-clause-lawful : goal.returns-clause-lawful
returns-clause-lawful g c = recalls-is-run _

pub returns-clause-first : goal.returns-clause-first
returns-clause-first g c = one-byte

pub returns-clause-second : goal.returns-clause-second
returns-clause-second g c = two-more
