use Rattle.connection_plan.proofs.Accounts.{accounts}
use Rattle.connection_plan.proofs.laws.replies_are_sent_in_order.Goals as goal

pub returns : goal.returns
returns g c = accounts g.S.Lawful.service
