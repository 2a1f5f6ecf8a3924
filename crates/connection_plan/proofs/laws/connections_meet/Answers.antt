use Rattle.connection_plan.proofs.Meets.{meets}
use Rattle.connection_plan.proofs.laws.connections_meet.Goals as goal

pub returns : goal.returns
returns g c = meets g.S.Lawful.service g.S.Lawful.holds g.S.Lawful.runs
