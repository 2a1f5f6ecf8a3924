use Rattle.connection_plan.proofs.Stays.{within-of}
use Rattle.connection_plan.proofs.Settling.{settling}
use Rattle.connection_plan.proofs.laws.settling_goes_on.Goals as goal

pub returns : goal.returns
returns g c now b s known none =
    settling g.S.Lawful.service now g.S.Lawful.holds g.S.Lawful.runs b s (within-of g.S.Lawful.service.runs g.S.Lawful.holds s.client.stage b s.run known, none)
