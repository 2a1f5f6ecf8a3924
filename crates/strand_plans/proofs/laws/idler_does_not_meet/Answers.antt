use Rattle.strand_plans.proofs.Sleeping.{idler-fails}
use Rattle.strand_plans.proofs.laws.idler_does_not_meet.Goals as goal

pub returns : goal.returns
returns g c = idler-fails g.C.Claim.holds g.C.Claim.may_ask
