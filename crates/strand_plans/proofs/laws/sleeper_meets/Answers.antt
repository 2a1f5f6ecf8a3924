use Rattle.strand_plans.proofs.Sleeping.{sleeper-meets}
use Rattle.strand_plans.proofs.laws.sleeper_meets.Goals as goal

pub returns : goal.returns
returns g c = sleeper-meets _
