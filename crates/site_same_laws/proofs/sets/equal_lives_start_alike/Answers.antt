use Rattle.site_same_laws.proofs.Starting.{start_alike}
use Rattle.site_same_laws.proofs.sets.equal_lives_start_alike.Goals as goal

pub returns : goal.returns
returns c = start_alike
