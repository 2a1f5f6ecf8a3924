use Rattle.site_same_laws.proofs.Starting.{sets_start_alike}
use Rattle.site_same_laws.proofs.sets.same_sets_start_alike.Goals as goal

pub returns : goal.returns
returns c = sets_start_alike c.same_programs_live_alike.ensures
