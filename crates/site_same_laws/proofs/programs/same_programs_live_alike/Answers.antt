use Rattle.site_same_laws.proofs.SameNodes.{live_alike}
use Rattle.site_same_laws.proofs.programs.same_programs_live_alike.Goals as goal

pub returns : goal.returns
returns c = live_alike
