use Rattle.site_same_laws.proofs.SameJoined.{joined_same}
use Rattle.site_same_laws.proofs.programs.joined_programs_are_same.Goals as goal

pub returns : goal.returns
returns c = joined_same
