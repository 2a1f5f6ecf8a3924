use Rattle.site_same_laws.proofs.SameNames.{same_names}
use Rattle.site_same_laws.proofs.programs.same_programs_have_same_names.Goals as goal

pub returns : goal.returns
returns c = same_names
