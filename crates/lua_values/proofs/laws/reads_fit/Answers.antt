use Rattle.lua_values.proofs.FitLemmas.{reads_fit}
use Rattle.lua_values.proofs.laws.reads_fit.Goals as goal

pub returns : goal.returns
returns c = reads_fit
