use Rattle.lua_values.proofs.FitLemmas.{writes_keep_fitting}
use Rattle.lua_values.proofs.laws.writes_keep_fitting.Goals as goal

pub returns : goal.returns
returns c = writes_keep_fitting
