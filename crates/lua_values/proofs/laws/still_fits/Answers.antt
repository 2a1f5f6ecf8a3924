use Rattle.lua_values.proofs.FitLemmas.{still_fits}
use Rattle.lua_values.proofs.laws.still_fits.Goals as goal

pub returns : goal.returns
returns c = still_fits
