use Rattle.lua_site.proofs.RunTableLemmas.{frozen_in}
use Rattle.lua_site.proofs.laws.init_is_frozen.Goals as goal

pub returns : goal.returns
returns c = frozen_in
