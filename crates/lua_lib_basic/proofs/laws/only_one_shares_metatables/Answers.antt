use Rattle.lua_lib_basic.proofs.TypeLemmas.{only_one_shares}
use Rattle.lua_lib_basic.proofs.laws.only_one_shares_metatables.Goals as goal

pub returns : goal.returns
returns c = only_one_shares
