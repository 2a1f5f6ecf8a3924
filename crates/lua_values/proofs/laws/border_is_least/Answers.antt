use Rattle.lua_values.proofs.BorderLemmas.{border_is}
use Rattle.lua_values.proofs.laws.border_is_least.Goals as goal

pub returns : goal.returns
returns c = border_is
