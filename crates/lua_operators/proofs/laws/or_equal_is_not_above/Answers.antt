use Rattle.lua_operators.proofs.OrderLemmas.{or_equal_is_not_above}
use Rattle.lua_operators.proofs.laws.or_equal_is_not_above.Goals as goal

pub returns : goal.returns
returns c = or_equal_is_not_above
