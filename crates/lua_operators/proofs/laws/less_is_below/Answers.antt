use Rattle.lua_operators.proofs.OrderLemmas.{less_is_below}
use Rattle.lua_operators.proofs.laws.less_is_below.Goals as goal

pub returns : goal.returns
returns c = less_is_below
