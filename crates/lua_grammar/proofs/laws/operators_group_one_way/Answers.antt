use Rattle.lua_grammar.proofs.Grouping.{one_way}
use Rattle.lua_grammar.proofs.laws.operators_group_one_way.Goals as goal

pub returns : goal.returns
returns c = one_way
