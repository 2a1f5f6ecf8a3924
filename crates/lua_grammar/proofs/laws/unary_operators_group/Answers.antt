use Rattle.lua_grammar.proofs.Grouping.{minus_groups, not_groups}
use Rattle.lua_grammar.proofs.laws.unary_operators_group.Goals as goal

pub returns : goal.returns
returns c = record { minus = minus_groups; not = not_groups }
