use Rattle.std.proofs.Common.{sym, ◌∙◌}
use Rattle.lua_grammar.proofs.Uniqueness.{one_tree}
use Rattle.lua_grammar.proofs.laws.tokens_have_one_tree.Goals as goal

pub returns : goal.returns
returns c = λ tokens b other v w. one_tree b other v.0 w.0 (v.1 ∙ sym w.1)
