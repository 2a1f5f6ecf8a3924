use Rattle.std.proofs.Common.{rules, sym, ◌∙◌}
use Rattle.lua_lexer.proofs.Closings.{closing_here}
use Rattle.lua_lexer.proofs.brackets.before_closing.Goals as goal

pub returns-then-closes-clause-value : goal.returns-then-closes-clause-value
returns-then-closes-clause-value c =
    closing_here _ _ _ _ (search rules) (sym c.closes.ensures.value ∙ c.if-closes.true) c.loop-rest.invariant.0
