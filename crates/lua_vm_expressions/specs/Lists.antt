-- Lists of expressions that are evaluated.
use Rattle.std.specs.Prelude.{List, [], ◌∷◌}
use Rattle.lua_ast.specs.declared.expressions.Expr.{Expr}
use Rattle.lua_values.specs.declared.values.Value.{Value}
use Rattle.lua_meaning.specs.Works.{Places, Slots, Work, Eval}
use Rattle.lua_meaning.specs.Signs.{give, on_values, listed, more}

-- the values of the expressions that are left of a list, after those that are done
abbrev pub rest_of : List Expr → Places → List Value → Slots → Work
rest_of [] p done s = give done s
rest_of (x ∷ xs) p done s = Eval (listed x xs) p s (on_values (more xs p done))
