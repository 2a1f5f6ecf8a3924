-- Blocks (Lua 5.1 Reference Manual, 2.4.1): their statements in order.
use Rattle.std.specs.Prelude.{List, [], ◌∷◌}
use Rattle.lua_ast.specs.declared.statements.Stmt.{Stmt}
use Rattle.lua_meaning.specs.Works.{Places, Slots, AStmt, Work, Eval}
use Rattle.lua_meaning.specs.Signs.{give, on_values}

-- what ends a statement otherwise than with values ends the block
abbrev pub block : List Stmt → Places → Slots → Work
block [] p s = give [] s
block (st ∷ rest) p s = Eval (AStmt st) p s (on_values (λ vs s'. block rest p s'))
