-- Where a function begins and ends.
use Rattle.std.specs.Prelude.{◌≡◌, ℕ, List, length}
use Rattle.lua_ast.specs.declared.statements.Stmt.{Stmt}
use Rattle.lua_ast.specs.declared.programs.Function.{Function}
use Rattle.lua_grammar.specs.Tree.{Line, Bytes}
use Rattle.lua_grammar.specs.Scopes.{Scope, enter}
use Rattle.lua_grammar.specs.Resolution.{EndsFunction}
use Rattle.lua_parser_base.specs.declared.functions.Parameters.{Parameters}
use Rattle.lua_parser_base.specs.declared.functions.Begun.{Begun}

-- a function with those parameters begins, whose word `function` is on that line
pub record Enters (p : Parameters) (word : Line) (begun : Begun) (s t : Scope) : Type 0 where
  pub kept : Function
  pub scope : t ≡ enter p.names.items kept s
  pub number : begun.number ≡ length s.functions
  pub params : begun.params ≡ length p.names.items
  pub vararg : begun.vararg ≡ p.vararg
  pub line : begun.line ≡ word

-- a function that began so ends with those statements
pub record Ends (begun : Begun) (statements : List Stmt) (s : Scope) (which : ℕ) (t : Scope) : Type 0 where
  pub number : which ≡ begun.number
  pub ends : (names : List Bytes) (before : Scope) → begun.params ≡ length names → begun.number ≡ length before.functions
      → EndsFunction begun.line names begun.vararg statements before s t
