-- The bounds of a numeric `for` that are still to be evaluated (Lua 5.1 Reference Manual, 2.4.5).
use Rattle.std.specs.Prelude.{◌≡◌, ℕ, Option, Some, None}
use Rattle.std.specs.declared.rc.Rc.{Rc}
use Rattle.std.specs.declared.vec.Vec.{Vec}
use Rattle.std.specs.declared.alloc.Global.{Global}
use Rattle.lua_ast.specs.declared.expressions.Expr.{Expr}
use Rattle.lua_ast.specs.declared.statements.Stmt.{Stmt}
use Rattle.lua_frames.specs.declared.loops.Bounds.{Bounds}

-- the expression of a step
abbrev pub step_expr : Option (Rc Expr Global) → Option Expr
step_expr None = None
step_expr (Some x) = Some x.value

-- they are those of a `for` at a line, with these limit, step and body
pub record AreBounds (line slot : ℕ) (to : Rc Expr Global) (step : Option (Rc Expr Global)) (body : Rc (Vec Stmt Global) Global) (b : Bounds) : Type 0 where
  pub at : b.line ≡ line
  pub variable : b.slot ≡ slot
  pub limit : b.to.value ≡ to.value
  pub by : step_expr b.step ≡ step_expr step
  pub runs : b.body.value ≡ body.value
