-- The program of the site's block, `ngx.say("hi")`, whose parts stand somewhere in memory, and what it is evaluated in.
use Rattle.std.proofs.Common.{refl, lit≤, lit<}
use Rattle.std.specs.Prelude.{ℕ, ◌+◌, true, [], ◌∷◌, Vec, codes}
use Rattle.std.specs.Global.{Global}
use Rattle.std.specs.declared.rc.Rc.{Rc}
use Rattle.std.specs.Ptr.{null_ptr}
use Rattle.lua_ast.specs.declared.expressions.Expr.{Expr}
use Rattle.lua_ast.specs.declared.expressions.ExprKind as kind
use Rattle.lua_ast.specs.declared.statements.Stmt.{Stmt}
use Rattle.lua_ast.specs.declared.statements.StmtKind as stmt
use Rattle.lua_ast.specs.declared.programs.Function.{Function}
use Rattle.lua_ast.specs.declared.programs.Program.{Program}
use Rattle.lua_grammar.specs.Resolution.{node, statement}
use Rattle.lua_values.specs.NativeCalls.{Meaning, both}
use Rattle.lua_meaning.specs.Setting.{Setting}
use Rattle.ngx_calls.specs.Natives.{ngx_count, ngx_meaning}

module _ (heap : Global) where
  abbrev pub shared : {A : Type 0} → A → Rc A Global
  shared v = record { ptr = null_ptr; value = v }

  abbrev pub one : {A : Type 0} → A → Vec A Global
  one v = record { ptr = null_ptr; len = 1; cap = 1; alloc = heap; items = v ∷ []; ok = (refl, lit≤ tt); small = lit< tt }

  abbrev pub none : {A : Type 0} → Vec A Global
  none = record { ptr = null_ptr; len = 0; cap = 0; alloc = heap; items = []; ok = (refl, lit≤ tt); small = lit< tt }

  abbrev pub ngx : Rc Expr Global
  ngx = shared (node 2 (kind.Global (codes "ngx")))

  abbrev pub key : Rc Expr Global
  key = shared (node 2 (kind.Text (codes "say")))

  -- `ngx.say`
  abbrev pub say : Rc Expr Global
  say = shared (node 2 (kind.Index ngx key))

  abbrev pub argument : Expr
  argument = node 2 (kind.Text (codes "hi"))

  -- `ngx.say("hi")`
  abbrev pub call : Expr
  call = node 2 (kind.Call say (shared (one argument)))

  abbrev pub only : Stmt
  only = statement 2 (stmt.Call call)

  -- the chunk, with that as its one statement
  abbrev pub chunk_function : Function
  chunk_function = record { file = 0; params = 0; vararg = true; slots = 0; captures = none; body = shared (one only); line = 2 }

  abbrev pub hi_program : Program
  hi_program = record { files = [] ∷ []; functions = one chunk_function }

  -- the functions of the host are those of `ngx`, and after them so many others
  abbrev pub hi_setting : ℕ → Meaning → Setting
  hi_setting others meaning = record { program = hi_program; count = ngx_count + others; lib = both ngx_count ngx_meaning meaning }
