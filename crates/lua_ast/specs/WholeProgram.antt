-- Programs in which each number names something that is there.
use Rattle.std.specs.Prelude.{ℕ, ◌<◌, ◌≤◌, List, length, slice_get, IsSomeAnd, IfSome}
use Rattle.std.specs.List.{All}
use Rattle.lua_ast.specs.declared.expressions.Expr.{Expr}
use Rattle.lua_ast.specs.declared.expressions.ExprKind.{ExprKind}
use Rattle.lua_ast.specs.declared.expressions.ExprKind as kind
use Rattle.lua_ast.specs.declared.expressions.TableItem.{TableItem}
use Rattle.lua_ast.specs.declared.expressions.TableItem as item
use Rattle.lua_ast.specs.declared.statements.Stmt.{Stmt}
use Rattle.lua_ast.specs.declared.statements.StmtKind.{StmtKind}
use Rattle.lua_ast.specs.declared.statements.StmtKind as stmt
use Rattle.lua_ast.specs.declared.statements.Arm.{Arm}
use Rattle.lua_ast.specs.declared.statements.Arm as arm
use Rattle.lua_ast.specs.declared.programs.Capture.{Capture}
use Rattle.lua_ast.specs.declared.programs.Capture.TheVariants as capture
use Rattle.lua_ast.specs.declared.programs.Function.{Function}
use Rattle.lua_ast.specs.declared.programs.Program.{Program}

-- the function has this variable: a slot, or a capture of its own
abbrev pub HasVariable : Function → Capture → Type 0
HasVariable f (capture.Slot n) = n < f.slots
HasVariable f (capture.Outer n) = n < length f.captures.items

-- `f` may make a closure of the function with this number: the program has it, and each variable that it captures is one
-- of `f`
abbrev pub HasInner : List Function → Function → ℕ → Type 0
HasInner functions f n = IsSomeAnd (slice_get functions n) (λ inner. All (HasVariable f) inner.captures.items)

-- In the patterns below `k` and `j` are the kinds of the children, `row` is a list of them, and the rest are their lines and addresses.

-- each number in an expression of `f` names a slot or a capture of `f`, or a function of which `f` may make a closure
module _ (functions : List Function) (f : Function) where
  abbrev mutual
    pub IsWholeKind : ExprKind → Type 0
    IsWholeKind (kind.Function n) = HasInner functions f n
    IsWholeKind (kind.Slot n) = n < f.slots
    IsWholeKind (kind.Captured n) = n < length f.captures.items
    IsWholeKind (kind.Index' p l k q m j) = IsWholeKind k × IsWholeKind j
    IsWholeKind (kind.Call' p l k q shape row) = IsWholeKind k × IsWholeRow row
    IsWholeKind (kind.Method' p l k name q shape row) = IsWholeKind k × IsWholeRow row
    IsWholeKind (kind.Unary' op p l k) = IsWholeKind k
    IsWholeKind (kind.Binary' op p l k q m j) = IsWholeKind k × IsWholeKind j
    IsWholeKind (kind.And' p l k q m j) = IsWholeKind k × IsWholeKind j
    IsWholeKind (kind.Or' p l k q m j) = IsWholeKind k × IsWholeKind j
    IsWholeKind (kind.Paren' p l k) = IsWholeKind k
    IsWholeKind (kind.Table' q shape row) = AreWholeItems row
    IsWholeKind leaf = Unit {0}

    pub IsWholeRow : {m : _} → kind.Row_of-Expr m → Type 0
    IsWholeRow kind.end_of-Expr = Unit {0}
    IsWholeRow (kind.more_of-Expr l k row) = IsWholeKind k × IsWholeRow row

    pub AreWholeItems : {m : _} → kind.Row_of-TableItem m → Type 0
    AreWholeItems kind.end_of-TableItem = Unit {0}
    AreWholeItems (kind.more_of-TableItem i row) = IsWholeItem i × AreWholeItems row

    pub IsWholeItem : TableItem → Type 0
    IsWholeItem (item.Item' l k) = IsWholeKind k
    IsWholeItem (item.Pair' l k m j) = IsWholeKind k × IsWholeKind j

  abbrev pub IsWholeExpr : Expr → Type 0
  IsWholeExpr e = IsWholeKind e.kind

  -- the same of a statement of `f`
  abbrev mutual
    pub IsWholeStmtKind : StmtKind → Type 0
    IsWholeStmtKind (stmt.Local slots values) = All (λ n. n < f.slots) slots.value.items × All IsWholeExpr values.value.items
    IsWholeStmtKind (stmt.LocalFunction slot n) = (slot < f.slots) × HasInner functions f n
    IsWholeStmtKind (stmt.Assign targets values) = All IsWholeExpr targets.value.items × All IsWholeExpr values.value.items
    IsWholeStmtKind (stmt.Call e) = IsWholeExpr e
    IsWholeStmtKind (stmt.Do' p shape row) = IsWholeBlock row
    IsWholeStmtKind (stmt.While' test p shape row) = IsWholeExpr test.value × IsWholeBlock row
    IsWholeStmtKind (stmt.Repeat' p shape row test) = IsWholeBlock row × IsWholeExpr test.value
    IsWholeStmtKind (stmt.If' p shape arms q form row) = AreWholeArms arms × IsWholeBlock row
    IsWholeStmtKind (stmt.NumericFor' slot from to step p shape row) =
        (slot < f.slots) × IsWholeExpr from.value × IsWholeExpr to.value × IfSome step (λ s. IsWholeExpr s.value) × IsWholeBlock row
    IsWholeStmtKind (stmt.GenericFor' slots values p shape row) =
        All (λ n. n < f.slots) slots.value.items × All IsWholeExpr values.value.items × IsWholeBlock row
    IsWholeStmtKind (stmt.Return values) = All IsWholeExpr values.value.items
    IsWholeStmtKind stmt.Break = Unit {0}

    pub IsWholeBlock : {m : _} → stmt.Row_of-Stmt m → Type 0
    IsWholeBlock stmt.end_of-Stmt = Unit {0}
    IsWholeBlock (stmt.more_of-Stmt l k row) = IsWholeStmtKind k × IsWholeBlock row

    pub AreWholeArms : {m : _} → stmt.Row_of-Arm m → Type 0
    AreWholeArms stmt.end_of-Arm = Unit {0}
    AreWholeArms (stmt.more_of-Arm a row) = IsWholeArm a × AreWholeArms row

    pub IsWholeArm : Arm → Type 0
    IsWholeArm (arm.Arm' test p shape row) = IsWholeExpr test × IsWholeBlock row

  abbrev pub IsWholeStmt : Stmt → Type 0
  IsWholeStmt s = IsWholeStmtKind s.kind

-- the function's file is in the program, its parameters have slots, and its body is whole
pub record IsWholeFunction (program : Program) (f : Function) : Type 0 where
  pub file : f.file < length program.files
  pub params : f.params ≤ f.slots
  pub body : All (IsWholeStmt program.functions.items f) f.body.value.items

-- each number in the program names something that is there
abbrev pub IsWholeProgram : Program → Type 0
IsWholeProgram program = All (IsWholeFunction program) program.functions.items
