-- Programs that are the same but for where their lists and shared parts stand in memory.
use Rattle.std.specs.Prelude.{◌≡◌, Option, Some, None}
use Rattle.std.specs.List.{AllZip}
use Rattle.std.specs.Global.{Global}
use Rattle.std.specs.declared.rc.Rc.{Rc}
use Rattle.lua_ast.specs.declared.expressions.Expr.{Expr}
use Rattle.lua_ast.specs.declared.expressions.ExprKind.{ExprKind}
use Rattle.lua_ast.specs.declared.expressions.ExprKind as kind
use Rattle.lua_ast.specs.declared.expressions.TableItem.{TableItem}
use Rattle.lua_ast.specs.declared.expressions.TableItem as item
use Rattle.lua_ast.specs.declared.statements.Stmt.{Stmt}
use Rattle.lua_ast.specs.declared.statements.StmtKind.{StmtKind}
use Rattle.lua_ast.specs.declared.statements.StmtKind as stmt
use Rattle.lua_ast.specs.declared.statements.Arm.{Arm}
use Rattle.lua_ast.specs.declared.statements.Arm as arm
use Rattle.lua_ast.specs.declared.programs.Function.{Function}
use Rattle.lua_ast.specs.declared.programs.Program.{Program}

-- In the patterns below `k` and `j` are the kinds of the children, `l` and `m` their lines, `row` is a list of them, and the
-- rest are addresses. A leaf is the same as an equal one alone.
unfoldable mutual
  pub SameKind : ExprKind → ExprKind → Type 0
  SameKind (kind.Index' p l k q m j) (kind.Index' p' l' k' q' m' j') = (l ≡ l') × SameKind k k' × (m ≡ m') × SameKind j j'
  SameKind (kind.Call' p l k q shape row) (kind.Call' p' l' k' q' shape' row') = (l ≡ l') × SameKind k k' × SameRow row row'
  SameKind (kind.Method' p l k name q shape row) (kind.Method' p' l' k' name' q' shape' row') =
      (l ≡ l') × SameKind k k' × (name ≡ name') × SameRow row row'
  SameKind (kind.Unary' op p l k) (kind.Unary' op' p' l' k') = (op ≡ op') × (l ≡ l') × SameKind k k'
  SameKind (kind.Binary' op p l k q m j) (kind.Binary' op' p' l' k' q' m' j') =
      (op ≡ op') × (l ≡ l') × SameKind k k' × (m ≡ m') × SameKind j j'
  SameKind (kind.And' p l k q m j) (kind.And' p' l' k' q' m' j') = (l ≡ l') × SameKind k k' × (m ≡ m') × SameKind j j'
  SameKind (kind.Or' p l k q m j) (kind.Or' p' l' k' q' m' j') = (l ≡ l') × SameKind k k' × (m ≡ m') × SameKind j j'
  SameKind (kind.Paren' p l k) (kind.Paren' p' l' k') = (l ≡ l') × SameKind k k'
  SameKind (kind.Table' q shape row) (kind.Table' q' shape' row') = SameItems row row'
  SameKind a b = a ≡ b

  pub SameRow : {n m : _} → kind.Row_of-Expr n → kind.Row_of-Expr m → Type 0
  SameRow kind.end_of-Expr kind.end_of-Expr = Unit {0}
  SameRow (kind.more_of-Expr l k row) (kind.more_of-Expr l' k' row') = (l ≡ l') × SameKind k k' × SameRow row row'
  SameRow row row' = ⊥

  pub SameItems : {n m : _} → kind.Row_of-TableItem n → kind.Row_of-TableItem m → Type 0
  SameItems kind.end_of-TableItem kind.end_of-TableItem = Unit {0}
  SameItems (kind.more_of-TableItem i row) (kind.more_of-TableItem i' row') = SameItem i i' × SameItems row row'
  SameItems row row' = ⊥

  pub SameItem : TableItem → TableItem → Type 0
  SameItem (item.Item' l k) (item.Item' l' k') = (l ≡ l') × SameKind k k'
  SameItem (item.Pair' l k m j) (item.Pair' l' k' m' j') = (l ≡ l') × SameKind k k' × (m ≡ m') × SameKind j j'
  SameItem i i' = ⊥

abbrev pub SameExpr : Expr → Expr → Type 0
SameExpr e d = (e.line ≡ d.line) × SameKind e.kind d.kind

abbrev pub SameStep : Option (Rc Expr Global) → Option (Rc Expr Global) → Type 0
SameStep None None = Unit {0}
SameStep (Some e) (Some d) = SameExpr e.value d.value
SameStep e d = ⊥

unfoldable mutual
  pub SameStmtKind : StmtKind → StmtKind → Type 0
  SameStmtKind (stmt.Local slots values) (stmt.Local slots' values') =
      (slots.value.items ≡ slots'.value.items) × AllZip SameExpr values.value.items values'.value.items
  SameStmtKind (stmt.LocalFunction slot n) (stmt.LocalFunction slot' n') = (slot ≡ slot') × (n ≡ n')
  SameStmtKind (stmt.Assign targets values) (stmt.Assign targets' values') =
      AllZip SameExpr targets.value.items targets'.value.items × AllZip SameExpr values.value.items values'.value.items
  SameStmtKind (stmt.Call e) (stmt.Call d) = SameExpr e d
  SameStmtKind (stmt.Do' p shape row) (stmt.Do' p' shape' row') = SameBlock row row'
  SameStmtKind (stmt.While' test p shape row) (stmt.While' test' p' shape' row') = SameExpr test.value test'.value × SameBlock row row'
  SameStmtKind (stmt.Repeat' p shape row test) (stmt.Repeat' p' shape' row' test') = SameBlock row row' × SameExpr test.value test'.value
  SameStmtKind (stmt.If' p shape arms q form row) (stmt.If' p' shape' arms' q' form' row') = SameArms arms arms' × SameBlock row row'
  SameStmtKind (stmt.NumericFor' slot from to step p shape row) (stmt.NumericFor' slot' from' to' step' p' shape' row') =
      (slot ≡ slot') × SameExpr from.value from'.value × SameExpr to.value to'.value × SameStep step step' × SameBlock row row'
  SameStmtKind (stmt.GenericFor' slots values p shape row) (stmt.GenericFor' slots' values' p' shape' row') =
      (slots.value.items ≡ slots'.value.items) × AllZip SameExpr values.value.items values'.value.items × SameBlock row row'
  SameStmtKind (stmt.Return values) (stmt.Return values') = AllZip SameExpr values.value.items values'.value.items
  SameStmtKind stmt.Break stmt.Break = Unit {0}
  SameStmtKind a b = ⊥

  pub SameBlock : {n m : _} → stmt.Row_of-Stmt n → stmt.Row_of-Stmt m → Type 0
  SameBlock stmt.end_of-Stmt stmt.end_of-Stmt = Unit {0}
  SameBlock (stmt.more_of-Stmt l k row) (stmt.more_of-Stmt l' k' row') = (l ≡ l') × SameStmtKind k k' × SameBlock row row'
  SameBlock row row' = ⊥

  pub SameArms : {n m : _} → stmt.Row_of-Arm n → stmt.Row_of-Arm m → Type 0
  SameArms stmt.end_of-Arm stmt.end_of-Arm = Unit {0}
  SameArms (stmt.more_of-Arm a row) (stmt.more_of-Arm a' row') = SameArm a a' × SameArms row row'
  SameArms row row' = ⊥

  pub SameArm : Arm → Arm → Type 0
  SameArm (arm.Arm' test p shape row) (arm.Arm' test' p' shape' row') = SameExpr test test' × SameBlock row row'

abbrev pub SameStmt : Stmt → Stmt → Type 0
SameStmt s r = (s.line ≡ r.line) × SameStmtKind s.kind r.kind

pub record SameFunction (f g : Function) : Type 0 where
  pub file : f.file ≡ g.file
  pub params : f.params ≡ g.params
  pub vararg : f.vararg ≡ g.vararg
  pub slots : f.slots ≡ g.slots
  pub captures : f.captures.items ≡ g.captures.items
  pub body : AllZip SameStmt f.body.value.items g.body.value.items
  pub line : f.line ≡ g.line

pub record SameProgram (p q : Program) : Type 0 where
  pub files : p.files ≡ q.files
  pub functions : AllZip SameFunction p.functions.items q.functions.items
