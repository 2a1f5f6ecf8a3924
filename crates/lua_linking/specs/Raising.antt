-- Programs whose numbers of functions and files are raised, and which are the same in all else.
use Rattle.std.specs.Prelude.{◌≡◌, ℕ, ◌+◌, List, [], ◌∷◌, Option, Some, None, Vec}
use Rattle.std.specs.List.{AllZip}
use Rattle.std.specs.Global.{Global}
use Rattle.std.specs.declared.rc.Rc.{Rc}
use Rattle.lua_ast.specs.declared.expressions.Expr.{Expr}
use Rattle.lua_ast.specs.declared.expressions.ExprKind.{ExprKind}
use Rattle.lua_ast.specs.declared.expressions.ExprKind as kind
use Rattle.lua_ast.specs.declared.expressions.TableItem.{TableItem}
use Rattle.lua_ast.specs.declared.expressions.TableItem as item
use Rattle.lua_ast.specs.declared.statements.Stmt.{Stmt}
use Rattle.lua_ast.specs.declared.statements.StmtKind.{StmtKind}
use Rattle.lua_ast.specs.declared.statements.StmtKind as stmt
use Rattle.lua_ast.specs.declared.statements.Arm.{Arm, out-Arm}
use Rattle.lua_ast.specs.declared.statements.Arm as arm
use Rattle.lua_ast.specs.declared.programs.Function.{Function}

-- an expression that is a part of another, or of a statement
abbrev pub Shared : Type 0
Shared = Rc Expr Global

abbrev pub SharedList : Type 0 → Type 0
SharedList X = Rc (Vec X Global) Global

-- an expression on this line, of a kind of which that holds
abbrev pub OnLine : ℕ → (ExprKind → Type 0) → Expr → Type 0
OnLine line P e = (e.line ≡ line) × P e.kind

-- In the patterns `k` and `j` are the kinds of the children, `l` and `m` their lines, `row` is a list of them, and the rest are
-- their addresses.
module _ (by : ℕ) where
  -- the second kind is the first, with each number of a function so much higher
  abbrev mutual
    pub RaisedKind : ExprKind → ExprKind → Type 0
    RaisedKind (kind.Function n) d = d ≡ kind.Function (n + by)
    RaisedKind (kind.Index' p l k q m j) d = (x : Shared) × (y : Shared) × (d ≡ kind.Index x y) × OnLine l (RaisedKind k) x.value
        × OnLine m (RaisedKind j) y.value
    RaisedKind (kind.Call' p l k q shape row) d =
        (x : Shared) × (values : SharedList Expr) × (d ≡ kind.Call x values) × OnLine l (RaisedKind k) x.value × RaisedRow row values.value.items
    RaisedKind (kind.Method' p l k name q shape row) d =
        (x : Shared) × (values : SharedList Expr) × (d ≡ kind.Method x name values) × OnLine l (RaisedKind k) x.value × RaisedRow row values.value.items
    RaisedKind (kind.Unary' op p l k) d = (x : Shared) × (d ≡ kind.Unary op x) × OnLine l (RaisedKind k) x.value
    RaisedKind (kind.Binary' op p l k q m j) d = (x : Shared) × (y : Shared) × (d ≡ kind.Binary op x y) × OnLine l (RaisedKind k) x.value
        × OnLine m (RaisedKind j) y.value
    RaisedKind (kind.And' p l k q m j) d = (x : Shared) × (y : Shared) × (d ≡ kind.And x y) × OnLine l (RaisedKind k) x.value × OnLine m (RaisedKind j) y.value
    RaisedKind (kind.Or' p l k q m j) d = (x : Shared) × (y : Shared) × (d ≡ kind.Or x y) × OnLine l (RaisedKind k) x.value × OnLine m (RaisedKind j) y.value
    RaisedKind (kind.Paren' p l k) d = (x : Shared) × (d ≡ kind.Paren x) × OnLine l (RaisedKind k) x.value
    RaisedKind (kind.Table' q shape row) d = (items : SharedList TableItem) × (d ≡ kind.Table items) × RaisedItems row items.value.items
    RaisedKind leaf d = d ≡ leaf

    pub RaisedRow : {m : _} → kind.Row_of-Expr m → List Expr → Type 0
    RaisedRow kind.end_of-Expr es = es ≡ []
    RaisedRow (kind.more_of-Expr l k row) [] = ⊥
    RaisedRow (kind.more_of-Expr l k row) (e ∷ es) = OnLine l (RaisedKind k) e × RaisedRow row es

    pub RaisedItems : {m : _} → kind.Row_of-TableItem m → List TableItem → Type 0
    RaisedItems kind.end_of-TableItem is = is ≡ []
    RaisedItems (kind.more_of-TableItem i row) [] = ⊥
    RaisedItems (kind.more_of-TableItem i row) (j ∷ is) = RaisedItem i j × RaisedItems row is

    pub RaisedItem : TableItem → TableItem → Type 0
    RaisedItem (item.Item' l k) i = (e : Expr) × (i ≡ item.Item e) × OnLine l (RaisedKind k) e
    RaisedItem (item.Pair' l k m j) i = (e : Expr) × (d : Expr) × (i ≡ item.Pair e d) × OnLine l (RaisedKind k) e × OnLine m (RaisedKind j) d

  abbrev pub RaisedExpr : Expr → Expr → Type 0
  RaisedExpr e d = (d.line ≡ e.line) × RaisedKind e.kind d.kind

  abbrev pub RaisedStep : Option Shared → Option Shared → Type 0
  RaisedStep None d = d ≡ None
  RaisedStep (Some x) d = (y : Shared) × (d ≡ Some y) × RaisedExpr x.value y.value

  abbrev mutual
    pub RaisedStmtKind : StmtKind → StmtKind → Type 0
    RaisedStmtKind (stmt.Local slots values) d =
        (others : SharedList Expr) × (d ≡ stmt.Local slots others) × AllZip RaisedExpr values.value.items others.value.items
    RaisedStmtKind (stmt.LocalFunction slot n) d = d ≡ stmt.LocalFunction slot (n + by)
    RaisedStmtKind (stmt.Assign targets values) d =
        (ts : SharedList Expr) × (others : SharedList Expr) × (d ≡ stmt.Assign ts others) × AllZip RaisedExpr targets.value.items ts.value.items
        × AllZip RaisedExpr values.value.items others.value.items
    RaisedStmtKind (stmt.Call e) d = (call : Expr) × (d ≡ stmt.Call call) × RaisedExpr e call
    RaisedStmtKind (stmt.Do' p shape row) d = (body : SharedList Stmt) × (d ≡ stmt.Do body) × RaisedBlock row body.value.items
    RaisedStmtKind (stmt.While' test p shape row) d =
        (x : Shared) × (body : SharedList Stmt) × (d ≡ stmt.While x body) × RaisedExpr test.value x.value × RaisedBlock row body.value.items
    RaisedStmtKind (stmt.Repeat' p shape row test) d =
        (body : SharedList Stmt) × (x : Shared) × (d ≡ stmt.Repeat body x) × RaisedBlock row body.value.items × RaisedExpr test.value x.value
    RaisedStmtKind (stmt.If' p shape arms q form row) d =
        (list : SharedList Arm) × (body : SharedList Stmt) × (d ≡ stmt.If list body) × RaisedArms arms list.value.items × RaisedBlock row body.value.items
    RaisedStmtKind (stmt.NumericFor' slot from to step p shape row) d =
        (x : Shared) × (y : Shared) × (z : Option Shared) × (body : SharedList Stmt) × (d ≡ stmt.NumericFor slot x y z body)
        × RaisedExpr from.value x.value × RaisedExpr to.value y.value × RaisedStep step z × RaisedBlock row body.value.items
    RaisedStmtKind (stmt.GenericFor' slots values p shape row) d =
        (others : SharedList Expr) × (body : SharedList Stmt) × (d ≡ stmt.GenericFor slots others body)
        × AllZip RaisedExpr values.value.items others.value.items × RaisedBlock row body.value.items
    RaisedStmtKind (stmt.Return values) d = (others : SharedList Expr) × (d ≡ stmt.Return others) × AllZip RaisedExpr values.value.items others.value.items
    RaisedStmtKind stmt.Break d = d ≡ stmt.Break

    pub RaisedBlock : {m : _} → stmt.Row_of-Stmt m → List Stmt → Type 0
    RaisedBlock stmt.end_of-Stmt ss = ss ≡ []
    RaisedBlock (stmt.more_of-Stmt l k row) [] = ⊥
    RaisedBlock (stmt.more_of-Stmt l k row) (s ∷ ss) = (s.line ≡ l) × RaisedStmtKind k s.kind × RaisedBlock row ss

    pub RaisedArms : {m : _} → stmt.Row_of-Arm m → List Arm → Type 0
    RaisedArms stmt.end_of-Arm those = those ≡ []
    RaisedArms (stmt.more_of-Arm a row) [] = ⊥
    RaisedArms (stmt.more_of-Arm a row) (b ∷ those) = RaisedArm a b × RaisedArms row those

    pub RaisedArm : Arm → Arm → Type 0
    RaisedArm (arm.Arm' test p shape row) b = RaisedExpr test (out-Arm b).test × RaisedBlock row (out-Arm b).body.value.items

  abbrev pub RaisedStmt : Stmt → Stmt → Type 0
  RaisedStmt s r = (r.line ≡ s.line) × RaisedStmtKind s.kind r.kind

-- the numbers of functions in the body are so much higher, and so is that of the file
pub record RaisedFunction (by files : ℕ) (f g : Function) : Type 0 where
  pub file : g.file ≡ f.file + files
  pub params : g.params ≡ f.params
  pub vararg : g.vararg ≡ f.vararg
  pub slots : g.slots ≡ f.slots
  pub captures : g.captures.items ≡ f.captures.items
  pub body : AllZip (RaisedStmt by) f.body.value.items g.body.value.items
  pub line : g.line ≡ f.line
