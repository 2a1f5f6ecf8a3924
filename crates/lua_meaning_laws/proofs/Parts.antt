-- The parts of what is whole in a function of the program are so too.
use Rattle.std.proofs.Common.{◌≡◌, List, Option, None, Some, IfSome, All, Vec, Global, rules, sym, subst}
use denote.Hole.Carrier.{roll}
use Rattle.std.specs.Prelude.{IsSomeAnd, slice_get}
use Rattle.std.specs.declared.rc.Rc.{Rc}
use Rattle.std.proofs.lemmas.List.Elements.{All-nil, All-cons, All-weaker}
use Rattle.lua_ast.specs.declared.expressions.Expr.{Expr}
use Rattle.lua_ast.specs.declared.expressions.ExprKind.{ExprKind, out-ExprKind}
use Rattle.lua_ast.specs.declared.expressions.ExprKind as kind
use Rattle.lua_ast.specs.declared.expressions.ExprKind.TheOpen.{ExprKind-F}
use Rattle.lua_ast.specs.declared.expressions.ExprKind.TheOpen as e
use Rattle.lua_ast.specs.declared.expressions.TableItem.{TableItem}
use Rattle.lua_ast.specs.declared.expressions.TableItem as item
use Rattle.lua_ast.specs.declared.statements.Stmt.{Stmt}
use Rattle.lua_ast.specs.declared.statements.StmtKind.{StmtKind, out-StmtKind}
use Rattle.lua_ast.specs.declared.statements.StmtKind as stmt
use Rattle.lua_ast.specs.declared.statements.StmtKind.TheOpen.{StmtKind-F}
use Rattle.lua_ast.specs.declared.statements.StmtKind.TheOpen as t
use Rattle.lua_ast.specs.declared.statements.Arm.{Arm, out-Arm}
use Rattle.lua_ast.specs.declared.statements.Arm as arm
use Rattle.lua_ast.specs.declared.programs.Function.{Function}
use Rattle.lua_ast.specs.WholeProgram.{HasVariable, IsWholeKind, IsWholeRow, AreWholeItems, IsWholeItem, IsWholeExpr, IsWholeStmtKind, IsWholeBlock, AreWholeArms, IsWholeArm, IsWholeStmt}
use Rattle.lua_meaning.specs.Setting.{Setting}
use Rattle.lua_meaning.specs.Tables.{expr_of}
use Rattle.lua_meaning_laws.proofs.Known.{ExprIn, StmtIn, HasFunction}

abbrev pub ItemIn : Setting → TableItem → Type 0
ItemIn S (item.Item' l k) = ExprIn S (expr_of l k)
ItemIn S (item.Pair' l k m j) = ExprIn S (expr_of l k) × ExprIn S (expr_of m j)

abbrev pub ArmIn : Setting → Arm → Type 0
ArmIn S a = ExprIn S (out-Arm a).test × All (StmtIn S) (out-Arm a).body.value.items

-- the parts of an expression, of which the others have none
abbrev pub ExprParts : Setting → ExprKind-F ExprKind TableItem Expr → Type 0
ExprParts S (e.Function n) = HasFunction S n
ExprParts S (e.Index a b) = ExprIn S a.value × ExprIn S b.value
ExprParts S (e.Call f args) = ExprIn S f.value × All (ExprIn S) args.value.items
ExprParts S (e.Method a name args) = ExprIn S a.value × All (ExprIn S) args.value.items
ExprParts S (e.Unary o a) = ExprIn S a.value
ExprParts S (e.Binary o a b) = ExprIn S a.value × ExprIn S b.value
ExprParts S (e.And a b) = ExprIn S a.value × ExprIn S b.value
ExprParts S (e.Or a b) = ExprIn S a.value × ExprIn S b.value
ExprParts S (e.Paren a) = ExprIn S a.value
ExprParts S (e.Table items) = All (ItemIn S) items.value.items
ExprParts S leaf = Unit {0}

-- and those of a statement
abbrev pub StmtParts : Setting → StmtKind-F StmtKind Arm Stmt → Type 0
StmtParts S (t.Local slots xs) = All (ExprIn S) xs.value.items
StmtParts S (t.LocalFunction slot n) = HasFunction S n
StmtParts S (t.Assign targets xs) = All (ExprIn S) targets.value.items × All (ExprIn S) xs.value.items
StmtParts S (t.Call x) = ExprIn S x
StmtParts S (t.Do body) = All (StmtIn S) body.value.items
StmtParts S (t.While test body) = ExprIn S test.value × All (StmtIn S) body.value.items
StmtParts S (t.Repeat body test) = ExprIn S test.value × All (StmtIn S) body.value.items
StmtParts S (t.If arms last) = All (ArmIn S) arms.value.items × All (StmtIn S) last.value.items
StmtParts S (t.NumericFor slot from to step body) =
    ExprIn S from.value × ExprIn S to.value × IfSome step (λ (x : Rc Expr Global). ExprIn S x.value) × All (StmtIn S) body.value.items
StmtParts S (t.GenericFor slots xs body) = All (ExprIn S) xs.value.items × All (StmtIn S) body.value.items
StmtParts S (t.Return xs) = All (ExprIn S) xs.value.items
StmtParts S t.Break = Unit {0}

inner_there : (fs : List Function) (f : Function) (o : Option Function) → IsSomeAnd o (λ (inner : Function). All (HasVariable f) inner.captures.items) → IsSomeAnd o (λ (g : Function). Unit {0})
inner_there fs f (Some g) h = tt
inner_there fs f None h = absurd h

module _ (S : Setting) (f : Function) where
  exprs : (xs : List Expr) → All (IsWholeExpr S.program.functions.items f) xs → All (ExprIn S) xs
  exprs xs w = All-weaker (IsWholeExpr S.program.functions.items f) (ExprIn S) (λ x k. (f, k)) xs w

  stmts : (xs : List Stmt) → All (IsWholeStmt S.program.functions.items f) xs → All (StmtIn S) xs
  stmts xs w = All-weaker (IsWholeStmt S.program.functions.items f) (StmtIn S) (λ x k. (f, k)) xs w

  -- ---- rows of a tree as lists
  row_in : {m : _} (r : kind.Row_of-Expr m) → IsWholeRow S.program.functions.items f r → All (IsWholeExpr S.program.functions.items f) (kind.items-the_row-Expr _ r)
  row_in kind.end_of-Expr w = All-nil (IsWholeExpr S.program.functions.items f)
  row_in (kind.more_of-Expr l k row) w = All-cons (IsWholeExpr S.program.functions.items f) (record { line = l; kind = k }) (kind.items-the_row-Expr _ row) w.0 (row_in row w.1)

  item_in : (i : TableItem) → IsWholeItem S.program.functions.items f i → ItemIn S i
  item_in (item.Item' l k) w = (f, w)
  item_in (item.Pair' l k m j) w = ((f, w.0), (f, w.1))

  items_in : {m : _} (r : kind.Row_of-TableItem m) → AreWholeItems S.program.functions.items f r → All (ItemIn S) (kind.items-the_row-TableItem _ r)
  items_in kind.end_of-TableItem w = All-nil (ItemIn S)
  items_in (kind.more_of-TableItem i row) w = All-cons (ItemIn S) i (kind.items-the_row-TableItem _ row) (item_in i w.0) (items_in row w.1)

  block_in : {m : _} (r : stmt.Row_of-Stmt m) → IsWholeBlock S.program.functions.items f r → All (IsWholeStmt S.program.functions.items f) (stmt.items-the_row-Stmt _ r)
  block_in stmt.end_of-Stmt w = All-nil (IsWholeStmt S.program.functions.items f)
  block_in (stmt.more_of-Stmt l k row) w = All-cons (IsWholeStmt S.program.functions.items f) (record { line = l; kind = k }) (stmt.items-the_row-Stmt _ row) w.0 (block_in row w.1)

  list_in : (xs : Vec Expr Global) → IsWholeRow S.program.functions.items f (kind.TheBlock.hidden-the_row-Expr-0 xs) → All (ExprIn S) xs.items
  list_in xs w =
      let same : kind.items-the_row-Expr _ (kind.TheBlock.hidden-the_row-Expr-0 xs) ≡ xs.items = search (rules, kind.the_lemmas) in
      exprs xs.items (subst (All (IsWholeExpr S.program.functions.items f)) same (row_in (kind.TheBlock.hidden-the_row-Expr-0 xs) w))

  table_in : (xs : Vec TableItem Global) → AreWholeItems S.program.functions.items f (kind.TheBlock.hidden-the_row-TableItem-1 xs) → All (ItemIn S) xs.items
  table_in xs w =
      let same : kind.items-the_row-TableItem _ (kind.TheBlock.hidden-the_row-TableItem-1 xs) ≡ xs.items = search (rules, kind.the_lemmas) in
      subst (All (ItemIn S)) same (items_in (kind.TheBlock.hidden-the_row-TableItem-1 xs) w)

  body_in : (xs : Vec Stmt Global) → IsWholeBlock S.program.functions.items f (stmt.TheBlock.hidden-the_row-Stmt-0 xs) → All (StmtIn S) xs.items
  body_in xs w =
      let same : stmt.items-the_row-Stmt _ (stmt.TheBlock.hidden-the_row-Stmt-0 xs) ≡ xs.items = search (rules, stmt.the_lemmas) in
      stmts xs.items (subst (All (IsWholeStmt S.program.functions.items f)) same (block_in (stmt.TheBlock.hidden-the_row-Stmt-0 xs) w))

  arm_rolled : (a : _) → IsWholeArm S.program.functions.items f (arm.roll-Arm a) → ExprIn S a.test × All (StmtIn S) a.body.value.items
  unfolding arm.roll-Arm roll
  arm_rolled a w = ((f, w.0), body_in a.body.value w.1)

  arm_in : (a : Arm) → IsWholeArm S.program.functions.items f a → ArmIn S a
  arm_in a w =
      let same : arm.roll-Arm (out-Arm a) ≡ a = search (rules, arm.the_lemmas) in
      arm_rolled (out-Arm a) (subst (IsWholeArm S.program.functions.items f) (sym same) w)

  arms_in : {m : _} (r : stmt.Row_of-Arm m) → AreWholeArms S.program.functions.items f r → All (ArmIn S) (stmt.items-the_row-Arm _ r)
  arms_in stmt.end_of-Arm w = All-nil (ArmIn S)
  arms_in (stmt.more_of-Arm a row) w = All-cons (ArmIn S) a (stmt.items-the_row-Arm _ row) (arm_in a w.0) (arms_in row w.1)

  all_arms : (xs : Vec Arm Global) → AreWholeArms S.program.functions.items f (stmt.TheBlock.hidden-the_row-Arm-1 xs) → All (ArmIn S) xs.items
  all_arms xs w =
      let same : stmt.items-the_row-Arm _ (stmt.TheBlock.hidden-the_row-Arm-1 xs) ≡ xs.items = search (rules, stmt.the_lemmas) in
      subst (All (ArmIn S)) same (arms_in (stmt.TheBlock.hidden-the_row-Arm-1 xs) w)

  -- ---- expressions
  expr_rolled : (o : ExprKind-F ExprKind TableItem Expr) → IsWholeKind S.program.functions.items f (kind.roll-ExprKind o) → ExprParts S o
  unfolding kind.roll-ExprKind roll
  expr_rolled e.Nil w = tt
  expr_rolled e.True w = tt
  expr_rolled e.False w = tt
  expr_rolled (e.Number n) w = tt
  expr_rolled (e.Text text) w = tt
  expr_rolled e.Vararg w = tt
  expr_rolled (e.Function n) w = inner_there S.program.functions.items f (slice_get S.program.functions.items n) w
  expr_rolled (e.Slot n) w = tt
  expr_rolled (e.Captured n) w = tt
  expr_rolled (e.Global name) w = tt
  expr_rolled (e.Index a b) w = ((f, w.0), (f, w.1))
  expr_rolled (e.Call g args) w = ((f, w.0), list_in args.value w.1)
  expr_rolled (e.Method a name args) w = ((f, w.0), list_in args.value w.1)
  expr_rolled (e.Unary o a) w = (f, w)
  expr_rolled (e.Binary o a b) w = ((f, w.0), (f, w.1))
  expr_rolled (e.And a b) w = ((f, w.0), (f, w.1))
  expr_rolled (e.Or a b) w = ((f, w.0), (f, w.1))
  expr_rolled (e.Paren a) w = (f, w)
  expr_rolled (e.Table items) w = table_in items.value w

  pub expr_parts : (k : ExprKind) → IsWholeKind S.program.functions.items f k → ExprParts S (out-ExprKind k)
  expr_parts k w =
      let same : kind.roll-ExprKind (out-ExprKind k) ≡ k = search (rules, kind.the_lemmas) in
      expr_rolled (out-ExprKind k) (subst (IsWholeKind S.program.functions.items f) (sym same) w)

  -- ---- statements
  step_in : (step : Option (Rc Expr Global)) → IfSome step (λ (x : Rc Expr Global). IsWholeExpr S.program.functions.items f x.value) → IfSome step (λ (x : Rc Expr Global). ExprIn S x.value)
  step_in None w = tt
  step_in (Some x) w = (f, w)

  stmt_rolled : (o : StmtKind-F StmtKind Arm Stmt) → IsWholeStmtKind S.program.functions.items f (stmt.roll-StmtKind o) → StmtParts S o
  unfolding stmt.roll-StmtKind roll
  stmt_rolled (t.Local slots xs) w = exprs xs.value.items w.1
  stmt_rolled (t.LocalFunction slot n) w = inner_there S.program.functions.items f (slice_get S.program.functions.items n) w.1
  stmt_rolled (t.Assign targets xs) w = (exprs targets.value.items w.0, exprs xs.value.items w.1)
  stmt_rolled (t.Call x) w = (f, w)
  stmt_rolled (t.Do body) w = body_in body.value w
  stmt_rolled (t.While test body) w = ((f, w.0), body_in body.value w.1)
  stmt_rolled (t.Repeat body test) w = ((f, w.1), body_in body.value w.0)
  stmt_rolled (t.If arms last) w = (all_arms arms.value w.0, body_in last.value w.1)
  stmt_rolled (t.NumericFor slot from to step body) w = ((f, w.1), (f, w.2), step_in step w.3, body_in body.value w.4)
  stmt_rolled (t.GenericFor slots xs body) w = (exprs xs.value.items w.1, body_in body.value w.2)
  stmt_rolled (t.Return xs) w = exprs xs.value.items w
  stmt_rolled t.Break w = tt

  pub stmt_parts : (k : StmtKind) → IsWholeStmtKind S.program.functions.items f k → StmtParts S (out-StmtKind k)
  stmt_parts k w =
      let same : stmt.roll-StmtKind (out-StmtKind k) ≡ k = search (rules, stmt.the_lemmas) in
      stmt_rolled (out-StmtKind k) (subst (IsWholeStmtKind S.program.functions.items f) (sym same) w)
