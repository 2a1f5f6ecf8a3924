-- Nodes whose parts are whole are whole.
use Rattle.std.proofs.Common.{◌≡◌, ℕ, ◌<◌, List, All, IfSome, Vec, Global, Option, rules, subst}
use denote.Hole.Carrier.{roll}
use Rattle.std.proofs.lemmas.List.Elements.{All-head, All-tail}
use Rattle.lua_ast.specs.declared.expressions.Expr.{Expr}
use Rattle.lua_ast.specs.declared.expressions.ExprKind as kind
use Rattle.lua_ast.specs.declared.expressions.TableItem.{TableItem}
use Rattle.lua_ast.specs.declared.statements.Stmt.{Stmt}
use Rattle.lua_ast.specs.declared.statements.StmtKind as stmt
use Rattle.lua_ast.specs.declared.statements.Arm.{Arm, out-Arm}
use Rattle.lua_ast.specs.declared.statements.Arm as arm
use Rattle.lua_ast.specs.declared.programs.Function.{Function}
use Rattle.lua_ast.specs.WholeProgram.{IsWholeRow, AreWholeItems, IsWholeItem, IsWholeExpr, IsWholeBlock, AreWholeArms, IsWholeArm, IsWholeStmt}
use Rattle.lua_grammar.specs.declared.operators.Operator.{Operator}
use Rattle.lua_grammar.specs.declared.operators.Operator.TheVariants.{Or, And, Plain}
use Rattle.lua_grammar.specs.Resolution.{Shared, SharedList, node, statement, binary_kind}

-- ---- rows of a tree as lists

row_whole : {m : _} (fs : List Function) (f : Function) (r : kind.Row_of-Expr m) → All (IsWholeExpr fs f) (kind.items-the_row-Expr _ r) → IsWholeRow fs f r
row_whole fs f kind.end_of-Expr all = tt
row_whole fs f (kind.more_of-Expr l k row) all =
    let rest = kind.items-the_row-Expr _ row in
    let e : Expr = record { line = l; kind = k } in
    (All-head (IsWholeExpr fs f) e rest all, row_whole fs f row (All-tail (IsWholeExpr fs f) e rest all))

items_whole : {m : _} (fs : List Function) (f : Function) (r : kind.Row_of-TableItem m) → All (IsWholeItem fs f) (kind.items-the_row-TableItem _ r) → AreWholeItems fs f r
items_whole fs f kind.end_of-TableItem all = tt
items_whole fs f (kind.more_of-TableItem i row) all =
    let rest = kind.items-the_row-TableItem _ row in
    (All-head (IsWholeItem fs f) i rest all, items_whole fs f row (All-tail (IsWholeItem fs f) i rest all))

block_whole : {m : _} (fs : List Function) (f : Function) (r : stmt.Row_of-Stmt m) → All (IsWholeStmt fs f) (stmt.items-the_row-Stmt _ r) → IsWholeBlock fs f r
block_whole fs f stmt.end_of-Stmt all = tt
block_whole fs f (stmt.more_of-Stmt l k row) all =
    let rest = stmt.items-the_row-Stmt _ row in
    let e : Stmt = record { line = l; kind = k } in
    (All-head (IsWholeStmt fs f) e rest all, block_whole fs f row (All-tail (IsWholeStmt fs f) e rest all))

arms_whole : {m : _} (fs : List Function) (f : Function) (r : stmt.Row_of-Arm m) → All (IsWholeArm fs f) (stmt.items-the_row-Arm _ r) → AreWholeArms fs f r
arms_whole fs f stmt.end_of-Arm all = tt
arms_whole fs f (stmt.more_of-Arm a row) all =
    let rest = stmt.items-the_row-Arm _ row in
    (All-head (IsWholeArm fs f) a rest all, arms_whole fs f row (All-tail (IsWholeArm fs f) a rest all))

module _ (fs : List Function) (f : Function) where
  exprs : (values : Vec Expr Global) → All (IsWholeExpr fs f) values.items → IsWholeRow fs f (kind.TheBlock.hidden-the_row-Expr-0 values)
  exprs values h =
      let e : kind.items-the_row-Expr _ (kind.TheBlock.hidden-the_row-Expr-0 values) ≡ values.items = search (rules, kind.the_lemmas) in
      row_whole fs f (kind.TheBlock.hidden-the_row-Expr-0 values) (rw e h)

  items : (values : Vec TableItem Global) → All (IsWholeItem fs f) values.items → AreWholeItems fs f (kind.TheBlock.hidden-the_row-TableItem-1 values)
  items values h =
      let e : kind.items-the_row-TableItem _ (kind.TheBlock.hidden-the_row-TableItem-1 values) ≡ values.items = search (rules, kind.the_lemmas) in
      items_whole fs f (kind.TheBlock.hidden-the_row-TableItem-1 values) (rw e h)

  block : (values : Vec Stmt Global) → All (IsWholeStmt fs f) values.items → IsWholeBlock fs f (stmt.TheBlock.hidden-the_row-Stmt-0 values)
  block values h =
      let e : stmt.items-the_row-Stmt _ (stmt.TheBlock.hidden-the_row-Stmt-0 values) ≡ values.items = search (rules, stmt.the_lemmas) in
      block_whole fs f (stmt.TheBlock.hidden-the_row-Stmt-0 values) (rw e h)

  arms : (values : Vec Arm Global) → All (IsWholeArm fs f) values.items → AreWholeArms fs f (stmt.TheBlock.hidden-the_row-Arm-1 values)
  arms values h =
      let e : stmt.items-the_row-Arm _ (stmt.TheBlock.hidden-the_row-Arm-1 values) ≡ values.items = search (rules, stmt.the_lemmas) in
      arms_whole fs f (stmt.TheBlock.hidden-the_row-Arm-1 values) (rw e h)

  -- ---- expressions

  pub binary_whole : (l : ℕ) (op : Operator) (x y : Shared) → IsWholeExpr fs f x.value → IsWholeExpr fs f y.value → IsWholeExpr fs f (node l (binary_kind op x y))
  binary_whole l Or x y p q = (p, q)
  binary_whole l And x y p q = (p, q)
  binary_whole l (Plain op) x y p q = (p, q)

  pub call_whole : (l : ℕ) (x : Shared) (values : SharedList Expr) → IsWholeExpr fs f x.value → All (IsWholeExpr fs f) values.value.items →
      IsWholeExpr fs f (node l (kind.Call x values))
  call_whole l x values p q = (p, exprs values.value q)

  pub method_whole : (l : ℕ) (x : Shared) (n : List ℕ) (values : SharedList Expr) → IsWholeExpr fs f x.value → All (IsWholeExpr fs f) values.value.items →
      IsWholeExpr fs f (node l (kind.Method x n values))
  method_whole l x n values p q = (p, exprs values.value q)

  pub table_whole : (l : ℕ) (values : SharedList TableItem) → All (IsWholeItem fs f) values.value.items → IsWholeExpr fs f (node l (kind.Table values))
  table_whole l values q = items values.value q

  -- ---- statements

  pub do_whole : (l : ℕ) (run : SharedList Stmt) → All (IsWholeStmt fs f) run.value.items → IsWholeStmt fs f (statement l (stmt.Do run))
  do_whole l run h = block run.value h

  pub while_whole : (l : ℕ) (x : Shared) (run : SharedList Stmt) → IsWholeExpr fs f x.value → All (IsWholeStmt fs f) run.value.items →
      IsWholeStmt fs f (statement l (stmt.While x run))
  while_whole l x run p h = (p, block run.value h)

  pub repeat_whole : (l : ℕ) (x : Shared) (run : SharedList Stmt) → All (IsWholeStmt fs f) run.value.items → IsWholeExpr fs f x.value →
      IsWholeStmt fs f (statement l (stmt.Repeat run x))
  repeat_whole l x run h p = (block run.value h, p)

  pub if_whole : (l : ℕ) (list : SharedList Arm) (run : SharedList Stmt) → All (IsWholeArm fs f) list.value.items → All (IsWholeStmt fs f) run.value.items →
      IsWholeStmt fs f (statement l (stmt.If list run))
  if_whole l list run p h = (arms list.value p, block run.value h)

  pub numeric_whole : (l slot : ℕ) (from to : Shared) (step : Option Shared) (run : SharedList Stmt) → slot < f.slots → IsWholeExpr fs f from.value →
      IsWholeExpr fs f to.value → IfSome step (λ s. IsWholeExpr fs f s.value) → All (IsWholeStmt fs f) run.value.items →
      IsWholeStmt fs f (statement l (stmt.NumericFor slot from to step run))
  numeric_whole l slot from to step run o p q r h = (o, p, q, r, block run.value h)

  pub generic_whole : (l : ℕ) (slots : SharedList ℕ) (values : SharedList Expr) (run : SharedList Stmt) → All (λ n. n < f.slots) slots.value.items →
      All (IsWholeExpr fs f) values.value.items → All (IsWholeStmt fs f) run.value.items → IsWholeStmt fs f (statement l (stmt.GenericFor slots values run))
  generic_whole l slots values run p q h = (p, q, block run.value h)

  arm_rolled : (a : Arm) → IsWholeExpr fs f (out-Arm a).test → All (IsWholeStmt fs f) (out-Arm a).body.value.items → IsWholeArm fs f (arm.roll-Arm (out-Arm a))
  unfolding arm.roll-Arm roll
  arm_rolled a p q = (p, block (out-Arm a).body.value q)

  pub arm_whole : (a : Arm) → IsWholeExpr fs f (out-Arm a).test → All (IsWholeStmt fs f) (out-Arm a).body.value.items → IsWholeArm fs f a
  arm_whole a p q =
      let e : arm.roll-Arm (out-Arm a) ≡ a = search (rules, arm.the_lemmas) in
      subst (IsWholeArm fs f) e (arm_rolled a p q)
