-- Nodes whose parts are raised are raised.
use Rattle.std.proofs.Common.{◌≡◌, ℕ, List, [], ◌∷◌, Vec, Global, Option, refl, rules, subst}
use denote.Hole.Carrier.{roll}
use Rattle.std.specs.List.{AllZip}
use Rattle.lua_ast.specs.declared.expressions.Expr.{Expr}
use Rattle.lua_ast.specs.declared.expressions.ExprKind.{ExprKind}
use Rattle.lua_ast.specs.declared.expressions.ExprKind as kind
use Rattle.lua_ast.specs.declared.expressions.TableItem.{TableItem}
use Rattle.lua_ast.specs.declared.statements.Stmt.{Stmt}
use Rattle.lua_ast.specs.declared.statements.StmtKind.{StmtKind}
use Rattle.lua_ast.specs.declared.statements.StmtKind as stmt
use Rattle.lua_ast.specs.declared.statements.Arm.{Arm, out-Arm}
use Rattle.lua_ast.specs.declared.statements.Arm as arm
use Rattle.lua_linking.specs.Raising.{Shared, SharedList, RaisedKind, RaisedRow, RaisedItems, RaisedItem, RaisedExpr, RaisedStep, RaisedStmtKind, RaisedBlock}
use Rattle.lua_linking.specs.Raising.{RaisedArms, RaisedArm, RaisedStmt}

module _ (by : ℕ) where
  row_raised : {m : _} (r : kind.Row_of-Expr m) (es : List Expr) → AllZip (RaisedExpr by) (kind.items-the_row-Expr _ r) es → RaisedRow by r es
  row_raised kind.end_of-Expr [] h = refl
  row_raised kind.end_of-Expr (e ∷ es) h = absurd h
  row_raised (kind.more_of-Expr l k row) [] h = absurd h
  row_raised (kind.more_of-Expr l k row) (e ∷ es) h = (h.0, row_raised row es h.1)

  items_raised : {m : _} (r : kind.Row_of-TableItem m) (is : List TableItem) → AllZip (RaisedItem by) (kind.items-the_row-TableItem _ r) is
      → RaisedItems by r is
  items_raised kind.end_of-TableItem [] h = refl
  items_raised kind.end_of-TableItem (i ∷ is) h = absurd h
  items_raised (kind.more_of-TableItem i row) [] h = absurd h
  items_raised (kind.more_of-TableItem i row) (j ∷ is) h = (h.0, items_raised row is h.1)

  block_raised : {m : _} (r : stmt.Row_of-Stmt m) (ss : List Stmt) → AllZip (RaisedStmt by) (stmt.items-the_row-Stmt _ r) ss → RaisedBlock by r ss
  block_raised stmt.end_of-Stmt [] h = refl
  block_raised stmt.end_of-Stmt (s ∷ ss) h = absurd h
  block_raised (stmt.more_of-Stmt l k row) [] h = absurd h
  block_raised (stmt.more_of-Stmt l k row) (s ∷ ss) h = (h.0.0, h.0.1, block_raised row ss h.1)

  arms_raised : {m : _} (r : stmt.Row_of-Arm m) (those : List Arm) → AllZip (RaisedArm by) (stmt.items-the_row-Arm _ r) those → RaisedArms by r those
  arms_raised stmt.end_of-Arm [] h = refl
  arms_raised stmt.end_of-Arm (a ∷ those) h = absurd h
  arms_raised (stmt.more_of-Arm a row) [] h = absurd h
  arms_raised (stmt.more_of-Arm a row) (b ∷ those) h = (h.0, arms_raised row those h.1)

  exprs : (values : Vec Expr Global) (es : List Expr) → AllZip (RaisedExpr by) values.items es → RaisedRow by (kind.TheBlock.hidden-the_row-Expr-0 values) es
  exprs values es h =
      let e : kind.items-the_row-Expr _ (kind.TheBlock.hidden-the_row-Expr-0 values) ≡ values.items = search (rules, kind.the_lemmas) in
      row_raised (kind.TheBlock.hidden-the_row-Expr-0 values) es (rw e h)

  items : (values : Vec TableItem Global) (is : List TableItem) → AllZip (RaisedItem by) values.items is
      → RaisedItems by (kind.TheBlock.hidden-the_row-TableItem-1 values) is
  items values is h =
      let e : kind.items-the_row-TableItem _ (kind.TheBlock.hidden-the_row-TableItem-1 values) ≡ values.items = search (rules, kind.the_lemmas) in
      items_raised (kind.TheBlock.hidden-the_row-TableItem-1 values) is (rw e h)

  block : (values : Vec Stmt Global) (ss : List Stmt) → AllZip (RaisedStmt by) values.items ss → RaisedBlock by (stmt.TheBlock.hidden-the_row-Stmt-0 values) ss
  block values ss h =
      let e : stmt.items-the_row-Stmt _ (stmt.TheBlock.hidden-the_row-Stmt-0 values) ≡ values.items = search (rules, stmt.the_lemmas) in
      block_raised (stmt.TheBlock.hidden-the_row-Stmt-0 values) ss (rw e h)

  arms : (values : Vec Arm Global) (those : List Arm) → AllZip (RaisedArm by) values.items those
      → RaisedArms by (stmt.TheBlock.hidden-the_row-Arm-1 values) those
  arms values those h =
      let e : stmt.items-the_row-Arm _ (stmt.TheBlock.hidden-the_row-Arm-1 values) ≡ values.items = search (rules, stmt.the_lemmas) in
      arms_raised (stmt.TheBlock.hidden-the_row-Arm-1 values) those (rw e h)

  -- ---- expressions

  module _ (x y : Shared) (p : RaisedExpr by x.value y.value) where
    pub index_raised : (v w : Shared) → RaisedExpr by v.value w.value → RaisedKind by (kind.Index x v) (kind.Index y w)
    index_raised v w q = (y, w, refl, p, q)

    pub binary_raised : (op : _) (v w : Shared) → RaisedExpr by v.value w.value → RaisedKind by (kind.Binary op x v) (kind.Binary op y w)
    binary_raised op v w q = (y, w, refl, p, q)

    pub and_raised : (v w : Shared) → RaisedExpr by v.value w.value → RaisedKind by (kind.And x v) (kind.And y w)
    and_raised v w q = (y, w, refl, p, q)

    pub or_raised : (v w : Shared) → RaisedExpr by v.value w.value → RaisedKind by (kind.Or x v) (kind.Or y w)
    or_raised v w q = (y, w, refl, p, q)

    pub unary_raised : (op : _) → RaisedKind by (kind.Unary op x) (kind.Unary op y)
    unary_raised op = (y, refl, p)

    pub paren_raised : RaisedKind by (kind.Paren x) (kind.Paren y)
    paren_raised = (y, refl, p)

    pub call_raised : (v w : SharedList Expr) → AllZip (RaisedExpr by) v.value.items w.value.items → RaisedKind by (kind.Call x v) (kind.Call y w)
    call_raised v w q = (y, w, refl, p, exprs v.value w.value.items q)

    pub method_raised : (name : List ℕ) (v w : SharedList Expr) → AllZip (RaisedExpr by) v.value.items w.value.items
        → RaisedKind by (kind.Method x name v) (kind.Method y name w)
    method_raised name v w q = (y, w, refl, p, exprs v.value w.value.items q)

  pub table_raised : (v w : SharedList TableItem) → AllZip (RaisedItem by) v.value.items w.value.items → RaisedKind by (kind.Table v) (kind.Table w)
  table_raised v w q = (w, refl, items v.value w.value.items q)

  -- ---- statements

  module _ (v w : SharedList Expr) (q : AllZip (RaisedExpr by) v.value.items w.value.items) where
    pub local_raised : (slots : SharedList ℕ) → RaisedStmtKind by (stmt.Local slots v) (stmt.Local slots w)
    local_raised slots = (w, refl, q)

    pub assign_raised : (t u : SharedList Expr) → AllZip (RaisedExpr by) t.value.items u.value.items → RaisedStmtKind by (stmt.Assign v t) (stmt.Assign w u)
    assign_raised t u p = (w, u, refl, q, p)

    pub return_raised : RaisedStmtKind by (stmt.Return v) (stmt.Return w)
    return_raised = (w, refl, q)

  pub call_statement_raised : (e d : Expr) → RaisedExpr by e d → RaisedStmtKind by (stmt.Call e) (stmt.Call d)
  call_statement_raised e d p = (d, refl, p)

  module _ (v w : SharedList Stmt) (q : AllZip (RaisedStmt by) v.value.items w.value.items) where
    pub do_raised : RaisedStmtKind by (stmt.Do v) (stmt.Do w)
    do_raised = (w, refl, block v.value w.value.items q)

    pub while_raised : (x y : Shared) → RaisedExpr by x.value y.value → RaisedStmtKind by (stmt.While x v) (stmt.While y w)
    while_raised x y p = (y, w, refl, p, block v.value w.value.items q)

    pub repeat_raised : (x y : Shared) → RaisedExpr by x.value y.value → RaisedStmtKind by (stmt.Repeat v x) (stmt.Repeat w y)
    repeat_raised x y p = (w, y, refl, block v.value w.value.items q, p)

    pub if_raised : (those bs : SharedList Arm) → AllZip (RaisedArm by) those.value.items bs.value.items → RaisedStmtKind by (stmt.If those v) (stmt.If bs w)
    if_raised those bs p = (bs, w, refl, arms those.value bs.value.items p, block v.value w.value.items q)

    pub numeric_raised : (slot : ℕ) (from to from' to' : Shared) (step step' : Option Shared) → RaisedExpr by from.value from'.value
        → RaisedExpr by to.value to'.value →
        RaisedStep by step step' → RaisedStmtKind by (stmt.NumericFor slot from to step v) (stmt.NumericFor slot from' to' step' w)
    numeric_raised slot from to from' to' step step' a b c = (from', to', step', w, refl, a, b, c, block v.value w.value.items q)

    pub generic_raised : (slots : SharedList ℕ) (es ds : SharedList Expr) → AllZip (RaisedExpr by) es.value.items ds.value.items →
        RaisedStmtKind by (stmt.GenericFor slots es v) (stmt.GenericFor slots ds w)
    generic_raised slots es ds p = (ds, w, refl, p, block v.value w.value.items q)

  arm_rolled : (a b : Arm) → RaisedExpr by (out-Arm a).test (out-Arm b).test → AllZip (RaisedStmt by) (out-Arm a).body.value.items (out-Arm b).body.value.items
      → RaisedArm by (arm.roll-Arm (out-Arm a)) b
  unfolding arm.roll-Arm roll
  arm_rolled a b p q = (p, block (out-Arm a).body.value (out-Arm b).body.value.items q)

  pub arm_raised : (a b : Arm) → RaisedExpr by (out-Arm a).test (out-Arm b).test
      → AllZip (RaisedStmt by) (out-Arm a).body.value.items (out-Arm b).body.value.items → RaisedArm by a b
  arm_raised a b p q =
      let e : arm.roll-Arm (out-Arm a) ≡ a = search (rules, arm.the_lemmas) in
      subst (λ c. RaisedArm by c b) e (arm_rolled a b p q)
