-- Trees that are the same but for where they stand in memory, seen one layer at a time.
use Rattle.std.proofs.Common.{◌≡◌, ℕ, ℤ, List, [], ◌∷◌, Vec, Global, Option, refl, sym, ap, ◌∙◌, subst, subst₂, rules}
use denote.Hole.Carrier.{roll}
use Rattle.std.specs.List.{AllZip}
use Rattle.std.specs.declared.rc.Rc.{Rc}
use Rattle.lua_ast.specs.SameProgram.{SameKind, SameRow, SameItems, SameItem, SameExpr, SameStep, SameStmtKind, SameBlock, SameArms, SameArm, SameStmt}
use Rattle.lua_ast.specs.declared.expressions.Expr.{Expr}
use Rattle.lua_ast.specs.declared.expressions.ExprKind.{ExprKind, out-ExprKind}
use Rattle.lua_ast.specs.declared.expressions.ExprKind.TheOpen.{ExprKind-F}
use Rattle.lua_ast.specs.declared.expressions.ExprKind.TheOpen as e
use Rattle.lua_ast.specs.declared.expressions.ExprKind as kind
use Rattle.lua_ast.specs.declared.expressions.UnOp.{UnOp}
use Rattle.lua_ast.specs.declared.expressions.BinOp.{BinOp}
use Rattle.lua_ast.specs.declared.expressions.TableItem.{TableItem}
use Rattle.lua_ast.specs.declared.expressions.TableItem as item
use Rattle.lua_ast.specs.declared.statements.Stmt.{Stmt}
use Rattle.lua_ast.specs.declared.statements.StmtKind.{StmtKind, out-StmtKind}
use Rattle.lua_ast.specs.declared.statements.StmtKind.TheOpen.{StmtKind-F}
use Rattle.lua_ast.specs.declared.statements.StmtKind.TheOpen as s
use Rattle.lua_ast.specs.declared.statements.StmtKind as stmt
use Rattle.lua_ast.specs.declared.statements.Arm.{Arm, out-Arm}
use Rattle.lua_ast.specs.declared.statements.Arm as arm

-- ---- each tree is the same as itself

mutual
  unfolding SameKind

  pub kind_self : (k : ExprKind) → SameKind k k
  kind_self (kind.Index' p l k q m j) = (refl, kind_self k, refl, kind_self j)
  kind_self (kind.Call' p l k q shape row) = (refl, kind_self k, row_self row)
  kind_self (kind.Method' p l k name q shape row) = (refl, kind_self k, refl, row_self row)
  kind_self (kind.Unary' op p l k) = (refl, refl, kind_self k)
  kind_self (kind.Binary' op p l k q m j) = (refl, refl, kind_self k, refl, kind_self j)
  kind_self (kind.And' p l k q m j) = (refl, kind_self k, refl, kind_self j)
  kind_self (kind.Or' p l k q m j) = (refl, kind_self k, refl, kind_self j)
  kind_self (kind.Paren' p l k) = (refl, kind_self k)
  kind_self (kind.Table' q shape row) = items_self row
  kind_self k = refl

  row_self : {n : _} (row : kind.Row_of-Expr n) → SameRow row row
  row_self kind.end_of-Expr = tt
  row_self (kind.more_of-Expr l k row) = (refl, kind_self k, row_self row)

  items_self : {n : _} (row : kind.Row_of-TableItem n) → SameItems row row
  items_self kind.end_of-TableItem = tt
  items_self (kind.more_of-TableItem i row) = (item_self i, items_self row)

  item_self : (i : TableItem) → SameItem i i
  item_self (item.Item' l k) = (refl, kind_self k)
  item_self (item.Pair' l k m j) = (refl, kind_self k, refl, kind_self j)

-- ---- rows of a tree as lists

row_zip : {n m : _} (r : kind.Row_of-Expr n) (t : kind.Row_of-Expr m) → SameRow r t → AllZip SameExpr (kind.items-the_row-Expr _ r) (kind.items-the_row-Expr _ t)
unfolding SameKind
row_zip kind.end_of-Expr kind.end_of-Expr h = tt
row_zip (kind.more_of-Expr l k r) (kind.more_of-Expr m j t) h = ((h.0, h.1), row_zip r t h.2)
row_zip kind.end_of-Expr (kind.more_of-Expr m j t) h = absurd h
row_zip (kind.more_of-Expr l k r) kind.end_of-Expr h = absurd h

items_zip : {n m : _} (r : kind.Row_of-TableItem n) (t : kind.Row_of-TableItem m) → SameItems r t → AllZip SameItem (kind.items-the_row-TableItem _ r) (kind.items-the_row-TableItem _ t)
unfolding SameKind
items_zip kind.end_of-TableItem kind.end_of-TableItem h = tt
items_zip (kind.more_of-TableItem i r) (kind.more_of-TableItem j t) h = (h.0, items_zip r t h.1)
items_zip kind.end_of-TableItem (kind.more_of-TableItem j t) h = absurd h
items_zip (kind.more_of-TableItem i r) kind.end_of-TableItem h = absurd h

block_zip : {n m : _} (r : stmt.Row_of-Stmt n) (t : stmt.Row_of-Stmt m) → SameBlock r t → AllZip SameStmt (stmt.items-the_row-Stmt _ r) (stmt.items-the_row-Stmt _ t)
unfolding SameStmtKind
block_zip stmt.end_of-Stmt stmt.end_of-Stmt h = tt
block_zip (stmt.more_of-Stmt l k r) (stmt.more_of-Stmt m j t) h = ((h.0, h.1), block_zip r t h.2)
block_zip stmt.end_of-Stmt (stmt.more_of-Stmt m j t) h = absurd h
block_zip (stmt.more_of-Stmt l k r) stmt.end_of-Stmt h = absurd h

arms_zip : {n m : _} (r : stmt.Row_of-Arm n) (t : stmt.Row_of-Arm m) → SameArms r t → AllZip SameArm (stmt.items-the_row-Arm _ r) (stmt.items-the_row-Arm _ t)
unfolding SameStmtKind
arms_zip stmt.end_of-Arm stmt.end_of-Arm h = tt
arms_zip (stmt.more_of-Arm a r) (stmt.more_of-Arm b t) h = (h.0, arms_zip r t h.1)
arms_zip stmt.end_of-Arm (stmt.more_of-Arm b t) h = absurd h
arms_zip (stmt.more_of-Arm a r) stmt.end_of-Arm h = absurd h

exprs_zip : (values others : Vec Expr Global) → SameRow (kind.TheBlock.hidden-the_row-Expr-0 values) (kind.TheBlock.hidden-the_row-Expr-0 others) → AllZip SameExpr values.items others.items
exprs_zip values others h =
    let u : kind.items-the_row-Expr _ (kind.TheBlock.hidden-the_row-Expr-0 values) ≡ values.items = search (rules, kind.the_lemmas) in
    let v : kind.items-the_row-Expr _ (kind.TheBlock.hidden-the_row-Expr-0 others) ≡ others.items = search (rules, kind.the_lemmas) in
    subst₂ (AllZip SameExpr) u v (row_zip _ _ h)

table_zip : (values others : Vec TableItem Global) → SameItems (kind.TheBlock.hidden-the_row-TableItem-1 values) (kind.TheBlock.hidden-the_row-TableItem-1 others) → AllZip SameItem values.items others.items
table_zip values others h =
    let u : kind.items-the_row-TableItem _ (kind.TheBlock.hidden-the_row-TableItem-1 values) ≡ values.items = search (rules, kind.the_lemmas) in
    let v : kind.items-the_row-TableItem _ (kind.TheBlock.hidden-the_row-TableItem-1 others) ≡ others.items = search (rules, kind.the_lemmas) in
    subst₂ (AllZip SameItem) u v (items_zip _ _ h)

stmts_zip : (values others : Vec Stmt Global) → SameBlock (stmt.TheBlock.hidden-the_row-Stmt-0 values) (stmt.TheBlock.hidden-the_row-Stmt-0 others) → AllZip SameStmt values.items others.items
stmts_zip values others h =
    let u : stmt.items-the_row-Stmt _ (stmt.TheBlock.hidden-the_row-Stmt-0 values) ≡ values.items = search (rules, stmt.the_lemmas) in
    let v : stmt.items-the_row-Stmt _ (stmt.TheBlock.hidden-the_row-Stmt-0 others) ≡ others.items = search (rules, stmt.the_lemmas) in
    subst₂ (AllZip SameStmt) u v (block_zip _ _ h)

if_zip : (values others : Vec Arm Global) → SameArms (stmt.TheBlock.hidden-the_row-Arm-1 values) (stmt.TheBlock.hidden-the_row-Arm-1 others) → AllZip SameArm values.items others.items
if_zip values others h =
    let u : stmt.items-the_row-Arm _ (stmt.TheBlock.hidden-the_row-Arm-1 values) ≡ values.items = search (rules, stmt.the_lemmas) in
    let v : stmt.items-the_row-Arm _ (stmt.TheBlock.hidden-the_row-Arm-1 others) ≡ others.items = search (rules, stmt.the_lemmas) in
    subst₂ (AllZip SameArm) u v (arms_zip _ _ h)

pub record SameOutArm (a b : Arm) : Type 0 where
  pub test : SameExpr (out-Arm a).test (out-Arm b).test
  pub body : AllZip SameStmt (out-Arm a).body.value.items (out-Arm b).body.value.items

rolled_arm : (a b : Arm) → SameArm (arm.roll-Arm (out-Arm a)) (arm.roll-Arm (out-Arm b)) → SameOutArm a b
unfolding arm.roll-Arm roll SameStmtKind
rolled_arm a b h = record { test = h.0; body = stmts_zip (out-Arm a).body.value (out-Arm b).body.value h.1 }

pub out_arm : (a b : Arm) → SameArm a b → SameOutArm a b
out_arm a b h =
    let u : a ≡ arm.roll-Arm (out-Arm a) = search (rules, arm.the_lemmas) in
    let v : b ≡ arm.roll-Arm (out-Arm b) = search (rules, arm.the_lemmas) in
    rolled_arm a b (subst₂ SameArm u v h)

-- ---- expressions

abbrev pub Out : Type 0
Out = ExprKind-F ExprKind TableItem Expr

abbrev pub Shared : Type 0
Shared = Rc Expr Global

abbrev pub SharedList : Type 0 → Type 0
SharedList X = Rc (Vec X Global) Global

pub data SameOut : Out → Out → Type 0 where
  index : {x y x' y' : Shared} → SameExpr x.value x'.value → SameExpr y.value y'.value → SameOut (e.Index x y) (e.Index x' y')
  call : {x x' : Shared} {values others : SharedList Expr} → SameExpr x.value x'.value → AllZip SameExpr values.value.items others.value.items → SameOut (e.Call x values) (e.Call x' others)
  method : {x x' : Shared} {name : List ℕ} {values others : SharedList Expr} → SameExpr x.value x'.value → AllZip SameExpr values.value.items others.value.items → SameOut (e.Method x name values) (e.Method x' name others)
  unary : {op : UnOp} {x x' : Shared} → SameExpr x.value x'.value → SameOut (e.Unary op x) (e.Unary op x')
  binary : {op : BinOp} {x y x' y' : Shared} → SameExpr x.value x'.value → SameExpr y.value y'.value → SameOut (e.Binary op x y) (e.Binary op x' y')
  both : {x y x' y' : Shared} → SameExpr x.value x'.value → SameExpr y.value y'.value → SameOut (e.And x y) (e.And x' y')
  either : {x y x' y' : Shared} → SameExpr x.value x'.value → SameExpr y.value y'.value → SameOut (e.Or x y) (e.Or x' y')
  paren : {x x' : Shared} → SameExpr x.value x'.value → SameOut (e.Paren x) (e.Paren x')
  table : {items others : SharedList TableItem} → AllZip SameItem items.value.items others.value.items → SameOut (e.Table items) (e.Table others)
  nil : SameOut e.Nil e.Nil
  yes : SameOut e.True e.True
  no : SameOut e.False e.False
  vararg : SameOut e.Vararg e.Vararg
  number : {n : ℤ} → SameOut (e.Number n) (e.Number n)
  text : {bytes : List ℕ} → SameOut (e.Text bytes) (e.Text bytes)
  function : {n : ℕ} → SameOut (e.Function n) (e.Function n)
  slot : {n : ℕ} → SameOut (e.Slot n) (e.Slot n)
  captured : {n : ℕ} → SameOut (e.Captured n) (e.Captured n)
  global : {name : List ℕ} → SameOut (e.Global name) (e.Global name)

exprs_self : (xs : List Expr) → AllZip SameExpr xs xs
exprs_self [] = tt
exprs_self (x ∷ xs) = ((refl, kind_self x.kind), exprs_self xs)

table_self : (xs : List TableItem) → AllZip SameItem xs xs
table_self [] = tt
table_self (x ∷ xs) = (item_self x, table_self xs)

out_self : (a : Out) → SameOut a a
out_self (e.Index x y) = index (refl, kind_self x.value.kind) (refl, kind_self y.value.kind)
out_self (e.Call x values) = call (refl, kind_self x.value.kind) (exprs_self values.value.items)
out_self (e.Method x name values) = method (refl, kind_self x.value.kind) (exprs_self values.value.items)
out_self (e.Unary op x) = unary (refl, kind_self x.value.kind)
out_self (e.Binary op x y) = binary (refl, kind_self x.value.kind) (refl, kind_self y.value.kind)
out_self (e.And x y) = both (refl, kind_self x.value.kind) (refl, kind_self y.value.kind)
out_self (e.Or x y) = either (refl, kind_self x.value.kind) (refl, kind_self y.value.kind)
out_self (e.Paren x) = paren (refl, kind_self x.value.kind)
out_self (e.Table items) = table (table_self items.value.items)
out_self e.Nil = nil
out_self e.True = yes
out_self e.False = no
out_self (e.Number n) = number
out_self (e.Text t) = text
out_self e.Vararg = vararg
out_self (e.Function n) = function
out_self (e.Slot n) = slot
out_self (e.Captured n) = captured
out_self (e.Global name) = global

equal_out : (a b : Out) → kind.roll-ExprKind a ≡ kind.roll-ExprKind b → SameOut a b
equal_out a b h =
    let u : out-ExprKind (kind.roll-ExprKind a) ≡ a = search (rules, kind.the_lemmas) in
    let v : out-ExprKind (kind.roll-ExprKind b) ≡ b = search (rules, kind.the_lemmas) in
    subst (SameOut a) (sym u ∙ ap out-ExprKind h ∙ v) (out_self a)

rolled : (a b : Out) → SameKind (kind.roll-ExprKind a) (kind.roll-ExprKind b) → SameOut a b
unfolding kind.roll-ExprKind roll SameKind
rolled (e.Index x y) (e.Index x' y') h = index (h.0, h.1) (h.2, h.3)
rolled (e.Call x values) (e.Call x' others) h = call (h.0, h.1) (exprs_zip values.value others.value h.2)
rolled (e.Method x name values) (e.Method x' name' others) h =
    subst (λ n. SameOut (e.Method x name values) (e.Method x' n others)) h.2 (method (h.0, h.1) (exprs_zip values.value others.value h.3))
rolled (e.Unary op x) (e.Unary op' x') h = subst (λ o. SameOut (e.Unary op x) (e.Unary o x')) h.0 (unary (h.1, h.2))
rolled (e.Binary op x y) (e.Binary op' x' y') h = subst (λ o. SameOut (e.Binary op x y) (e.Binary o x' y')) h.0 (binary (h.1, h.2) (h.3, h.4))
rolled (e.And x y) (e.And x' y') h = both (h.0, h.1) (h.2, h.3)
rolled (e.Or x y) (e.Or x' y') h = either (h.0, h.1) (h.2, h.3)
rolled (e.Paren x) (e.Paren x') h = paren (h.0, h.1)
rolled (e.Table items) (e.Table others) h = table (table_zip items.value others.value h)
rolled a b h = equal_out a b h

pub out_same : (k j : ExprKind) → SameKind k j → SameOut (out-ExprKind k) (out-ExprKind j)
out_same k j h =
    let u : k ≡ kind.roll-ExprKind (out-ExprKind k) = search (rules, kind.the_lemmas) in
    let v : j ≡ kind.roll-ExprKind (out-ExprKind j) = search (rules, kind.the_lemmas) in
    rolled (out-ExprKind k) (out-ExprKind j) (subst₂ SameKind u v h)

-- ---- statements

abbrev pub OutStmt : Type 0
OutStmt = StmtKind-F StmtKind Arm Stmt

pub data SameOutStmt : OutStmt → OutStmt → Type 0 where
  local : {slots slots' : SharedList ℕ} {values others : SharedList Expr} → slots.value.items ≡ slots'.value.items → AllZip SameExpr values.value.items others.value.items
      → SameOutStmt (s.Local slots values) (s.Local slots' others)
  local_function : {i n : ℕ} → SameOutStmt (s.LocalFunction i n) (s.LocalFunction i n)
  assign : {targets targets' values others : SharedList Expr} → AllZip SameExpr targets.value.items targets'.value.items → AllZip SameExpr values.value.items others.value.items
      → SameOutStmt (s.Assign targets values) (s.Assign targets' others)
  called_alone : {x y : Expr} → SameExpr x y → SameOutStmt (s.Call x) (s.Call y)
  do_block : {body other : SharedList Stmt} → AllZip SameStmt body.value.items other.value.items → SameOutStmt (s.Do body) (s.Do other)
  while_loop : {x y : Shared} {body other : SharedList Stmt} → SameExpr x.value y.value → AllZip SameStmt body.value.items other.value.items → SameOutStmt (s.While x body) (s.While y other)
  repeat_loop : {x y : Shared} {body other : SharedList Stmt} → AllZip SameStmt body.value.items other.value.items → SameExpr x.value y.value → SameOutStmt (s.Repeat body x) (s.Repeat other y)
  choice : {arms others : SharedList Arm} {body other : SharedList Stmt} → AllZip SameArm arms.value.items others.value.items → AllZip SameStmt body.value.items other.value.items
      → SameOutStmt (s.If arms body) (s.If others other)
  numeric : {i : ℕ} {x y x' y' : Shared} {z z' : Option Shared} {body other : SharedList Stmt} → SameExpr x.value x'.value → SameExpr y.value y'.value → SameStep z z'
      → AllZip SameStmt body.value.items other.value.items → SameOutStmt (s.NumericFor i x y z body) (s.NumericFor i x' y' z' other)
  generic : {slots slots' : SharedList ℕ} {values others : SharedList Expr} {body other : SharedList Stmt} → slots.value.items ≡ slots'.value.items
      → AllZip SameExpr values.value.items others.value.items → AllZip SameStmt body.value.items other.value.items
      → SameOutStmt (s.GenericFor slots values body) (s.GenericFor slots' others other)
  returned_values : {values others : SharedList Expr} → AllZip SameExpr values.value.items others.value.items → SameOutStmt (s.Return values) (s.Return others)
  broken : SameOutStmt s.Break s.Break

rolled_stmt : (a b : OutStmt) → SameStmtKind (stmt.roll-StmtKind a) (stmt.roll-StmtKind b) → SameOutStmt a b
unfolding stmt.roll-StmtKind roll SameStmtKind
rolled_stmt (s.Local slots values) (s.Local slots' values') h = local h.0 h.1
rolled_stmt (s.LocalFunction i n) (s.LocalFunction i' n') h =
    subst (λ z. SameOutStmt (s.LocalFunction i n) (s.LocalFunction i' z)) h.1 (subst (λ z. SameOutStmt (s.LocalFunction i n) (s.LocalFunction z n)) h.0 local_function)
rolled_stmt (s.Assign targets values) (s.Assign targets' values') h = assign h.0 h.1
rolled_stmt (s.Call x) (s.Call y) h = called_alone h
rolled_stmt (s.Do body) (s.Do other) h = do_block (stmts_zip body.value other.value h)
rolled_stmt (s.While x body) (s.While y other) h = while_loop h.0 (stmts_zip body.value other.value h.1)
rolled_stmt (s.Repeat body x) (s.Repeat other y) h = repeat_loop (stmts_zip body.value other.value h.0) h.1
rolled_stmt (s.If arms body) (s.If others other) h = choice (if_zip arms.value others.value h.0) (stmts_zip body.value other.value h.1)
rolled_stmt (s.NumericFor i x y z body) (s.NumericFor i' x' y' z' other) h =
    subst (λ k. SameOutStmt (s.NumericFor i x y z body) (s.NumericFor k x' y' z' other)) h.0 (numeric h.1 h.2 h.3 (stmts_zip body.value other.value h.4))
rolled_stmt (s.GenericFor slots values body) (s.GenericFor slots' values' other) h = generic h.0 h.1 (stmts_zip body.value other.value h.2)
rolled_stmt (s.Return values) (s.Return values') h = returned_values h
rolled_stmt s.Break s.Break h = broken
rolled_stmt a b h = absurd h

pub out_stmt : (k j : StmtKind) → SameStmtKind k j → SameOutStmt (out-StmtKind k) (out-StmtKind j)
out_stmt k j h =
    let u : k ≡ stmt.roll-StmtKind (out-StmtKind k) = search (rules, stmt.the_lemmas) in
    let v : j ≡ stmt.roll-StmtKind (out-StmtKind j) = search (rules, stmt.the_lemmas) in
    rolled_stmt (out-StmtKind k) (out-StmtKind j) (subst₂ SameStmtKind u v h)
