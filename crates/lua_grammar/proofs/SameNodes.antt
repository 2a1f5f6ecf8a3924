-- Nodes whose parts are the same are the same.
use Rattle.std.proofs.Common.{◌≡◌, ℕ, ℤ, List, [], ◌∷◌, ◌++◌, Vec, Global, Option, Some, None, refl, ap, subst₂, rules}
use Rattle.std.specs.List.{AllZip}
use denote.Hole.Carrier.{roll}
use Rattle.lua_ast.specs.declared.expressions.Expr.{Expr}
use Rattle.lua_ast.specs.declared.expressions.ExprKind.{ExprKind}
use Rattle.lua_ast.specs.declared.expressions.ExprKind as kind
use Rattle.lua_ast.specs.declared.expressions.TableItem.{TableItem}
use Rattle.lua_ast.specs.declared.expressions.TableItem as tableitem
use Rattle.lua_ast.specs.declared.statements.Stmt.{Stmt}
use Rattle.lua_ast.specs.declared.statements.StmtKind as stmt
use Rattle.lua_ast.specs.declared.statements.Arm.{Arm, out-Arm}
use Rattle.lua_ast.specs.declared.statements.Arm as arm
use Rattle.lua_ast.specs.declared.programs.Capture.{Capture}
use Rattle.lua_ast.specs.declared.programs.Capture.TheVariants.{Slot, Outer}
use Rattle.lua_ast.specs.SameProgram.{SameKind, SameRow, SameItems, SameItem, SameExpr, SameStep, SameStmtKind, SameBlock, SameArms, SameArm, SameStmt}
use Rattle.lua_grammar.specs.declared.operators.Operator.{Operator}
use Rattle.lua_grammar.specs.declared.operators.Operator.TheVariants.{Or, And, Plain}
use Rattle.lua_grammar.specs.Resolution.{Shared, SharedList, node, statement, binary_kind, variable_kind}

-- ---- lists

pub zip_append : {X : Type 0} (R : X → X → Type 0) (xs ys us vs : List X) → AllZip R xs ys → AllZip R us vs → AllZip R (xs ++ us) (ys ++ vs)
zip_append R [] [] us vs p q = q
zip_append R (x ∷ xs) (y ∷ ys) us vs p q = (p.0, zip_append R xs ys us vs p.1 q)
zip_append R [] (y ∷ ys) us vs p q = absurd p
zip_append R (x ∷ xs) [] us vs p q = absurd p

pub zip_one : {X : Type 0} (R : X → X → Type 0) (x y : X) → R x y → AllZip R (x ∷ []) (y ∷ [])
zip_one R x y p = (p, tt)

pub zip_none : {X : Type 0} (R : X → X → Type 0) → AllZip R [] []
zip_none R = tt

-- ---- rows of a tree as lists

row_same : {n m : _} (r : kind.Row_of-Expr n) (s : kind.Row_of-Expr m) → AllZip SameExpr (kind.items-the_row-Expr _ r) (kind.items-the_row-Expr _ s) → SameRow r s
unfolding SameKind
row_same kind.end_of-Expr kind.end_of-Expr h = tt
row_same (kind.more_of-Expr l k r) (kind.more_of-Expr m j s) h = (h.0.0, h.0.1, row_same r s h.1)
row_same kind.end_of-Expr (kind.more_of-Expr m j s) h = absurd h
row_same (kind.more_of-Expr l k r) kind.end_of-Expr h = absurd h

items_same : {n m : _} (r : kind.Row_of-TableItem n) (s : kind.Row_of-TableItem m) → AllZip SameItem (kind.items-the_row-TableItem _ r) (kind.items-the_row-TableItem _ s) → SameItems r s
unfolding SameKind
items_same kind.end_of-TableItem kind.end_of-TableItem h = tt
items_same (kind.more_of-TableItem i r) (kind.more_of-TableItem j s) h = (h.0, items_same r s h.1)
items_same kind.end_of-TableItem (kind.more_of-TableItem j s) h = absurd h
items_same (kind.more_of-TableItem i r) kind.end_of-TableItem h = absurd h

block_same : {n m : _} (r : stmt.Row_of-Stmt n) (s : stmt.Row_of-Stmt m) → AllZip SameStmt (stmt.items-the_row-Stmt _ r) (stmt.items-the_row-Stmt _ s) → SameBlock r s
unfolding SameStmtKind
block_same stmt.end_of-Stmt stmt.end_of-Stmt h = tt
block_same (stmt.more_of-Stmt l k r) (stmt.more_of-Stmt m j s) h = (h.0.0, h.0.1, block_same r s h.1)
block_same stmt.end_of-Stmt (stmt.more_of-Stmt m j s) h = absurd h
block_same (stmt.more_of-Stmt l k r) stmt.end_of-Stmt h = absurd h

arms_same : {n m : _} (r : stmt.Row_of-Arm n) (s : stmt.Row_of-Arm m) → AllZip SameArm (stmt.items-the_row-Arm _ r) (stmt.items-the_row-Arm _ s) → SameArms r s
unfolding SameStmtKind
arms_same stmt.end_of-Arm stmt.end_of-Arm h = tt
arms_same (stmt.more_of-Arm a r) (stmt.more_of-Arm b s) h = (h.0, arms_same r s h.1)
arms_same stmt.end_of-Arm (stmt.more_of-Arm b s) h = absurd h
arms_same (stmt.more_of-Arm a r) stmt.end_of-Arm h = absurd h

exprs : (values others : Vec Expr Global) → AllZip SameExpr values.items others.items → SameRow (kind.TheBlock.hidden-the_row-Expr-0 values) (kind.TheBlock.hidden-the_row-Expr-0 others)
exprs values others h =
    let e : kind.items-the_row-Expr _ (kind.TheBlock.hidden-the_row-Expr-0 values) ≡ values.items = search (rules, kind.the_lemmas) in
    let d : kind.items-the_row-Expr _ (kind.TheBlock.hidden-the_row-Expr-0 others) ≡ others.items = search (rules, kind.the_lemmas) in
    row_same _ _ (rw (e, d) h)

items : (values others : Vec TableItem Global) → AllZip SameItem values.items others.items → SameItems (kind.TheBlock.hidden-the_row-TableItem-1 values) (kind.TheBlock.hidden-the_row-TableItem-1 others)
items values others h =
    let e : kind.items-the_row-TableItem _ (kind.TheBlock.hidden-the_row-TableItem-1 values) ≡ values.items = search (rules, kind.the_lemmas) in
    let d : kind.items-the_row-TableItem _ (kind.TheBlock.hidden-the_row-TableItem-1 others) ≡ others.items = search (rules, kind.the_lemmas) in
    items_same _ _ (rw (e, d) h)

block : (values others : Vec Stmt Global) → AllZip SameStmt values.items others.items → SameBlock (stmt.TheBlock.hidden-the_row-Stmt-0 values) (stmt.TheBlock.hidden-the_row-Stmt-0 others)
block values others h =
    let e : stmt.items-the_row-Stmt _ (stmt.TheBlock.hidden-the_row-Stmt-0 values) ≡ values.items = search (rules, stmt.the_lemmas) in
    let d : stmt.items-the_row-Stmt _ (stmt.TheBlock.hidden-the_row-Stmt-0 others) ≡ others.items = search (rules, stmt.the_lemmas) in
    block_same _ _ (rw (e, d) h)

arms : (values others : Vec Arm Global) → AllZip SameArm values.items others.items → SameArms (stmt.TheBlock.hidden-the_row-Arm-1 values) (stmt.TheBlock.hidden-the_row-Arm-1 others)
arms values others h =
    let e : stmt.items-the_row-Arm _ (stmt.TheBlock.hidden-the_row-Arm-1 values) ≡ values.items = search (rules, stmt.the_lemmas) in
    let d : stmt.items-the_row-Arm _ (stmt.TheBlock.hidden-the_row-Arm-1 others) ≡ others.items = search (rules, stmt.the_lemmas) in
    arms_same _ _ (rw (e, d) h)

-- ---- expressions

pub nil_same : (l : ℕ) → SameExpr (node l kind.Nil) (node l kind.Nil)
unfolding SameKind
nil_same l = (refl, refl)

pub false_same : (l : ℕ) → SameExpr (node l kind.False) (node l kind.False)
unfolding SameKind
false_same l = (refl, refl)

pub true_same : (l : ℕ) → SameExpr (node l kind.True) (node l kind.True)
unfolding SameKind
true_same l = (refl, refl)

pub number_same : (l : ℕ) (n : ℤ) → SameExpr (node l (kind.Number n)) (node l (kind.Number n))
unfolding SameKind
number_same l n = (refl, refl)

pub text_same : (l : ℕ) (bytes : List ℕ) → SameExpr (node l (kind.Text bytes)) (node l (kind.Text bytes))
unfolding SameKind
text_same l bytes = (refl, refl)

pub vararg_same : (l : ℕ) → SameExpr (node l kind.Vararg) (node l kind.Vararg)
unfolding SameKind
vararg_same l = (refl, refl)

pub function_same : (l n m : ℕ) → n ≡ m → SameExpr (node l (kind.Function n)) (node l (kind.Function m))
unfolding SameKind
function_same l n m e = (refl, ap kind.Function e)

pub variable_same : (l : ℕ) (name : List ℕ) (variable : Option Capture) → SameExpr (node l (variable_kind name variable)) (node l (variable_kind name variable))
unfolding SameKind
variable_same l name None = (refl, refl)
variable_same l name (Some (Slot n)) = (refl, refl)
variable_same l name (Some (Outer n)) = (refl, refl)

module _ (l : ℕ) (x x' : Shared) (p : SameExpr x.value x'.value) where
  pub unary_same : (op : _) → SameExpr (node l (kind.Unary op x)) (node l (kind.Unary op x'))
  unfolding SameKind
  unary_same op = (refl, (refl, p.0, p.1))

  pub paren_same : SameExpr (node l (kind.Paren x)) (node l (kind.Paren x'))
  unfolding SameKind
  paren_same = (refl, (p.0, p.1))

  pub binary_same : (y y' : Shared) (op : Operator) → SameExpr y.value y'.value → SameExpr (node l (binary_kind op x y)) (node l (binary_kind op x' y'))
  unfolding SameKind
  binary_same y y' Or q = (refl, (p.0, p.1, q.0, q.1))
  binary_same y y' And q = (refl, (p.0, p.1, q.0, q.1))
  binary_same y y' (Plain op) q = (refl, (refl, p.0, p.1, q.0, q.1))

  pub index_same : (y y' : Shared) → SameExpr y.value y'.value → SameExpr (node l (kind.Index x y)) (node l (kind.Index x' y'))
  unfolding SameKind
  index_same y y' q = (refl, (p.0, p.1, q.0, q.1))

  pub call_same : (values others : SharedList Expr) → AllZip SameExpr values.value.items others.value.items → SameExpr (node l (kind.Call x values)) (node l (kind.Call x' others))
  unfolding SameKind
  call_same values others q = (refl, (p.0, p.1, exprs values.value others.value q))

  pub method_same : (n : List ℕ) (values others : SharedList Expr) → AllZip SameExpr values.value.items others.value.items →
      SameExpr (node l (kind.Method x n values)) (node l (kind.Method x' n others))
  unfolding SameKind
  method_same n values others q = (refl, (p.0, p.1, refl, exprs values.value others.value q))

pub table_same : (l : ℕ) (values others : SharedList TableItem) → AllZip SameItem values.value.items others.value.items →
    SameExpr (node l (kind.Table values)) (node l (kind.Table others))
unfolding SameKind
table_same l values others q = (refl, items values.value others.value q)

pub pair_same : (a b c d : Expr) → SameExpr a b → SameExpr c d → SameItem (tableitem.Pair a c) (tableitem.Pair b d)
unfolding SameKind
pair_same a b c d p q = (p.0, p.1, q.0, q.1)

pub item_same : (a b : Expr) → SameExpr a b → SameItem (tableitem.Item a) (tableitem.Item b)
unfolding SameKind
item_same a b p = (p.0, p.1)

-- ---- statements

pub local_same : (l : ℕ) (slots slots' : SharedList ℕ) (values values' : SharedList Expr) → slots.value.items ≡ slots'.value.items →
    AllZip SameExpr values.value.items values'.value.items → SameStmt (statement l (stmt.Local slots values)) (statement l (stmt.Local slots' values'))
unfolding SameStmtKind
local_same l slots slots' values values' p q = (refl, (p, q))

pub local_function_same : (l i j n m : ℕ) → i ≡ j → n ≡ m → SameStmt (statement l (stmt.LocalFunction i n)) (statement l (stmt.LocalFunction j m))
unfolding SameStmtKind
local_function_same l i j n m p q = (refl, (p, q))

pub assign_same : (l : ℕ) (targets targets' values values' : SharedList Expr) → AllZip SameExpr targets.value.items targets'.value.items →
    AllZip SameExpr values.value.items values'.value.items → SameStmt (statement l (stmt.Assign targets values)) (statement l (stmt.Assign targets' values'))
unfolding SameStmtKind
assign_same l targets targets' values values' p q = (refl, (p, q))

pub call_statement_same : (l : ℕ) (e d : Expr) → SameExpr e d → SameStmt (statement l (stmt.Call e)) (statement l (stmt.Call d))
unfolding SameStmtKind
call_statement_same l e d p = (refl, p)

pub return_same : (l : ℕ) (values values' : SharedList Expr) → AllZip SameExpr values.value.items values'.value.items →
    SameStmt (statement l (stmt.Return values)) (statement l (stmt.Return values'))
unfolding SameStmtKind
return_same l values values' p = (refl, p)

pub break_same : (l : ℕ) → SameStmt (statement l stmt.Break) (statement l stmt.Break)
unfolding SameStmtKind
break_same l = (refl, tt)

module _ (l : ℕ) (run other : SharedList Stmt) (same : AllZip SameStmt run.value.items other.value.items) where
  pub do_same : SameStmt (statement l (stmt.Do run)) (statement l (stmt.Do other))
  unfolding SameStmtKind
  do_same = (refl, block run.value other.value same)

  pub while_same : (x y : Shared) → SameExpr x.value y.value → SameStmt (statement l (stmt.While x run)) (statement l (stmt.While y other))
  unfolding SameStmtKind
  while_same x y p = (refl, (p, block run.value other.value same))

  pub repeat_same : (x y : Shared) → SameExpr x.value y.value → SameStmt (statement l (stmt.Repeat run x)) (statement l (stmt.Repeat other y))
  unfolding SameStmtKind
  repeat_same x y p = (refl, (block run.value other.value same, p))

  pub if_same : (list others : SharedList Arm) → AllZip SameArm list.value.items others.value.items → SameStmt (statement l (stmt.If list run)) (statement l (stmt.If others other))
  unfolding SameStmtKind
  if_same list others p = (refl, (arms list.value others.value p, block run.value other.value same))

  pub numeric_same : (slot slot' : ℕ) (from to from' to' : Shared) (step step' : Option Shared) → slot ≡ slot' → SameExpr from.value from'.value → SameExpr to.value to'.value →
      SameStep step step' → SameStmt (statement l (stmt.NumericFor slot from to step run)) (statement l (stmt.NumericFor slot' from' to' step' other))
  unfolding SameStmtKind
  numeric_same slot slot' from to from' to' step step' o p q r = (refl, (o, p, q, r, block run.value other.value same))

  pub generic_same : (slots slots' : SharedList ℕ) (values values' : SharedList Expr) → slots.value.items ≡ slots'.value.items →
      AllZip SameExpr values.value.items values'.value.items → SameStmt (statement l (stmt.GenericFor slots values run)) (statement l (stmt.GenericFor slots' values' other))
  unfolding SameStmtKind
  generic_same slots slots' values values' p q = (refl, (p, q, block run.value other.value same))

arm_rolled : (a b : Arm) → SameExpr (out-Arm a).test (out-Arm b).test → AllZip SameStmt (out-Arm a).body.value.items (out-Arm b).body.value.items →
    SameArm (arm.roll-Arm (out-Arm a)) (arm.roll-Arm (out-Arm b))
unfolding arm.roll-Arm roll SameStmtKind
arm_rolled a b p q = (p, block (out-Arm a).body.value (out-Arm b).body.value q)

pub arm_same : (a b : Arm) → SameExpr (out-Arm a).test (out-Arm b).test → AllZip SameStmt (out-Arm a).body.value.items (out-Arm b).body.value.items → SameArm a b
arm_same a b p q =
    let e : arm.roll-Arm (out-Arm a) ≡ a = search (rules, arm.the_lemmas) in
    let d : arm.roll-Arm (out-Arm b) ≡ b = search (rules, arm.the_lemmas) in
    subst₂ SameArm e d (arm_rolled a b p q)
