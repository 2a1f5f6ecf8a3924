-- What the rows of a tree mention, as lists.
use Rattle.std.proofs.Common.{◌≡◌, ◌⊎◌, inl, inr, ℕ, List, [], ◌++◌, Vec, Global, rules, refl, ap, ◌∙◌, subst}
use denote.Hole.Carrier.{roll}
use Rattle.std.specs.Prelude.{flat_map, Option}
use Rattle.std.specs.declared.rc.Rc.{Rc}
use Rattle.lua_ast.specs.declared.expressions.Expr.{Expr}
use Rattle.lua_ast.specs.declared.expressions.ExprKind.{ExprKind}
use Rattle.lua_ast.specs.declared.expressions.ExprKind as kind
use Rattle.lua_ast.specs.declared.expressions.BinOp.{BinOp}
use Rattle.lua_ast.specs.declared.expressions.UnOp.{UnOp}
use Rattle.lua_ast.specs.declared.expressions.TableItem.{TableItem}
use Rattle.lua_ast.specs.declared.statements.Stmt.{Stmt}
use Rattle.lua_ast.specs.declared.statements.StmtKind.{StmtKind}
use Rattle.lua_ast.specs.declared.statements.StmtKind as stmt
use Rattle.lua_ast.specs.declared.statements.Arm.{Arm, out-Arm}
use Rattle.lua_ast.specs.declared.statements.Arm as arm
use Rattle.lua_linking.specs.Mentions.{kind_mentions, row_mentions, items_mentions, mentions_in, mentions_in_item, module_in, first_kind, row_head}
use Rattle.lua_linking.specs.Mentions.{stmt_mentions, block_mentions, arms_mentions, mentions_in_arm, mentions_in_stmt, head_mentions}

pub row_is : {m : _} (r : kind.Row_of-Expr m) → row_mentions r ≡ flat_map mentions_in (kind.items-the_row-Expr _ r)
row_is kind.end_of-Expr = refl
row_is (kind.more_of-Expr l k row) = ap (λ xs. kind_mentions k ++ xs) (row_is row)

head_is : {m : _} (r : kind.Row_of-Expr m) → row_head r ≡ first_kind (kind.items-the_row-Expr _ r)
head_is kind.end_of-Expr = refl
head_is (kind.more_of-Expr l k row) = refl

pub items_is : {m : _} (r : kind.Row_of-TableItem m) → items_mentions r ≡ flat_map mentions_in_item (kind.items-the_row-TableItem _ r)
items_is kind.end_of-TableItem = refl
items_is (kind.more_of-TableItem i row) = ap (λ xs. mentions_in_item i ++ xs) (items_is row)

pub block_is : {m : _} (r : stmt.Row_of-Stmt m) → block_mentions r ≡ flat_map mentions_in_stmt (stmt.items-the_row-Stmt _ r)
block_is stmt.end_of-Stmt = refl
block_is (stmt.more_of-Stmt l k row) = ap (λ xs. stmt_mentions k ++ xs) (block_is row)

pub arms_is : {m : _} (r : stmt.Row_of-Arm m) → arms_mentions r ≡ flat_map mentions_in_arm (stmt.items-the_row-Arm _ r)
arms_is stmt.end_of-Arm = refl
arms_is (stmt.more_of-Arm a row) = ap (λ xs. mentions_in_arm a ++ xs) (arms_is row)

-- the same of the lists that rows are made from
pub exprs : (values : Vec Expr Global) → row_mentions (kind.TheBlock.hidden-the_row-Expr-0 values) ≡ flat_map mentions_in values.items
exprs values =
    let e : kind.items-the_row-Expr _ (kind.TheBlock.hidden-the_row-Expr-0 values) ≡ values.items = search (rules, kind.the_lemmas) in
    row_is (kind.TheBlock.hidden-the_row-Expr-0 values) ∙ ap (flat_map mentions_in) e

head : (values : Vec Expr Global) → row_head (kind.TheBlock.hidden-the_row-Expr-0 values) ≡ first_kind values.items
head values =
    let e : kind.items-the_row-Expr _ (kind.TheBlock.hidden-the_row-Expr-0 values) ≡ values.items = search (rules, kind.the_lemmas) in
    head_is (kind.TheBlock.hidden-the_row-Expr-0 values) ∙ ap first_kind e

pub items : (values : Vec TableItem Global) → items_mentions (kind.TheBlock.hidden-the_row-TableItem-1 values) ≡ flat_map mentions_in_item values.items
items values =
    let e : kind.items-the_row-TableItem _ (kind.TheBlock.hidden-the_row-TableItem-1 values) ≡ values.items = search (rules, kind.the_lemmas) in
    items_is (kind.TheBlock.hidden-the_row-TableItem-1 values) ∙ ap (flat_map mentions_in_item) e

pub block : (values : Vec Stmt Global) → block_mentions (stmt.TheBlock.hidden-the_row-Stmt-0 values) ≡ flat_map mentions_in_stmt values.items
block values =
    let e : stmt.items-the_row-Stmt _ (stmt.TheBlock.hidden-the_row-Stmt-0 values) ≡ values.items = search (rules, stmt.the_lemmas) in
    block_is (stmt.TheBlock.hidden-the_row-Stmt-0 values) ∙ ap (flat_map mentions_in_stmt) e

pub arms : (values : Vec Arm Global) → arms_mentions (stmt.TheBlock.hidden-the_row-Arm-1 values) ≡ flat_map mentions_in_arm values.items
arms values =
    let e : stmt.items-the_row-Arm _ (stmt.TheBlock.hidden-the_row-Arm-1 values) ≡ values.items = search (rules, stmt.the_lemmas) in
    arms_is (stmt.TheBlock.hidden-the_row-Arm-1 values) ∙ ap (flat_map mentions_in_arm) e

-- what a node with two operands, or with one, mentions
pub pair_is : (k : ExprKind) (v w : Rc Expr Global)
    → (k ≡ kind.Index v w) ⊎ (((op : BinOp) × (k ≡ kind.Binary op v w)) ⊎ ((k ≡ kind.And v w) ⊎ (k ≡ kind.Or v w)))
    → kind_mentions k ≡ mentions_in v.value ++ mentions_in w.value
pair_is k v w (inl e) = rw e refl
pair_is k v w (inr (inl (op, e))) = rw e refl
pair_is k v w (inr (inr (inl e))) = rw e refl
pair_is k v w (inr (inr (inr e))) = rw e refl

pub operand_is : (k : ExprKind) (v : Rc Expr Global) → ((op : UnOp) × (k ≡ kind.Unary op v)) ⊎ (k ≡ kind.Paren v) → kind_mentions k ≡ mentions_in v.value
operand_is k v (inl (op, e)) = rw e refl
operand_is k v (inr e) = rw e refl

-- what the head of a statement mentions
pub list_is : (k : StmtKind) (values : Rc (Vec Expr Global) Global)
    → ((slots : Rc (Vec ℕ Global) Global) × (k ≡ stmt.Local slots values))
    ⊎ ((k ≡ stmt.Return values) ⊎ ((slots : Rc (Vec ℕ Global) Global) × (body : Rc (Vec Stmt Global) Global) × (k ≡ stmt.GenericFor slots values body)))
    → head_mentions k ≡ flat_map mentions_in values.value.items
list_is k values (inl (slots, e)) = rw e refl
list_is k values (inr (inl e)) = rw e refl
list_is k values (inr (inr (slots, body, e))) = rw e refl

pub if_is : (list : Rc (Vec Arm Global) Global) (body : Rc (Vec Stmt Global) Global)
    → head_mentions (stmt.If list body) ≡ flat_map mentions_in_arm list.value.items
if_is list body = arms list.value

pub blank_is : (k : StmtKind)
    → ((body : Rc (Vec Stmt Global) Global) × (k ≡ stmt.Do body))
    ⊎ (((body : Rc (Vec Stmt Global) Global) × (test : Rc Expr Global) × (k ≡ stmt.Repeat body test)) ⊎ (k ≡ stmt.Break))
    → head_mentions k ≡ []
blank_is k (inl (body, e)) = rw e refl
blank_is k (inr (inl (body, test, e))) = rw e refl
blank_is k (inr (inr e)) = rw e refl

-- what a statement with one block after its head mentions, or with none
pub headed_is : (k : StmtKind) (body : Rc (Vec Stmt Global) Global)
    → (k ≡ stmt.Do body)
    ⊎ (((test : Rc Expr Global) × (k ≡ stmt.While test body))
    ⊎ (((list : Rc (Vec Arm Global) Global) × (k ≡ stmt.If list body))
    ⊎ (((slot : ℕ) × (from : Rc Expr Global) × (to : Rc Expr Global) × (step : Option (Rc Expr Global)) × (k ≡ stmt.NumericFor slot from to step body))
    ⊎ ((slots : Rc (Vec ℕ Global) Global) × (values : Rc (Vec Expr Global) Global) × (k ≡ stmt.GenericFor slots values body)))))
    → stmt_mentions k ≡ head_mentions k ++ flat_map mentions_in_stmt body.value.items
headed_is k body (inl e) = rw (e, block body.value) refl
headed_is k body (inr (inl (test, e))) = rw (e, block body.value) refl
headed_is k body (inr (inr (inl (list, e)))) = rw (e, block body.value) refl
headed_is k body (inr (inr (inr (inl (slot, from, to, step, e))))) = rw (e, block body.value) refl
headed_is k body (inr (inr (inr (inr (slots, values, e))))) = rw (e, block body.value) refl

pub plain_is : (k : StmtKind)
    → ((slots : Rc (Vec ℕ Global) Global) × (values : Rc (Vec Expr Global) Global) × (k ≡ stmt.Local slots values))
    ⊎ (((slot : ℕ) × (n : ℕ) × (k ≡ stmt.LocalFunction slot n))
    ⊎ (((targets : Rc (Vec Expr Global) Global) × (values : Rc (Vec Expr Global) Global) × (k ≡ stmt.Assign targets values))
    ⊎ (((call : Expr) × (k ≡ stmt.Call call))
    ⊎ (((values : Rc (Vec Expr Global) Global) × (k ≡ stmt.Return values)) ⊎ (k ≡ stmt.Break)))))
    → stmt_mentions k ≡ head_mentions k
plain_is k (inl (slots, values, e)) = rw e refl
plain_is k (inr (inl (slot, n, e))) = rw e refl
plain_is k (inr (inr (inl (targets, values, e)))) = rw e refl
plain_is k (inr (inr (inr (inl (call, e))))) = rw e refl
plain_is k (inr (inr (inr (inr (inl (values, e)))))) = rw e refl
plain_is k (inr (inr (inr (inr (inr e))))) = rw e refl

-- what a node with lists mentions
pub call_is : (callee : Rc Expr Global) (values : Rc (Vec Expr Global) Global) →
    kind_mentions (kind.Call callee values) ≡ module_in callee.value values.value.items ++ (mentions_in callee.value ++ flat_map mentions_in values.value.items)
call_is callee values = rw (head values.value, exprs values.value) refl

pub method_is : (object : Rc Expr Global) (name : List ℕ) (values : Rc (Vec Expr Global) Global) →
    kind_mentions (kind.Method object name values) ≡ mentions_in object.value ++ flat_map mentions_in values.value.items
method_is object name values = rw (exprs values.value) refl

pub table_is : (values : Rc (Vec TableItem Global) Global) → kind_mentions (kind.Table values) ≡ flat_map mentions_in_item values.value.items
table_is values = items values.value

pub repeat_is : (body : Rc (Vec Stmt Global) Global) (test : Rc Expr Global) →
    stmt_mentions (stmt.Repeat body test) ≡ flat_map mentions_in_stmt body.value.items ++ mentions_in test.value
repeat_is body test = rw (block body.value) refl

arm_rolled : (a : _) → mentions_in_arm (arm.roll-Arm a) ≡ mentions_in a.test ++ flat_map mentions_in_stmt a.body.value.items
unfolding arm.roll-Arm roll
arm_rolled a = rw (block a.body.value) refl

pub arm_is : (a : Arm) → mentions_in_arm a ≡ mentions_in (out-Arm a).test ++ flat_map mentions_in_stmt (out-Arm a).body.value.items
arm_is a =
    let e : arm.roll-Arm (out-Arm a) ≡ a = search (rules, arm.the_lemmas) in
    subst (λ b. mentions_in_arm b ≡ mentions_in (out-Arm a).test ++ flat_map mentions_in_stmt (out-Arm a).body.value.items) e (arm_rolled (out-Arm a))
