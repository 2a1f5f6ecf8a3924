-- What is noted of a node in steps, part by part.
use Rattle.std.proofs.Common.{◌≡◌, ◌⊎◌, ℕ, List, [], ◌++◌, Result, IsOk, OnOk, Vec, Global, ap, refl, sym, ◌∙◌, append_assoc}
use Rattle.std.specs.Prelude.{flat_map}
use Rattle.std.specs.declared.rc.Rc.{Rc}
use Rattle.std.proofs.lemmas.Result.{on_ok_weaker}
use Rattle.lua_ast.specs.declared.expressions.Expr.{Expr}
use Rattle.lua_ast.specs.declared.expressions.ExprKind.{ExprKind}
use Rattle.lua_ast.specs.declared.expressions.ExprKind as kind
use Rattle.lua_ast.specs.declared.expressions.BinOp.{BinOp}
use Rattle.lua_ast.specs.declared.expressions.UnOp.{UnOp}
use Rattle.lua_ast.specs.declared.expressions.TableItem.{TableItem}
use Rattle.lua_ast.specs.declared.statements.Stmt.{Stmt}
use Rattle.lua_ast.specs.declared.statements.StmtKind.{StmtKind}
use Rattle.lua_ast.specs.declared.statements.StmtKind as stmt
use Rattle.lua_ast.specs.declared.statements.Arm.{Arm, out-Arm}
use Rattle.lua_linking.specs.declared.mentions.Mention.{Mention}
use Rattle.lua_linking.specs.Mentions.{head_mentions, kind_mentions, mentions_in, mentions_in_item, module_in, stmt_mentions, mentions_in_arm, mentions_in_stmt}
use Rattle.lua_linking.proofs.After.{both}
use Rattle.lua_linking.proofs.Rows.{pair_is, operand_is, call_is, method_is, table_is, repeat_is, arm_is}

-- the mentions that were there, and those after each part; the second part is noted only where the first is
module _ {E : Type 0} (q r : Result (Unit {0}) E) (a b c : List Mention) (done : OnOk r (IsOk q)) where
  -- two parts
  pub two : (xs ys all : List Mention) → all ≡ xs ++ ys → OnOk q (b ≡ a ++ xs) → OnOk r (c ≡ b ++ ys) → OnOk r (c ≡ a ++ all)
  two xs ys all e p s =
      on_ok_weaker r (λ h. h.1 ∙ (ap (λ l. l ++ ys) h.0 ∙ (append_assoc a xs ys ∙ ap (λ l. a ++ l) (sym e)))) (both _ _ q r done p s)

  pub pair_noted : (k : ExprKind) (v w : Rc Expr Global)
      → (k ≡ kind.Index v w) ⊎ (((op : BinOp) × (k ≡ kind.Binary op v w)) ⊎ ((k ≡ kind.And v w) ⊎ (k ≡ kind.Or v w)))
      → OnOk q (b ≡ a ++ mentions_in v.value) → OnOk r (c ≡ b ++ mentions_in w.value) → OnOk r (c ≡ a ++ kind_mentions k)
  pair_noted k v w is p s = two (mentions_in v.value) (mentions_in w.value) (kind_mentions k) (pair_is k v w is) p s

  pub method_noted : (k : ExprKind) (object : Rc Expr Global) (name : List ℕ) (values : Rc (Vec Expr Global) Global)
      → k ≡ kind.Method object name values → OnOk q (b ≡ a ++ mentions_in object.value) → OnOk r (c ≡ b ++ flat_map mentions_in values.value.items)
      → OnOk r (c ≡ a ++ kind_mentions k)
  method_noted k object name values is p s =
      two (mentions_in object.value) (flat_map mentions_in values.value.items) (kind_mentions k) (rw is (method_is object name values)) p s

  pub arm_noted : (arm : Arm) → OnOk q (b ≡ a ++ mentions_in (out-Arm arm).test) → OnOk r (c ≡ b ++ flat_map mentions_in_stmt (out-Arm arm).body.value.items)
      → OnOk r (c ≡ a ++ mentions_in_arm arm)
  arm_noted arm p s = two (mentions_in (out-Arm arm).test) (flat_map mentions_in_stmt (out-Arm arm).body.value.items) (mentions_in_arm arm) (arm_is arm) p s

-- one part
pub one : {E : Type 0} (r : Result (Unit {0}) E) (a b xs all : List Mention) → all ≡ xs → OnOk r (b ≡ a ++ xs) → OnOk r (b ≡ a ++ all)
one r a b xs all e p = on_ok_weaker r (λ h. h ∙ ap (λ l. a ++ l) (sym e)) p

pub head_noted : {E : Type 0} (r : Result (Unit {0}) E) (a b xs : List Mention) (k l : StmtKind) → k ≡ l → head_mentions l ≡ xs → OnOk r (b ≡ a ++ xs)
    → OnOk r (b ≡ a ++ head_mentions k)
head_noted r a b xs k l is e p = one r a b xs (head_mentions k) (rw is e) p

pub operand_noted : {E : Type 0} (r : Result (Unit {0}) E) (a b : List Mention) (k : ExprKind) (v : Rc Expr Global) → ((op : UnOp) × (k ≡ kind.Unary op v)) ⊎ (k ≡ kind.Paren v)
    → OnOk r (b ≡ a ++ mentions_in v.value) → OnOk r (b ≡ a ++ kind_mentions k)
operand_noted r a b k v is p = one r a b (mentions_in v.value) (kind_mentions k) (operand_is k v is) p

pub table_noted : {E : Type 0} (r : Result (Unit {0}) E) (a b : List Mention) (k : ExprKind) (items : Rc (Vec TableItem Global) Global) → k ≡ kind.Table items
    → OnOk r (b ≡ a ++ flat_map mentions_in_item items.value.items) → OnOk r (b ≡ a ++ kind_mentions k)
table_noted r a b k items is p = one r a b (flat_map mentions_in_item items.value.items) (kind_mentions k) (rw is (table_is items)) p

-- three parts of a call
pub call_noted : {E : Type 0} (o q r : Result (Unit {0}) E) (a b c d : List Mention) (k : ExprKind) (callee : Rc Expr Global) (values : Rc (Vec Expr Global) Global)
    → k ≡ kind.Call callee values → OnOk q (IsOk o) → OnOk r (IsOk q) → OnOk o (b ≡ a ++ module_in callee.value values.value.items)
    → OnOk q (c ≡ b ++ mentions_in callee.value) → OnOk r (d ≡ c ++ flat_map mentions_in values.value.items) → OnOk r (d ≡ a ++ kind_mentions k)
call_noted o q r a b c d k callee values is first second p s t =
    let m : List Mention = module_in callee.value values.value.items in
    let n : List Mention = mentions_in callee.value in
    let l : List Mention = flat_map mentions_in values.value.items in
    let all : kind_mentions k ≡ m ++ (n ++ l) = rw is (call_is callee values) in
    two q r a c d second (m ++ n) l (kind_mentions k) (all ∙ sym (append_assoc m n l)) (two o q a b c first m n (m ++ n) refl p s) t

-- three parts of a loop whose test comes last, of which the first is empty
pub repeat_noted : {E : Type 0} (o q r : Result (Unit {0}) E) (a b c d : List Mention) (k : StmtKind) (body : Rc (Vec Stmt Global) Global) (test : Rc Expr Global)
    → k ≡ stmt.Repeat body test → OnOk q (IsOk o) → OnOk r (IsOk q) → OnOk o (b ≡ a ++ head_mentions k)
    → OnOk q (c ≡ b ++ flat_map mentions_in_stmt body.value.items) → OnOk r (d ≡ c ++ mentions_in test.value) → OnOk r (d ≡ a ++ stmt_mentions k)
repeat_noted o q r a b c d k body test is first second p s t =
    let l : List Mention = flat_map mentions_in_stmt body.value.items in
    let none : head_mentions k ≡ [] = rw is refl in
    let all : stmt_mentions k ≡ l ++ mentions_in test.value = rw is (repeat_is body test) in
    two q r a c d second l (mentions_in test.value) (stmt_mentions k) all (two o q a b c first (head_mentions k) l l (rw none refl) p s) t
