-- The rows of a tree as lists, of which all elements are whole.
use Rattle.std.proofs.Common.{◌≡◌, ℕ, suc, ◌≤◌, List, ◌∷◌, length, take, arith, IsTrue, ◌↔◌, Bool, Vec, Global, rules, subst}
use Rattle.std.specs.declared.rc.Rc.{Rc}
use Rattle.std.specs.List.{All}
use Rattle.std.proofs.lemmas.List.{take_all}
use Rattle.std.proofs.lemmas.List.Elements.{All-cons}
use Rattle.lua_ast.specs.declared.expressions.Expr.{Expr}
use Rattle.lua_ast.specs.declared.expressions.TableItem.{TableItem}
use Rattle.lua_ast.specs.declared.expressions.ExprKind.{ExprKind}
use Rattle.lua_ast.specs.declared.expressions.ExprKind as kind
use Rattle.lua_ast.specs.declared.programs.Function.{Function}
use Rattle.lua_ast.specs.WholeProgram.{IsWholeKind, IsWholeRow, AreWholeItems, IsWholeItem, IsWholeExpr}

-- what holds of all that were passed holds of all at the end
pub finished : {X : Type 0} (P : X → Type 0) (xs : List X) (i : ℕ) → length xs ≤ i → All P (take i xs) → All P xs
finished P xs i h all = rw (take_all i xs h) at all

-- the first element, and the rest
pub first_of : {X : Type 0} (P : X → Type 0) (x : X) (xs : List X) → All P (x ∷ xs) → P x
first_of P x xs all = all 0 x (omega arith)

pub rest_of : {X : Type 0} (P : X → Type 0) (x : X) (xs : List X) → All P (x ∷ xs) → All P xs
rest_of P x xs all = λ k d h. all (suc k) d (omega arith)

row_all : {m : _} (fs : List Function) (f : Function) (r : kind.Row_of-Expr m) →
    IsWholeRow fs f r ↔ All (IsWholeExpr fs f) (kind.items-the_row-Expr _ r)
row_all fs f kind.end_of-Expr = (λ _. λ k d h. absurd (omega arith), λ _. tt)
row_all fs f (kind.more_of-Expr l k row) =
    let whole = IsWholeExpr fs f in
    let rest = kind.items-the_row-Expr _ row in
    let e : Expr = record { line = l; kind = k } in (
      λ parts. All-cons whole e rest parts.0 ((row_all fs f row).0 parts.1),
      λ all. (first_of whole e rest all, (row_all fs f row).1 (rest_of whole e rest all)),
    )

items_all : {m : _} (fs : List Function) (f : Function) (r : kind.Row_of-TableItem m) →
    AreWholeItems fs f r ↔ All (IsWholeItem fs f) (kind.items-the_row-TableItem _ r)
items_all fs f kind.end_of-TableItem = (λ _. λ k d h. absurd (omega arith), λ _. tt)
items_all fs f (kind.more_of-TableItem i row) =
    let whole = IsWholeItem fs f in
    let rest = kind.items-the_row-TableItem _ row in (
      λ parts. All-cons whole i rest parts.0 ((items_all fs f row).0 parts.1),
      λ all. (first_of whole i rest all, (items_all fs f row).1 (rest_of whole i rest all)),
    )

table_whole : (fs : List Function) (f : Function) (items : Rc (Vec TableItem Global) Global) →
    IsWholeKind fs f (kind.Table items) ↔ All (IsWholeItem fs f) items.value.items
table_whole fs f items =
    let a = items_all fs f (kind.TheBlock.hidden-the_row-TableItem-1 items.value) in
    let e : kind.items-the_row-TableItem _ (kind.TheBlock.hidden-the_row-TableItem-1 items.value) ≡ items.value.items = search (rules, kind.the_lemmas) in
    rw e at a

call_whole : (fs : List Function) (f : Function) (callee : Rc Expr Global) (values : Rc (Vec Expr Global) Global) →
    IsWholeKind fs f (kind.Call callee values) ↔ (IsWholeExpr fs f callee.value × All (IsWholeExpr fs f) values.value.items)
call_whole fs f callee values =
    let a = row_all fs f (kind.TheBlock.hidden-the_row-Expr-0 values.value) in
    let e : kind.items-the_row-Expr _ (kind.TheBlock.hidden-the_row-Expr-0 values.value) ≡ values.value.items = search (rules, kind.the_lemmas) in
    let b = rw e at a in
    (λ w. (w.0, b.0 w.1), λ w. (w.0, b.1 w.1))

method_whole : (fs : List Function) (f : Function) (callee : Rc Expr Global) (name : List ℕ) (values : Rc (Vec Expr Global) Global) →
    IsWholeKind fs f (kind.Method callee name values) ↔ (IsWholeExpr fs f callee.value × All (IsWholeExpr fs f) values.value.items)
method_whole fs f callee name values =
    let a = row_all fs f (kind.TheBlock.hidden-the_row-Expr-0 values.value) in
    let e : kind.items-the_row-Expr _ (kind.TheBlock.hidden-the_row-Expr-0 values.value) ≡ values.value.items = search (rules, kind.the_lemmas) in
    let b = rw e at a in
    (λ w. (w.0, b.0 w.1), λ w. (w.0, b.1 w.1))

-- answers on the parts are one on the whole
pub table_answer : (fs : List Function) (f : Function) (k : ExprKind) (items : Rc (Vec TableItem Global) Global) (seen : List TableItem) (b : Bool) →
    k ≡ kind.Table items → seen ≡ items.value.items → (IsTrue b ↔ All (IsWholeItem fs f) seen) → IsTrue b ↔ IsWholeKind fs f k
table_answer fs f k items seen b is same answer =
    let w = table_whole fs f items in
    let a = rw same at answer in
    rw is (λ t. w.1 (a.0 t), λ h. a.1 (w.0 h))

pub call_answer : (fs : List Function) (f : Function) (k : ExprKind) (callee : Rc Expr Global) (values : Rc (Vec Expr Global) Global) (e : Expr) (seen : List Expr) (b : Bool) →
    k ≡ kind.Call callee values → e ≡ callee.value → IsWholeExpr fs f e → seen ≡ values.value.items → (IsTrue b ↔ All (IsWholeExpr fs f) seen) →
    IsTrue b ↔ IsWholeKind fs f k
call_answer fs f k callee values e seen b is here first same answer =
    let w = call_whole fs f callee values in
    let a = rw same at answer in
    let c : IsWholeExpr fs f callee.value = subst (IsWholeExpr fs f) here first in
    rw is (λ t. w.1 (c, a.0 t), λ h. a.1 (w.0 h).1)

pub method_answer : (fs : List Function) (f : Function) (k : ExprKind) (callee : Rc Expr Global) (name : List ℕ) (values : Rc (Vec Expr Global) Global) (e : Expr) (seen : List Expr) (b : Bool) →
    k ≡ kind.Method callee name values → e ≡ callee.value → IsWholeExpr fs f e → seen ≡ values.value.items → (IsTrue b ↔ All (IsWholeExpr fs f) seen) →
    IsTrue b ↔ IsWholeKind fs f k
method_answer fs f k callee name values e seen b is here first same answer =
    let w = method_whole fs f callee name values in
    let a = rw same at answer in
    let c : IsWholeExpr fs f callee.value = subst (IsWholeExpr fs f) here first in
    rw is (λ t. w.1 (c, a.0 t), λ h. a.1 (w.0 h).1)
