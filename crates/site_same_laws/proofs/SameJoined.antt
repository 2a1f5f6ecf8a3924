-- What is joined of programs that are the same is the same.
use Rattle.std.proofs.Common.{◌≡◌, ℕ, ◌+◌, List, [], ◌∷◌, ◌++◌, length, Option, Some, None, refl, sym, ap, ap₂, ◌∙◌, subst, subst₂}
use Rattle.std.specs.List.{AllZip}
use Rattle.std.proofs.lemmas.List.Elements.{length_all_zip}
use Rattle.lua_ast.specs.declared.expressions.Expr.{Expr}
use Rattle.lua_ast.specs.declared.expressions.BinOp.{BinOp}
use Rattle.lua_ast.specs.declared.expressions.ExprKind.{ExprKind}
use Rattle.lua_ast.specs.declared.expressions.ExprKind as kind
use Rattle.lua_ast.specs.declared.expressions.TableItem.{TableItem}
use Rattle.lua_ast.specs.declared.expressions.TableItem as item
use Rattle.lua_ast.specs.declared.statements.Stmt.{Stmt}
use Rattle.lua_ast.specs.declared.statements.StmtKind.{StmtKind}
use Rattle.lua_ast.specs.declared.statements.StmtKind as stmt
use Rattle.lua_ast.specs.declared.statements.Arm.{Arm, out-Arm}
use Rattle.lua_ast.specs.declared.statements.Arm as arm
use Rattle.lua_ast.specs.declared.programs.Function.{Function}
use Rattle.lua_ast.specs.declared.programs.Program.{Program}
use Rattle.lua_ast.specs.SameProgram.{SameKind, SameRow, SameItems, SameItem, SameExpr, SameStep, SameStmtKind, SameBlock, SameArms, SameArm, SameStmt, SameFunction, SameProgram}
use Rattle.lua_grammar.proofs.SameNodes.{zip_append, unary_same, paren_same, index_same, call_same, method_same, table_same, pair_same, item_same}
use Rattle.lua_grammar.proofs.SameNodes.{local_same, local_function_same, assign_same, call_statement_same, return_same, do_same, while_same, repeat_same, if_same, numeric_same, generic_same, arm_same}
use Rattle.lua_linking.specs.Joining.{IsJoined}
use Rattle.lua_linking.specs.Raising.{Shared, RaisedKind, RaisedRow, RaisedItems, RaisedItem, RaisedExpr, RaisedStep, RaisedStmtKind, RaisedBlock, RaisedArms, RaisedArm, RaisedStmt, RaisedFunction}
use Rattle.site_same_laws.proofs.SameTrees.{kind_self}

-- what is the same of equal things
told : {X : Type 0} (R : X → X → Type 0) {x y z w : X} → z ≡ x → w ≡ y → R x y → R z w
told R p q h = subst₂ R (sym p) (sym q) h

-- things that are related to the same one by one are the same one by one
zips : {X : Type 0} (S R : X → X → Type 0) → ((a b x y : X) → S a b → R a x → R b y → S x y) → (us vs xs ys : List X) → AllZip S us vs → AllZip R us xs → AllZip R vs ys → AllZip S xs ys
zips S R step [] [] [] [] h r t = tt
zips S R step [] [] [] (y ∷ ys) h r t = absurd t
zips S R step [] [] (x ∷ xs) ys h r t = absurd r
zips S R step [] (v ∷ vs) xs ys h r t = absurd h
zips S R step (u ∷ us) [] xs ys h r t = absurd h
zips S R step (u ∷ us) (v ∷ vs) [] ys h r t = absurd r
zips S R step (u ∷ us) (v ∷ vs) (x ∷ xs) [] h r t = absurd t
zips S R step (u ∷ us) (v ∷ vs) (x ∷ xs) (y ∷ ys) h r t = (step u v x y h.0 r.0 t.0, zips S R step us vs xs ys h.1 r.1 t.1)

binary_op : (op : BinOp) (x x' y y' : Shared) → SameExpr x.value x'.value → SameExpr y.value y'.value → SameKind (kind.Binary op x y) (kind.Binary op x' y')
unfolding SameKind
binary_op op x x' y y' h g = (refl, h.0, h.1, g.0, g.1)

and_same : (x x' y y' : Shared) → SameExpr x.value x'.value → SameExpr y.value y'.value → SameKind (kind.And x y) (kind.And x' y')
unfolding SameKind
and_same x x' y y' h g = (h.0, h.1, g.0, g.1)

or_same : (x x' y y' : Shared) → SameExpr x.value x'.value → SameExpr y.value y'.value → SameKind (kind.Or x y) (kind.Or x' y')
unfolding SameKind
or_same x x' y y' h g = (h.0, h.1, g.0, g.1)

module _ (by : ℕ) where
  -- ---- what is raised of a tree is raised of the same one

  mutual
    unfolding SameKind

    kind_moved : (k j d : ExprKind) → SameKind k j → RaisedKind by j d → RaisedKind by k d
    kind_moved (kind.Index' p l k q m j) (kind.Index' p' l' k' q' m' j') d h t =
        (t.0, t.1, t.2, (t.3.0 ∙ sym h.0, kind_moved k k' t.0.value.kind h.1 t.3.1), (t.4.0 ∙ sym h.2, kind_moved j j' t.1.value.kind h.3 t.4.1))
    kind_moved (kind.Call' p l k q shape row) (kind.Call' p' l' k' q' shape' row') d h t =
        (t.0, t.1, t.2, (t.3.0 ∙ sym h.0, kind_moved k k' t.0.value.kind h.1 t.3.1), row_moved row row' t.1.value.items h.2 t.4)
    kind_moved (kind.Method' p l k name q shape row) (kind.Method' p' l' k' name' q' shape' row') d h t =
        (t.0, t.1, t.2 ∙ ap (λ n. kind.Method t.0 n t.1) (sym h.2), (t.3.0 ∙ sym h.0, kind_moved k k' t.0.value.kind h.1 t.3.1), row_moved row row' t.1.value.items h.3 t.4)
    kind_moved (kind.Unary' op p l k) (kind.Unary' op' p' l' k') d h t =
        (t.0, t.1 ∙ ap (λ o. kind.Unary o t.0) (sym h.0), (t.2.0 ∙ sym h.1, kind_moved k k' t.0.value.kind h.2 t.2.1))
    kind_moved (kind.Binary' op p l k q m j) (kind.Binary' op' p' l' k' q' m' j') d h t =
        (t.0, t.1, t.2 ∙ ap (λ o. kind.Binary o t.0 t.1) (sym h.0), (t.3.0 ∙ sym h.1, kind_moved k k' t.0.value.kind h.2 t.3.1), (t.4.0 ∙ sym h.3, kind_moved j j' t.1.value.kind h.4 t.4.1))
    kind_moved (kind.And' p l k q m j) (kind.And' p' l' k' q' m' j') d h t =
        (t.0, t.1, t.2, (t.3.0 ∙ sym h.0, kind_moved k k' t.0.value.kind h.1 t.3.1), (t.4.0 ∙ sym h.2, kind_moved j j' t.1.value.kind h.3 t.4.1))
    kind_moved (kind.Or' p l k q m j) (kind.Or' p' l' k' q' m' j') d h t =
        (t.0, t.1, t.2, (t.3.0 ∙ sym h.0, kind_moved k k' t.0.value.kind h.1 t.3.1), (t.4.0 ∙ sym h.2, kind_moved j j' t.1.value.kind h.3 t.4.1))
    kind_moved (kind.Paren' p l k) (kind.Paren' p' l' k') d h t = (t.0, t.1, (t.2.0 ∙ sym h.0, kind_moved k k' t.0.value.kind h.1 t.2.1))
    kind_moved (kind.Table' q shape row) (kind.Table' q' shape' row') d h t = (t.0, t.1, items_moved row row' t.0.value.items h t.2)
    kind_moved k j d h t = subst (λ z. RaisedKind by z d) (sym h) t

    row_moved : {n m : _} (row : kind.Row_of-Expr n) (row' : kind.Row_of-Expr m) (es : List Expr) → SameRow row row' → RaisedRow by row' es → RaisedRow by row es
    row_moved kind.end_of-Expr kind.end_of-Expr es h t = t
    row_moved kind.end_of-Expr (kind.more_of-Expr l' k' row') es h t = absurd h
    row_moved (kind.more_of-Expr l k row) kind.end_of-Expr es h t = absurd h
    row_moved (kind.more_of-Expr l k row) (kind.more_of-Expr l' k' row') [] h t = absurd t
    row_moved (kind.more_of-Expr l k row) (kind.more_of-Expr l' k' row') (e ∷ es) h t = ((t.0.0 ∙ sym h.0, kind_moved k k' e.kind h.1 t.0.1), row_moved row row' es h.2 t.1)

    items_moved : {n m : _} (row : kind.Row_of-TableItem n) (row' : kind.Row_of-TableItem m) (is : List TableItem) → SameItems row row' → RaisedItems by row' is → RaisedItems by row is
    items_moved kind.end_of-TableItem kind.end_of-TableItem is h t = t
    items_moved kind.end_of-TableItem (kind.more_of-TableItem i' row') is h t = absurd h
    items_moved (kind.more_of-TableItem i row) kind.end_of-TableItem is h t = absurd h
    items_moved (kind.more_of-TableItem i row) (kind.more_of-TableItem i' row') [] h t = absurd t
    items_moved (kind.more_of-TableItem i row) (kind.more_of-TableItem i' row') (x ∷ is) h t = (item_moved i i' x h.0 t.0, items_moved row row' is h.1 t.1)

    item_moved : (i j d : TableItem) → SameItem i j → RaisedItem by j d → RaisedItem by i d
    item_moved (item.Item' l k) (item.Item' l' k') d h t = (t.0, t.1, (t.2.0 ∙ sym h.0, kind_moved k k' t.0.kind h.1 t.2.1))
    item_moved (item.Item' l k) (item.Pair' l' k' m' j') d h t = absurd h
    item_moved (item.Pair' l k m j) (item.Item' l' k') d h t = absurd h
    item_moved (item.Pair' l k m j) (item.Pair' l' k' m' j') d h t =
        (t.0, t.1, t.2, (t.3.0 ∙ sym h.0, kind_moved k k' t.0.kind h.1 t.3.1), (t.4.0 ∙ sym h.2, kind_moved j j' t.1.kind h.3 t.4.1))

  -- ---- two trees that are raised of one are the same

  mutual
    kind_twice : (k x y : ExprKind) → RaisedKind by k x → RaisedKind by k y → SameKind x y
    kind_twice (kind.Function n) x y r t = told SameKind r t (kind_self (kind.Function (n + by)))
    kind_twice (kind.Index' p l k q m j) x y r t =
        told SameKind r.2 t.2 (index_same 0 r.0 t.0 (r.3.0 ∙ sym t.3.0, kind_twice k r.0.value.kind t.0.value.kind r.3.1 t.3.1) r.1 t.1 (r.4.0 ∙ sym t.4.0, kind_twice j r.1.value.kind t.1.value.kind r.4.1 t.4.1)).1
    kind_twice (kind.Call' p l k q shape row) x y r t =
        told SameKind r.2 t.2 (call_same 0 r.0 t.0 (r.3.0 ∙ sym t.3.0, kind_twice k r.0.value.kind t.0.value.kind r.3.1 t.3.1) r.1 t.1 (row_twice row r.1.value.items t.1.value.items r.4 t.4)).1
    kind_twice (kind.Method' p l k name q shape row) x y r t =
        told SameKind r.2 t.2 (method_same 0 r.0 t.0 (r.3.0 ∙ sym t.3.0, kind_twice k r.0.value.kind t.0.value.kind r.3.1 t.3.1) name r.1 t.1 (row_twice row r.1.value.items t.1.value.items r.4 t.4)).1
    kind_twice (kind.Unary' op p l k) x y r t =
        told SameKind r.1 t.1 (unary_same 0 r.0 t.0 (r.2.0 ∙ sym t.2.0, kind_twice k r.0.value.kind t.0.value.kind r.2.1 t.2.1) op).1
    kind_twice (kind.Binary' op p l k q m j) x y r t =
        told SameKind r.2 t.2 (binary_op op r.0 t.0 r.1 t.1 (r.3.0 ∙ sym t.3.0, kind_twice k r.0.value.kind t.0.value.kind r.3.1 t.3.1) (r.4.0 ∙ sym t.4.0, kind_twice j r.1.value.kind t.1.value.kind r.4.1 t.4.1))
    kind_twice (kind.And' p l k q m j) x y r t =
        told SameKind r.2 t.2 (and_same r.0 t.0 r.1 t.1 (r.3.0 ∙ sym t.3.0, kind_twice k r.0.value.kind t.0.value.kind r.3.1 t.3.1) (r.4.0 ∙ sym t.4.0, kind_twice j r.1.value.kind t.1.value.kind r.4.1 t.4.1))
    kind_twice (kind.Or' p l k q m j) x y r t =
        told SameKind r.2 t.2 (or_same r.0 t.0 r.1 t.1 (r.3.0 ∙ sym t.3.0, kind_twice k r.0.value.kind t.0.value.kind r.3.1 t.3.1) (r.4.0 ∙ sym t.4.0, kind_twice j r.1.value.kind t.1.value.kind r.4.1 t.4.1))
    kind_twice (kind.Paren' p l k) x y r t =
        told SameKind r.1 t.1 (paren_same 0 r.0 t.0 (r.2.0 ∙ sym t.2.0, kind_twice k r.0.value.kind t.0.value.kind r.2.1 t.2.1)).1
    kind_twice (kind.Table' q shape row) x y r t = told SameKind r.1 t.1 (table_same 0 r.0 t.0 (items_twice row r.0.value.items t.0.value.items r.2 t.2)).1
    kind_twice k x y r t = told SameKind r t (kind_self k)

    row_twice : {n : _} (row : kind.Row_of-Expr n) (es ds : List Expr) → RaisedRow by row es → RaisedRow by row ds → AllZip SameExpr es ds
    row_twice kind.end_of-Expr es ds r t = told (AllZip SameExpr) r t tt
    row_twice (kind.more_of-Expr l k row) [] ds r t = absurd r
    row_twice (kind.more_of-Expr l k row) (e ∷ es) [] r t = absurd t
    row_twice (kind.more_of-Expr l k row) (e ∷ es) (d ∷ ds) r t = ((r.0.0 ∙ sym t.0.0, kind_twice k e.kind d.kind r.0.1 t.0.1), row_twice row es ds r.1 t.1)

    items_twice : {n : _} (row : kind.Row_of-TableItem n) (xs ys : List TableItem) → RaisedItems by row xs → RaisedItems by row ys → AllZip SameItem xs ys
    items_twice kind.end_of-TableItem xs ys r t = told (AllZip SameItem) r t tt
    items_twice (kind.more_of-TableItem i row) [] ys r t = absurd r
    items_twice (kind.more_of-TableItem i row) (x ∷ xs) [] r t = absurd t
    items_twice (kind.more_of-TableItem i row) (x ∷ xs) (y ∷ ys) r t = (item_twice i x y r.0 t.0, items_twice row xs ys r.1 t.1)

    item_twice : (i x y : TableItem) → RaisedItem by i x → RaisedItem by i y → SameItem x y
    item_twice (item.Item' l k) x y r t = told SameItem r.1 t.1 (item_same r.0 t.0 (r.2.0 ∙ sym t.2.0, kind_twice k r.0.kind t.0.kind r.2.1 t.2.1))
    item_twice (item.Pair' l k m j) x y r t =
        told SameItem r.2 t.2 (pair_same r.0 t.0 r.1 t.1 (r.3.0 ∙ sym t.3.0, kind_twice k r.0.kind t.0.kind r.3.1 t.3.1) (r.4.0 ∙ sym t.4.0, kind_twice j r.1.kind t.1.kind r.4.1 t.4.1))

  -- ---- expressions that are raised of the same are the same

  expr_joined : (e d x y : Expr) → SameExpr e d → RaisedExpr by e x → RaisedExpr by d y → SameExpr x y
  expr_joined e d x y h r t = (r.0 ∙ h.0 ∙ sym t.0, kind_twice e.kind x.kind y.kind r.1 (kind_moved e.kind d.kind y.kind h.1 t.1))

  exprs_joined : (es ds xs ys : List Expr) → AllZip SameExpr es ds → AllZip (RaisedExpr by) es xs → AllZip (RaisedExpr by) ds ys → AllZip SameExpr xs ys
  exprs_joined = zips SameExpr (RaisedExpr by) expr_joined

  step_joined : (o o' z z' : Option Shared) → SameStep o o' → RaisedStep by o z → RaisedStep by o' z' → SameStep z z'
  step_joined None None z z' h r t = told SameStep r t tt
  step_joined None (Some x) z z' h r t = absurd h
  step_joined (Some x) None z z' h r t = absurd h
  step_joined (Some x) (Some y) z z' h r t = told SameStep r.1 t.1 (expr_joined x.value y.value r.0.value t.0.value h r.2 t.2)

  -- ---- statements

  mutual
    unfolding SameStmtKind

    stmt_joined : (k j x y : StmtKind) → SameStmtKind k j → RaisedStmtKind by k x → RaisedStmtKind by j y → SameStmtKind x y
    stmt_joined (stmt.Local slots values) (stmt.Local slots' values') x y h r t =
        told SameStmtKind r.1 t.1 (local_same 0 slots slots' r.0 t.0 h.0 (exprs_joined values.value.items values'.value.items r.0.value.items t.0.value.items h.1 r.2 t.2)).1
    stmt_joined (stmt.LocalFunction i n) (stmt.LocalFunction i' n') x y h r t =
        told SameStmtKind r t (local_function_same 0 i i' (n + by) (n' + by) h.0 (ap (λ z. z + by) h.1)).1
    stmt_joined (stmt.Assign targets values) (stmt.Assign targets' values') x y h r t =
        told SameStmtKind r.2 t.2 (assign_same 0 r.0 t.0 r.1 t.1 (exprs_joined targets.value.items targets'.value.items r.0.value.items t.0.value.items h.0 r.3 t.3)
        (exprs_joined values.value.items values'.value.items r.1.value.items t.1.value.items h.1 r.4 t.4)).1
    stmt_joined (stmt.Call e) (stmt.Call d) x y h r t = told SameStmtKind r.1 t.1 (call_statement_same 0 r.0 t.0 (expr_joined e d r.0 t.0 h r.2 t.2)).1
    stmt_joined (stmt.Do' p shape row) (stmt.Do' p' shape' row') x y h r t =
        told SameStmtKind r.1 t.1 (do_same 0 r.0 t.0 (block_joined row row' r.0.value.items t.0.value.items h r.2 t.2)).1
    stmt_joined (stmt.While' test p shape row) (stmt.While' test' p' shape' row') x y h r t =
        told SameStmtKind r.2 t.2 (while_same 0 r.1 t.1 (block_joined row row' r.1.value.items t.1.value.items h.1 r.4 t.4) r.0 t.0 (expr_joined test.value test'.value r.0.value t.0.value h.0 r.3 t.3)).1
    stmt_joined (stmt.Repeat' p shape row test) (stmt.Repeat' p' shape' row' test') x y h r t =
        told SameStmtKind r.2 t.2 (repeat_same 0 r.0 t.0 (block_joined row row' r.0.value.items t.0.value.items h.0 r.3 t.3) r.1 t.1 (expr_joined test.value test'.value r.1.value t.1.value h.1 r.4 t.4)).1
    stmt_joined (stmt.If' p shape arms q form row) (stmt.If' p' shape' arms' q' form' row') x y h r t =
        told SameStmtKind r.2 t.2 (if_same 0 r.1 t.1 (block_joined row row' r.1.value.items t.1.value.items h.1 r.4 t.4) r.0 t.0 (arms_joined arms arms' r.0.value.items t.0.value.items h.0 r.3 t.3)).1
    stmt_joined (stmt.NumericFor' i from to step p shape row) (stmt.NumericFor' i' from' to' step' p' shape' row') x y h r t =
        told SameStmtKind r.4 t.4 (numeric_same 0 r.3 t.3 (block_joined row row' r.3.value.items t.3.value.items h.4 r.8 t.8) i i' r.0 r.1 t.0 t.1 r.2 t.2 h.0
        (expr_joined from.value from'.value r.0.value t.0.value h.1 r.5 t.5) (expr_joined to.value to'.value r.1.value t.1.value h.2 r.6 t.6) (step_joined step step' r.2 t.2 h.3 r.7 t.7)).1
    stmt_joined (stmt.GenericFor' slots values p shape row) (stmt.GenericFor' slots' values' p' shape' row') x y h r t =
        told SameStmtKind r.2 t.2 (generic_same 0 r.1 t.1 (block_joined row row' r.1.value.items t.1.value.items h.2 r.4 t.4) slots slots' r.0 t.0 h.0
        (exprs_joined values.value.items values'.value.items r.0.value.items t.0.value.items h.1 r.3 t.3)).1
    stmt_joined (stmt.Return values) (stmt.Return values') x y h r t =
        told SameStmtKind r.1 t.1 (return_same 0 r.0 t.0 (exprs_joined values.value.items values'.value.items r.0.value.items t.0.value.items h r.2 t.2)).1
    stmt_joined stmt.Break stmt.Break x y h r t = told SameStmtKind r t tt
    stmt_joined k j x y h r t = absurd h

    block_joined : {n m : _} (row : stmt.Row_of-Stmt n) (row' : stmt.Row_of-Stmt m) (ss rs : List Stmt) → SameBlock row row' → RaisedBlock by row ss → RaisedBlock by row' rs → AllZip SameStmt ss rs
    block_joined stmt.end_of-Stmt stmt.end_of-Stmt ss rs h r t = told (AllZip SameStmt) r t tt
    block_joined stmt.end_of-Stmt (stmt.more_of-Stmt l' k' row') ss rs h r t = absurd h
    block_joined (stmt.more_of-Stmt l k row) stmt.end_of-Stmt ss rs h r t = absurd h
    block_joined (stmt.more_of-Stmt l k row) (stmt.more_of-Stmt l' k' row') [] rs h r t = absurd r
    block_joined (stmt.more_of-Stmt l k row) (stmt.more_of-Stmt l' k' row') (st ∷ ss) [] h r t = absurd t
    block_joined (stmt.more_of-Stmt l k row) (stmt.more_of-Stmt l' k' row') (st ∷ ss) (other ∷ rs) h r t =
        ((r.0 ∙ h.0 ∙ sym t.0, stmt_joined k k' st.kind other.kind h.1 r.1 t.1), block_joined row row' ss rs h.2 r.2 t.2)

    arms_joined : {n m : _} (row : stmt.Row_of-Arm n) (row' : stmt.Row_of-Arm m) (xs ys : List Arm) → SameArms row row' → RaisedArms by row xs → RaisedArms by row' ys → AllZip SameArm xs ys
    arms_joined stmt.end_of-Arm stmt.end_of-Arm xs ys h r t = told (AllZip SameArm) r t tt
    arms_joined stmt.end_of-Arm (stmt.more_of-Arm a' row') xs ys h r t = absurd h
    arms_joined (stmt.more_of-Arm a row) stmt.end_of-Arm xs ys h r t = absurd h
    arms_joined (stmt.more_of-Arm a row) (stmt.more_of-Arm a' row') [] ys h r t = absurd r
    arms_joined (stmt.more_of-Arm a row) (stmt.more_of-Arm a' row') (x ∷ xs) [] h r t = absurd t
    arms_joined (stmt.more_of-Arm a row) (stmt.more_of-Arm a' row') (x ∷ xs) (y ∷ ys) h r t = (arm_joined a a' x y h.0 r.0 t.0, arms_joined row row' xs ys h.1 r.1 t.1)

    arm_joined : (a b x y : Arm) → SameArm a b → RaisedArm by a x → RaisedArm by b y → SameArm x y
    arm_joined (arm.Arm' test p shape row) (arm.Arm' test' p' shape' row') x y h r t =
        arm_same x y (expr_joined test test' (out-Arm x).test (out-Arm y).test h.0 r.0 t.0) (block_joined row row' (out-Arm x).body.value.items (out-Arm y).body.value.items h.1 r.1 t.1)

  stmts_joined : (s r x y : Stmt) → SameStmt s r → RaisedStmt by s x → RaisedStmt by r y → SameStmt x y
  stmts_joined s r x y h p q = (p.0 ∙ h.0 ∙ sym q.0, stmt_joined s.kind r.kind x.kind y.kind h.1 p.1 q.1)

  function_joined : (files : ℕ) (f g x y : Function) → SameFunction f g → RaisedFunction by files f x → RaisedFunction by files g y → SameFunction x y
  function_joined files f g x y h r t = record {
    file = r.file ∙ ap (λ n. n + files) h.file ∙ sym t.file;
    params = r.params ∙ h.params ∙ sym t.params;
    vararg = r.vararg ∙ h.vararg ∙ sym t.vararg;
    slots = r.slots ∙ h.slots ∙ sym t.slots;
    captures = r.captures ∙ h.captures ∙ sym t.captures;
    body = zips SameStmt (RaisedStmt by) stmts_joined f.body.value.items g.body.value.items x.body.value.items y.body.value.items h.body r.body t.body;
    line = r.line ∙ h.line ∙ sym t.line;
  }

pub joined_same : (first second joined first' second' joined' : Program) → SameProgram first first' → SameProgram second second' → IsJoined first second joined → IsJoined first' second' joined'
    → SameProgram joined joined'
joined_same first second joined first' second' joined' one two a b = record {
  files = a.files ∙ ap₂ (λ xs ys. xs ++ ys) one.files two.files ∙ sym b.files;
  functions =
      let count : length first'.functions.items ≡ length first.functions.items = sym (length_all_zip SameFunction first.functions.items first'.functions.items one.functions) in
      let names : length first'.files ≡ length first.files = ap length (sym one.files) in
      let numbers = subst₂ (λ (by files : ℕ). AllZip (RaisedFunction by files) second'.functions.items b.raised) count names b.numbers in
      told (AllZip SameFunction) a.functions b.functions (zip_append SameFunction first.functions.items first'.functions.items a.raised b.raised one.functions
      (zips SameFunction (RaisedFunction (length first.functions.items) (length first.files)) (function_joined (length first.functions.items) (length first.files))
      second.functions.items second'.functions.items a.raised b.raised two.functions a.numbers numbers));
}
