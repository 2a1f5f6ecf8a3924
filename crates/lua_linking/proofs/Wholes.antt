-- Expressions that are raised in a whole program are whole in the joined one.
use Rattle.std.proofs.Common.{◌≡◌, ℕ, ◌+◌, ◌<◌, List, [], ◌∷◌, length, Vec, Global, sym, subst, rules, arith}
use Rattle.std.specs.List.{All}
use Rattle.std.proofs.lemmas.List.Elements.{All-cons}
use Rattle.lua_ast.specs.declared.expressions.Expr.{Expr}
use Rattle.lua_ast.specs.declared.expressions.ExprKind.{ExprKind}
use Rattle.lua_ast.specs.declared.expressions.ExprKind as kind
use Rattle.lua_ast.specs.declared.expressions.TableItem.{TableItem}
use Rattle.lua_ast.specs.declared.expressions.TableItem as item
use Rattle.lua_ast.specs.declared.programs.Function.{Function}
use Rattle.lua_ast.specs.WholeProgram.{HasInner, IsWholeKind, IsWholeRow, AreWholeItems, IsWholeItem, IsWholeExpr}
use Rattle.lua_linking.proofs.Lists.{first_of, rest_of}
use Rattle.lua_linking.specs.Raising.{RaisedKind, RaisedRow, RaisedItems, RaisedItem, RaisedExpr}

-- a list of whole expressions is a whole row, and the same of items
module _ (gs : List Function) (g : Function) where
  row_from : {m : _} (r : kind.Row_of-Expr m) → All (IsWholeExpr gs g) (kind.items-the_row-Expr _ r) → IsWholeRow gs g r
  row_from kind.end_of-Expr h = tt
  row_from (kind.more_of-Expr l k row) h =
      let e : Expr = record { line = l; kind = k } in
      let rest = kind.items-the_row-Expr _ row in
      (first_of (IsWholeExpr gs g) e rest h, row_from row (rest_of (IsWholeExpr gs g) e rest h))

  items_from : {m : _} (r : kind.Row_of-TableItem m) → All (IsWholeItem gs g) (kind.items-the_row-TableItem _ r) → AreWholeItems gs g r
  items_from kind.end_of-TableItem h = tt
  items_from (kind.more_of-TableItem i row) h =
      let rest = kind.items-the_row-TableItem _ row in
      (first_of (IsWholeItem gs g) i rest h, items_from row (rest_of (IsWholeItem gs g) i rest h))

  pub exprs_from : (values : Vec Expr Global) → All (IsWholeExpr gs g) values.items → IsWholeRow gs g (kind.TheBlock.hidden-the_row-Expr-0 values)
  exprs_from values h =
      let e : kind.items-the_row-Expr _ (kind.TheBlock.hidden-the_row-Expr-0 values) ≡ values.items = search (rules, kind.the_lemmas) in
      row_from (kind.TheBlock.hidden-the_row-Expr-0 values) (rw e h)

  pub table_from : (values : Vec TableItem Global) → All (IsWholeItem gs g) values.items → AreWholeItems gs g (kind.TheBlock.hidden-the_row-TableItem-1 values)
  table_from values h =
      let e : kind.items-the_row-TableItem _ (kind.TheBlock.hidden-the_row-TableItem-1 values) ≡ values.items = search (rules, kind.the_lemmas) in
      items_from (kind.TheBlock.hidden-the_row-TableItem-1 values) (rw e h)

module _ (by : ℕ) (fs gs : List Function) (f g : Function) (slots : g.slots ≡ f.slots) (captures : g.captures.items ≡ f.captures.items)
    (inner : (n : ℕ) → HasInner fs f n → HasInner gs g (n + by)) where
  mutual
    pub kind_whole : (k d : ExprKind) → RaisedKind by k d → IsWholeKind fs f k → IsWholeKind gs g d
    kind_whole (kind.Function n) d r w = rw r (inner n w)
    kind_whole (kind.Slot n) d r w = rw r (subst (λ m. n < m) (sym slots) w)
    kind_whole (kind.Captured n) d r w = rw r (subst (λ cs. n < length cs) (sym captures) w)
    kind_whole (kind.Index' p l k q m j) d r w = rw r.2 (kind_whole k r.0.value.kind r.3.1 w.0, kind_whole j r.1.value.kind r.4.1 w.1)
    kind_whole (kind.Call' p l k q shape row) d r w =
        rw r.2 (kind_whole k r.0.value.kind r.3.1 w.0, exprs_from gs g r.1.value (row_whole row r.1.value.items r.4 w.1))
    kind_whole (kind.Method' p l k name q shape row) d r w =
        rw r.2 (kind_whole k r.0.value.kind r.3.1 w.0, exprs_from gs g r.1.value (row_whole row r.1.value.items r.4 w.1))
    kind_whole (kind.Unary' op p l k) d r w = rw r.1 (kind_whole k r.0.value.kind r.2.1 w)
    kind_whole (kind.Binary' op p l k q m j) d r w = rw r.2 (kind_whole k r.0.value.kind r.3.1 w.0, kind_whole j r.1.value.kind r.4.1 w.1)
    kind_whole (kind.And' p l k q m j) d r w = rw r.2 (kind_whole k r.0.value.kind r.3.1 w.0, kind_whole j r.1.value.kind r.4.1 w.1)
    kind_whole (kind.Or' p l k q m j) d r w = rw r.2 (kind_whole k r.0.value.kind r.3.1 w.0, kind_whole j r.1.value.kind r.4.1 w.1)
    kind_whole (kind.Paren' p l k) d r w = rw r.1 (kind_whole k r.0.value.kind r.2.1 w)
    kind_whole (kind.Table' q shape row) d r w = rw r.1 (table_from gs g r.0.value (items_whole row r.0.value.items r.2 w))
    kind_whole kind.Nil d r w = rw r tt
    kind_whole kind.True d r w = rw r tt
    kind_whole kind.False d r w = rw r tt
    kind_whole (kind.Number n) d r w = rw r tt
    kind_whole (kind.Text bytes) d r w = rw r tt
    kind_whole kind.Vararg d r w = rw r tt
    kind_whole (kind.Global name) d r w = rw r tt

    row_whole : {m : _} (row : kind.Row_of-Expr m) (es : List Expr) → RaisedRow by row es → IsWholeRow fs f row → All (IsWholeExpr gs g) es
    row_whole kind.end_of-Expr es r w = rw r (λ k d p. absurd (omega arith))
    row_whole (kind.more_of-Expr l k row) [] r w = absurd r
    row_whole (kind.more_of-Expr l k row) (e ∷ es) r w = All-cons (IsWholeExpr gs g) e es (kind_whole k e.kind r.0.1 w.0) (row_whole row es r.1 w.1)

    items_whole : {m : _} (row : kind.Row_of-TableItem m) (is : List TableItem) → RaisedItems by row is → AreWholeItems fs f row → All (IsWholeItem gs g) is
    items_whole kind.end_of-TableItem is r w = rw r (λ k d p. absurd (omega arith))
    items_whole (kind.more_of-TableItem i row) [] r w = absurd r
    items_whole (kind.more_of-TableItem i row) (j ∷ is) r w = All-cons (IsWholeItem gs g) j is (item_whole i j r.0 w.0) (items_whole row is r.1 w.1)

    item_whole : (i j : TableItem) → RaisedItem by i j → IsWholeItem fs f i → IsWholeItem gs g j
    item_whole (item.Item' l k) j r w = rw r.1 (kind_whole k r.0.kind r.2.1 w)
    item_whole (item.Pair' l k m d) j r w = rw r.2 (kind_whole k r.0.kind r.3.1 w.0, kind_whole d r.1.kind r.4.1 w.1)

  pub expr_whole : (e d : Expr) → RaisedExpr by e d → IsWholeExpr fs f e → IsWholeExpr gs g d
  expr_whole e d r w = kind_whole e.kind d.kind r.1 w

-- a whole expression stays so where functions are added
module _ (fs gs : List Function) (f : Function) (inner : (n : ℕ) → HasInner fs f n → HasInner gs f n) where
  mutual
    pub kind_stays : (k : ExprKind) → IsWholeKind fs f k → IsWholeKind gs f k
    kind_stays (kind.Function n) w = inner n w
    kind_stays (kind.Slot n) w = w
    kind_stays (kind.Captured n) w = w
    kind_stays (kind.Index' p l k q m j) w = (kind_stays k w.0, kind_stays j w.1)
    kind_stays (kind.Call' p l k q shape row) w = (kind_stays k w.0, row_stays row w.1)
    kind_stays (kind.Method' p l k name q shape row) w = (kind_stays k w.0, row_stays row w.1)
    kind_stays (kind.Unary' op p l k) w = kind_stays k w
    kind_stays (kind.Binary' op p l k q m j) w = (kind_stays k w.0, kind_stays j w.1)
    kind_stays (kind.And' p l k q m j) w = (kind_stays k w.0, kind_stays j w.1)
    kind_stays (kind.Or' p l k q m j) w = (kind_stays k w.0, kind_stays j w.1)
    kind_stays (kind.Paren' p l k) w = kind_stays k w
    kind_stays (kind.Table' q shape row) w = items_stay row w
    kind_stays leaf w = tt

    row_stays : {m : _} (row : kind.Row_of-Expr m) → IsWholeRow fs f row → IsWholeRow gs f row
    row_stays kind.end_of-Expr w = tt
    row_stays (kind.more_of-Expr l k row) w = (kind_stays k w.0, row_stays row w.1)

    items_stay : {m : _} (row : kind.Row_of-TableItem m) → AreWholeItems fs f row → AreWholeItems gs f row
    items_stay kind.end_of-TableItem w = tt
    items_stay (kind.more_of-TableItem i row) w = (item_stays i w.0, items_stay row w.1)

    item_stays : (i : TableItem) → IsWholeItem fs f i → IsWholeItem gs f i
    item_stays (item.Item' l k) w = kind_stays k w
    item_stays (item.Pair' l k m j) w = (kind_stays k w.0, kind_stays j w.1)

  pub expr_stays : (e : Expr) → IsWholeExpr fs f e → IsWholeExpr gs f e
  expr_stays e w = kind_stays e.kind w
