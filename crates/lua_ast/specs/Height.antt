-- The height of expressions.
use Rattle.std.specs.Prelude.{ℕ, ◌+◌, max, List}
use Rattle.std.specs.List.{fold}
use Rattle.lua_ast.specs.declared.expressions.Expr.{Expr}
use Rattle.lua_ast.specs.declared.expressions.ExprKind.{ExprKind}
use Rattle.lua_ast.specs.declared.expressions.ExprKind as kind
use Rattle.lua_ast.specs.declared.expressions.TableItem.{TableItem}
use Rattle.lua_ast.specs.declared.expressions.TableItem as item

-- A leaf has 1, and any other node one more than the highest of its children. In the patterns `k`, `j` are the kinds of
-- the children, `row` is a list of them, and the rest are their lines and addresses.
abbrev mutual
  pub kind_height : ExprKind → ℕ
  kind_height (kind.Index' p l k q m j) = max (kind_height k) (kind_height j) + 1
  kind_height (kind.Call' p l k q shape row) = max (kind_height k) (row_height row) + 1
  kind_height (kind.Method' p l k name q shape row) = max (kind_height k) (row_height row) + 1
  kind_height (kind.Unary' op p l k) = kind_height k + 1
  kind_height (kind.Binary' op p l k q m j) = max (kind_height k) (kind_height j) + 1
  kind_height (kind.And' p l k q m j) = max (kind_height k) (kind_height j) + 1
  kind_height (kind.Or' p l k q m j) = max (kind_height k) (kind_height j) + 1
  kind_height (kind.Paren' p l k) = kind_height k + 1
  kind_height (kind.Table' q shape row) = items_height row + 1
  kind_height leaf = 1

  pub row_height : {m : _} → kind.Row_of-Expr m → ℕ
  row_height kind.end_of-Expr = 0
  row_height (kind.more_of-Expr l k row) = max (kind_height k) (row_height row)

  pub items_height : {m : _} → kind.Row_of-TableItem m → ℕ
  items_height kind.end_of-TableItem = 0
  items_height (kind.more_of-TableItem i row) = max (item_height i) (items_height row)

  pub item_height : TableItem → ℕ
  item_height (item.Item' l k) = kind_height k
  item_height (item.Pair' l k m j) = max (kind_height k) (kind_height j)

abbrev pub height_of : Expr → ℕ
height_of e = kind_height e.kind

-- the greatest height of these expressions, 0 of none
abbrev pub highest_of : List Expr → ℕ
highest_of exprs = fold (λ most e. max most (height_of e)) 0 exprs

-- the greatest height of a key or a value of these items, 0 of none
abbrev pub highest_item_of : List TableItem → ℕ
highest_item_of items = fold (λ most i. max most (item_height i)) 0 items
