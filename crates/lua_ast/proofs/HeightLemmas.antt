-- The rows of a tree as lists.
use Rattle.std.proofs.Common.{◌≡◌, ℕ, max, fold, arith, ◌∙◌}
use Rattle.lua_ast.specs.declared.expressions.ExprKind as kind
use Rattle.lua_ast.specs.Height.{kind_height, row_height, items_height, item_height, height_of, highest_of, highest_item_of}

row_from : {m : _} (a : ℕ) (r : kind.Row_of-Expr m) →
    fold (λ most e. max most (height_of e)) a (kind.items-the_row-Expr _ r) ≡ max a (row_height r)
row_from a kind.end_of-Expr = grind arith
row_from a (kind.more_of-Expr l k row) = row_from (max a (kind_height k)) row ∙ grind arith

items_from : {m : _} (a : ℕ) (r : kind.Row_of-TableItem m) →
    fold (λ most i. max most (item_height i)) a (kind.items-the_row-TableItem _ r) ≡ max a (items_height r)
items_from a kind.end_of-TableItem = grind arith
items_from a (kind.more_of-TableItem i row) = items_from (max a (item_height i)) row ∙ grind arith

pub row_is : {m : _} (r : kind.Row_of-Expr m) → row_height r ≡ highest_of (kind.items-the_row-Expr _ r)
row_is r = grind (arith, row_from 0 r)

pub items_is : {m : _} (r : kind.Row_of-TableItem m) → items_height r ≡ highest_item_of (kind.items-the_row-TableItem _ r)
items_is r = grind (arith, items_from 0 r)
