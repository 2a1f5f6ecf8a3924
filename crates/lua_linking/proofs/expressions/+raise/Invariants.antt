use Rattle.std.proofs.Common.{ℕ, ◌<◌, get_or}
use Rattle.lua_ast.specs.declared.expressions.Expr.{Expr}
use Rattle.lua_ast.specs.declared.expressions.TableItem.{TableItem}
use Rattle.lua_linking.specs.Raising.{RaisedExpr, RaisedItem}
use Rattle.lua_linking.proofs.expressions.+raise.Given as goal

abbrev pub invariant-raise_list-loop-i : goal.invariant-raise_list-loop-i
invariant-raise_list-loop-i l =
    goal.unvisited-raise_list-loop-i l
    × ((k : ℕ) (d : Expr) → k < l.i → RaisedExpr l.by (get_or l.initial.exprs.items k d) (get_or l.exprs.items k d))

abbrev pub invariant-raise_items-loop-i : goal.invariant-raise_items-loop-i
invariant-raise_items-loop-i l =
    goal.unvisited-raise_items-loop-i l
    × ((k : ℕ) (d : TableItem) → k < l.i → RaisedItem l.by (get_or l.initial.items.items k d) (get_or l.items.items k d))
