use Rattle.std.proofs.Common.{◌≡◌, ◌^◌, ◌-◌, min, take}
use Rattle.lua_ast.specs.Height.{highest_of, highest_item_of}
use Rattle.lua_ast.proofs.heights.+height.Given as goal

abbrev pub invariant-highest-loop-expr : goal.invariant-highest-loop-expr
invariant-highest-loop-expr l = l.most ≡ min (highest_of (take l.expr-index l.exprs)) (2 ^ 32 - 1)

abbrev pub invariant-highest_item-loop-item : goal.invariant-highest_item-loop-item
invariant-highest_item-loop-item l = l.most ≡ min (highest_item_of (take l.item-index l.items)) (2 ^ 32 - 1)
