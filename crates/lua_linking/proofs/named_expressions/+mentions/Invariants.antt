use Rattle.std.proofs.Common.{◌≡◌, ◌++◌, take}
use Rattle.std.specs.Prelude.{flat_map}
use Rattle.lua_linking.specs.Mentions.{mentions_in, mentions_in_item}
use Rattle.lua_linking.proofs.named_expressions.+mentions.Given as goal

abbrev pub invariant-mentions_in_each-loop-expr : goal.invariant-mentions_in_each-loop-expr
invariant-mentions_in_each-loop-expr l = l.mentions.items ≡ l.initial.mentions.items ++ flat_map mentions_in (take l.expr-index l.exprs)

abbrev pub invariant-mentions_in_items-loop-item : goal.invariant-mentions_in_items-loop-item
invariant-mentions_in_items-loop-item l = l.mentions.items ≡ l.initial.mentions.items ++ flat_map mentions_in_item (take l.item-index l.items)
