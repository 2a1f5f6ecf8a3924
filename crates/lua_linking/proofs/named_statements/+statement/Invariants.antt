use Rattle.std.proofs.Common.{◌≡◌, ◌++◌, take}
use Rattle.std.specs.Prelude.{flat_map}
use Rattle.lua_linking.specs.Mentions.{mentions_in_arm, mentions_in_stmt}
use Rattle.lua_linking.proofs.named_statements.+statement.Given as goal

abbrev pub invariant-mentions_in_block-loop-stmt : goal.invariant-mentions_in_block-loop-stmt
invariant-mentions_in_block-loop-stmt l = l.mentions.items ≡ l.initial.mentions.items ++ flat_map mentions_in_stmt (take l.stmt-index l.block)

abbrev pub invariant-mentions_in_arms-loop-arm : goal.invariant-mentions_in_arms-loop-arm
invariant-mentions_in_arms-loop-arm l = l.mentions.items ≡ l.initial.mentions.items ++ flat_map mentions_in_arm (take l.arm-index l.arms)
