use Rattle.std.proofs.Common.{arith, refl}
use Rattle.std.specs.Prelude.{flat_map}
use Rattle.std.proofs.lemmas.Grind.{common_steps}
use Rattle.std.proofs.lemmas.List.{append-nil}
use Rattle.lua_linking.specs.Mentions.{head_mentions, mentions_in, mentions_in_stmt, stmt_mentions}
use Rattle.lua_linking.proofs.Noted.{arm_noted, head_noted, one, repeat_noted, two}
use Rattle.lua_linking.proofs.Rows.{blank_is, headed_is, if_is, list_is, plain_is}
use Rattle.lua_linking.proofs.named_statements.+statement.Goals as goal

pub mentions_in_arm-returns : goal.mentions_in_arm-returns
mentions_in_arm-returns t c =
    arm_noted c.mentions_in.result c.block_after.result _ _ _ c.block_after.ensures.before c.args.arm.now c.mentions_in.ensures c.block_after.ensures.notes

pub mentions_in_arms-loop-arm-preserved : goal.mentions_in_arms-loop-arm-preserved
mentions_in_arms-loop-arm-preserved t c = grind (arith, common_steps)

pub mentions_in_block-loop-stmt-preserved : goal.mentions_in_block-loop-stmt-preserved
mentions_in_block-loop-stmt-preserved t c = grind (arith, common_steps)

pub mentions_in_head-returns-in-LocalFunction : goal.mentions_in_head-returns-in-LocalFunction
mentions_in_head-returns-in-LocalFunction t c = head_noted c.mention_function.result _ _ _ c.args.stmt.now.kind _ c.in-LocalFunction.is refl c.mention_function.ensures

pub mentions_in_head-returns-in-Assign : goal.mentions_in_head-returns-in-Assign
mentions_in_head-returns-in-Assign t c = head_noted c.mentions_in_lists.result _ _ _ c.args.stmt.now.kind _ c.in-Assign.is refl c.mentions_in_lists.ensures

pub mentions_in_head-returns-in-Call : goal.mentions_in_head-returns-in-Call
mentions_in_head-returns-in-Call t c = head_noted c.mentions_in.result _ _ _ c.args.stmt.now.kind _ c.in-Call.is refl c.mentions_in.ensures

pub mentions_in_head-returns-in-While : goal.mentions_in_head-returns-in-While
mentions_in_head-returns-in-While t c = head_noted c.mentions_in_shared.result _ _ _ c.args.stmt.now.kind _ c.in-While.is refl c.mentions_in_shared.ensures

pub mentions_in_head-returns-in-If : goal.mentions_in_head-returns-in-If
mentions_in_head-returns-in-If t c =
    head_noted c.mentions_in_choices.result _ _ _ c.args.stmt.now.kind _ c.in-If.is (if_is c.in-If.arms c.in-If.field-1) c.mentions_in_choices.ensures

pub mentions_in_head-returns-in-NumericFor : goal.mentions_in_head-returns-in-NumericFor
mentions_in_head-returns-in-NumericFor t c = head_noted c.mentions_in_range.result _ _ _ c.args.stmt.now.kind _ c.in-NumericFor.is refl c.mentions_in_range.ensures

pub mentions_in_head-returns-in-Local : goal.mentions_in_head-returns-in-Local
mentions_in_head-returns-in-Local t c =
    one c.mentions_in_list.result _ _ (flat_map mentions_in c.in-Local.values.value.items) (head_mentions c.args.stmt.now.kind)
    (list_is c.args.stmt.now.kind c.in-Local.values c.in-Local.is) c.mentions_in_list.ensures

pub mentions_in_head-returns-in-Do : goal.mentions_in_head-returns-in-Do
mentions_in_head-returns-in-Do t c = rw (blank_is c.args.stmt.now.kind c.in-Do.is, append-nil) refl

pub mentions_in_stmt-returns-in-Repeat : goal.mentions_in_stmt-returns-in-Repeat
mentions_in_stmt-returns-in-Repeat t c =
    repeat_noted c.mentions_in_head-head.result c.block_after.result c.mentions_after.result _ _ _ _ c.args.stmt.now.kind c.in-Repeat.body c.in-Repeat.test
    c.in-Repeat.is c.block_after.ensures.before c.mentions_after.ensures.before
    c.mentions_in_head-head.ensures c.block_after.ensures.notes c.mentions_after.ensures.notes

pub mentions_in_stmt-returns-in-Do : goal.mentions_in_stmt-returns-in-Do
mentions_in_stmt-returns-in-Do t c =
    two c.mentions_in_head-head.result c.block_after-in-Do.result _ _ _ c.block_after-in-Do.ensures.before (head_mentions c.args.stmt.now.kind)
    (flat_map mentions_in_stmt c.in-Do.body.value.items) (stmt_mentions c.args.stmt.now.kind) (headed_is c.args.stmt.now.kind c.in-Do.body c.in-Do.is)
    c.mentions_in_head-head.ensures c.block_after-in-Do.ensures.notes

pub mentions_in_stmt-returns-in-Local : goal.mentions_in_stmt-returns-in-Local
mentions_in_stmt-returns-in-Local t c =
    one c.mentions_in_head-head.result _ _ (head_mentions c.args.stmt.now.kind) (stmt_mentions c.args.stmt.now.kind)
    (plain_is c.args.stmt.now.kind c.in-Local.is) c.mentions_in_head-head.ensures
