use Rattle.std.proofs.Common.{◌≡◌, [], arith, refl}
use Rattle.std.proofs.lemmas.List.{append-nil}
use Rattle.lua_linking.specs.Mentions.{kind_mentions}
use Rattle.lua_linking.proofs.Leaves.{leaf}
use Rattle.lua_linking.proofs.Noted.{call_noted, method_noted, operand_noted, pair_noted, table_noted}
use Rattle.std.proofs.lemmas.Grind.{common_steps}
use Rattle.lua_linking.proofs.named_expressions.+mentions.Goals as goal

pub mentions_in-returns-in-Index : goal.mentions_in-returns-in-Index
mentions_in-returns-in-Index t c =
    pair_noted c.mentions_in_shared-in-Index.result c.mentions_after.result _ _ _ c.mentions_after.ensures.before c.args.expr.now.kind c.in-Index.a c.in-Index.b c.in-Index.is
    c.mentions_in_shared-in-Index.ensures c.mentions_after.ensures.notes

pub mentions_in-returns-in-Unary : goal.mentions_in-returns-in-Unary
mentions_in-returns-in-Unary t c =
    operand_noted c.mentions_in_shared-in-Unary.result _ _ c.args.expr.now.kind c.in-Unary.operand c.in-Unary.is c.mentions_in_shared-in-Unary.ensures

pub mentions_in-returns-in_default : goal.mentions_in-returns-in_default
mentions_in-returns-in_default t c =
    let none : kind_mentions c.args.expr.now.kind ≡ [] = leaf (λ k. kind_mentions k ≡ []) refl refl refl (λ n. refl) (λ t. refl) refl (λ n. refl) (λ n. refl) (λ name. refl) c.args.expr.now.kind
    c.in_default.not-Function c.in_default.not-Index c.in_default.not-Call c.in_default.not-Method c.in_default.not-Unary c.in_default.not-Binary c.in_default.not-And c.in_default.not-Or c.in_default.not-Paren c.in_default.not-Table in
    rw (none, append-nil) refl

pub mentions_in-returns-in-Call : goal.mentions_in-returns-in-Call
mentions_in-returns-in-Call t c =
    call_noted c.mention_call-done.result c.mentions_after-done.result c.each_after.result _ _ _ _ c.args.expr.now.kind c.in-Call.callee c.in-Call.values
    c.in-Call.is c.mentions_after-done.ensures.before c.each_after.ensures.before
    c.mention_call-done.ensures c.mentions_after-done.ensures.notes c.each_after.ensures.notes

pub mentions_in-returns-in-Method : goal.mentions_in-returns-in-Method
mentions_in-returns-in-Method t c =
    method_noted c.mentions_in_shared.result c.each_after-in-Method.result _ _ _ c.each_after-in-Method.ensures.before c.args.expr.now.kind c.in-Method.object c.in-Method.field-1
    c.in-Method.values c.in-Method.is c.mentions_in_shared.ensures c.each_after-in-Method.ensures.notes

pub mentions_in_each-loop-expr-preserved : goal.mentions_in_each-loop-expr-preserved
mentions_in_each-loop-expr-preserved t c = grind (arith, common_steps)

pub mentions_in_items-loop-item-preserved : goal.mentions_in_items-loop-item-preserved
mentions_in_items-loop-item-preserved t c = grind (arith, common_steps)

pub mentions_in-returns-in-Table : goal.mentions_in-returns-in-Table
mentions_in-returns-in-Table t c = table_noted c.mentions_in_table.result _ _ c.args.expr.now.kind c.in-Table.items c.in-Table.is c.mentions_in_table.ensures
