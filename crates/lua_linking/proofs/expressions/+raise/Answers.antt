use Rattle.std.proofs.Common.{◌≡◌, ◌∙◌, length, OnOk, arith, refl, rules, subst, sym}
use denote.Hole.Carrier.{out}
use Rattle.std.specs.List.{AllZip}
use Rattle.std.proofs.lemmas.Result.{on_ok_weaker}
use Rattle.lua_ast.specs.declared.expressions.ExprKind as kind
use Rattle.lua_linking.specs.Raising.{RaisedExpr, RaisedItem, RaisedKind}
use Rattle.lua_linking.proofs.After.{both}
use Rattle.lua_linking.proofs.Leaves.{leaf}
use Rattle.lua_linking.proofs.Lists.{zipped}
use Rattle.lua_linking.proofs.Nodes.{index_raised, binary_raised, and_raised, or_raised, unary_raised, paren_raised, call_raised, method_raised, table_raised}
use Rattle.std.proofs.lemmas.Grind.{common_steps}
use Rattle.lua_linking.proofs.expressions.+raise.Goals as goal

pub raise_kind-returns-in-Index : goal.raise_kind-returns-in-Index
raise_kind-returns-in-Index t c =
    let p : OnOk c.raise_shared.result (RaisedExpr c.args.by c.in-Index.a.value c.raise_shared.new.expr.value) = search (rules, kind.the_lemmas) in
    let q : OnOk c.raise_after.result (RaisedExpr c.args.by c.in-Index.b.value c.raise_after.new.expr.value) = search (rules, kind.the_lemmas) in
    on_ok_weaker c.raise_after.result (λ h. rw c.in-Index.is (index_raised c.args.by c.in-Index.a c.raise_shared.new.expr h.0 c.in-Index.b c.raise_after.new.expr h.1))
    (both _ _ c.raise_shared.result c.raise_after.result c.raise_after.ensures.before p q)

pub raise_kind-returns-in-Binary : goal.raise_kind-returns-in-Binary
unfolding kind.out-ExprKind out
raise_kind-returns-in-Binary t c =
    let p : OnOk c.raise_shared-in-Binary.result (RaisedExpr c.args.by c.in-Binary.a.value c.raise_shared-in-Binary.new.expr.value) = search (rules, kind.the_lemmas) in
    let q : OnOk c.raise_after-in-Binary.result (RaisedExpr c.args.by c.in-Binary.b.value c.raise_after-in-Binary.new.expr.value) = search (rules, kind.the_lemmas) in
    on_ok_weaker c.raise_after-in-Binary.result (λ h. rw c.in-Binary.is (binary_raised c.args.by c.in-Binary.a c.raise_shared-in-Binary.new.expr h.0 c.in-Binary.field-0 c.in-Binary.b c.raise_after-in-Binary.new.expr h.1))
    (both _ _ c.raise_shared-in-Binary.result c.raise_after-in-Binary.result c.raise_after-in-Binary.ensures.before p q)

pub raise_kind-returns-in-And : goal.raise_kind-returns-in-And
raise_kind-returns-in-And t c =
    let p : OnOk c.raise_shared-in-And.result (RaisedExpr c.args.by c.in-And.a.value c.raise_shared-in-And.new.expr.value) = search (rules, kind.the_lemmas) in
    let q : OnOk c.raise_after-in-And.result (RaisedExpr c.args.by c.in-And.b.value c.raise_after-in-And.new.expr.value) = search (rules, kind.the_lemmas) in
    on_ok_weaker c.raise_after-in-And.result (λ h. rw c.in-And.is (and_raised c.args.by c.in-And.a c.raise_shared-in-And.new.expr h.0 c.in-And.b c.raise_after-in-And.new.expr h.1))
    (both _ _ c.raise_shared-in-And.result c.raise_after-in-And.result c.raise_after-in-And.ensures.before p q)

pub raise_kind-returns-in-Or : goal.raise_kind-returns-in-Or
raise_kind-returns-in-Or t c =
    let p : OnOk c.raise_shared-in-Or.result (RaisedExpr c.args.by c.in-Or.a.value c.raise_shared-in-Or.new.expr.value) = search (rules, kind.the_lemmas) in
    let q : OnOk c.raise_after-in-Or.result (RaisedExpr c.args.by c.in-Or.b.value c.raise_after-in-Or.new.expr.value) = search (rules, kind.the_lemmas) in
    on_ok_weaker c.raise_after-in-Or.result (λ h. rw c.in-Or.is (or_raised c.args.by c.in-Or.a c.raise_shared-in-Or.new.expr h.0 c.in-Or.b c.raise_after-in-Or.new.expr h.1))
    (both _ _ c.raise_shared-in-Or.result c.raise_after-in-Or.result c.raise_after-in-Or.ensures.before p q)

pub raise_kind-returns-in-Call : goal.raise_kind-returns-in-Call
raise_kind-returns-in-Call t c =
    let p : OnOk c.raise_shared-in-Call.result (RaisedExpr c.args.by c.in-Call.callee.value c.raise_shared-in-Call.new.expr.value) = search (rules, kind.the_lemmas) in
    let q : OnOk c.raise_list_after.result (AllZip (RaisedExpr c.args.by) c.in-Call.values.value.items c.raise_list_after.new.exprs.value.items) = search (rules, kind.the_lemmas) in
    on_ok_weaker c.raise_list_after.result (λ h. rw c.in-Call.is (call_raised c.args.by c.in-Call.callee c.raise_shared-in-Call.new.expr h.0 c.in-Call.values c.raise_list_after.new.exprs h.1))
    (both _ _ c.raise_shared-in-Call.result c.raise_list_after.result c.raise_list_after.ensures.before p q)

pub raise_kind-returns-in-Method : goal.raise_kind-returns-in-Method
unfolding kind.out-ExprKind out
raise_kind-returns-in-Method t c =
    let p : OnOk c.raise_shared-in-Method.result (RaisedExpr c.args.by c.in-Method.object.value c.raise_shared-in-Method.new.expr.value) = search (rules, kind.the_lemmas) in
    let q : OnOk c.raise_list_after-in-Method.result (AllZip (RaisedExpr c.args.by) c.in-Method.values.value.items c.raise_list_after-in-Method.new.exprs.value.items) = search (rules, kind.the_lemmas) in
    on_ok_weaker c.raise_list_after-in-Method.result (λ h. rw c.in-Method.is (method_raised c.args.by c.in-Method.object c.raise_shared-in-Method.new.expr h.0 c.in-Method.field-1 c.in-Method.values c.raise_list_after-in-Method.new.exprs h.1))
    (both _ _ c.raise_shared-in-Method.result c.raise_list_after-in-Method.result c.raise_list_after-in-Method.ensures.before p q)

pub raise_kind-returns-in-Unary : goal.raise_kind-returns-in-Unary
unfolding kind.out-ExprKind out
raise_kind-returns-in-Unary t c =
    let q : OnOk c.raise_shared-in-Unary.result (RaisedExpr c.args.by c.in-Unary.operand.value c.raise_shared-in-Unary.new.expr.value) =
    search (rules, kind.the_lemmas) in
    on_ok_weaker c.raise_shared-in-Unary.result
    (λ h. rw c.in-Unary.is (unary_raised c.args.by c.in-Unary.operand c.raise_shared-in-Unary.new.expr h c.in-Unary.field-0)) q

pub raise_kind-returns-in-Paren : goal.raise_kind-returns-in-Paren
unfolding kind.out-ExprKind out
raise_kind-returns-in-Paren t c =
    let q : OnOk c.raise_shared-in-Paren.result (RaisedExpr c.args.by c.in-Paren.inner.value c.raise_shared-in-Paren.new.expr.value) =
    search (rules, kind.the_lemmas) in
    on_ok_weaker c.raise_shared-in-Paren.result (λ h. rw c.in-Paren.is (paren_raised c.args.by c.in-Paren.inner c.raise_shared-in-Paren.new.expr h)) q

pub raise_kind-returns-in-Table : goal.raise_kind-returns-in-Table
unfolding kind.out-ExprKind out
raise_kind-returns-in-Table t c =
    let q : OnOk c.raise_items.result (AllZip (RaisedItem c.args.by) c.in-Table.items.value.items c.raise_items.new.items.value.items) =
    search (rules, kind.the_lemmas) in
    on_ok_weaker c.raise_items.result (λ h. rw c.in-Table.is (table_raised c.args.by c.in-Table.items c.raise_items.new.items h)) q

pub raise_kind-returns-in_default : goal.raise_kind-returns-in_default
raise_kind-returns-in_default t c =
    leaf (λ k. RaisedKind c.args.by k k) refl refl refl (λ n. refl) (λ t. refl) refl (λ n. refl) (λ n. refl) (λ name. refl) c.args.kind.now
    c.in_default.not-Function c.in_default.not-Index c.in_default.not-Call c.in_default.not-Method c.in_default.not-Unary c.in_default.not-Binary c.in_default.not-And c.in_default.not-Or c.in_default.not-Paren c.in_default.not-Table

pub raise_item-returns-in-Item : goal.raise_item-returns-in-Item
raise_item-returns-in-Item t c = on_ok_weaker c.raise_expr.result (λ h. rw c.in-Item.is (c.raise_expr.new.expr, refl, h)) c.raise_expr.ensures

pub raise_item-returns-in_ok-raise_expr-in-Pair : goal.raise_item-returns-in_ok-raise_expr-in-Pair
raise_item-returns-in_ok-raise_expr-in-Pair t c =
    on_ok_weaker c.raise_expr-in-Pair-2.result
    (λ h. rw c.in-Pair.is (c.raise_expr-in-Pair.new.expr, c.raise_expr-in-Pair-2.new.expr, refl, c.in_ok-raise_expr-in-Pair.ensures, h))
    c.raise_expr-in-Pair-2.ensures

pub raise_items-returns : goal.raise_items-returns
raise_items-returns t c =
    let count : c.len-i-end.result ≡ length c.in-Some.items.now.items = c.len-i-end.ensures ∙ c.in-Some.items.now.ok.0 in
    subst (λ v. AllZip (RaisedItem c.args.by) v.items c.loop-i.items.items) c.in-Some.ensures.value
    (zipped (RaisedItem c.args.by) c.in-Some.items.now.items c.loop-i.items.items (sym c.loop-i.invariant.0.0)
    (λ k d p. c.loop-i.invariant.1 k d (omega (arith, p, c.loop-i-test.false, count))))

pub raise_list-returns : goal.raise_list-returns
raise_list-returns t c =
    let count : c.len-i-end.result ≡ length c.in-Some.exprs.now.items = c.len-i-end.ensures ∙ c.in-Some.exprs.now.ok.0 in
    subst (λ v. AllZip (RaisedExpr c.args.by) v.items c.loop-i.exprs.items) c.in-Some.ensures.value
    (zipped (RaisedExpr c.args.by) c.in-Some.exprs.now.items c.loop-i.exprs.items (sym c.loop-i.invariant.0.0)
    (λ k d p. c.loop-i.invariant.1 k d (omega (arith, p, c.loop-i-test.false, count))))

pub raise_list-loop-i-preserved : goal.raise_list-loop-i-preserved
raise_list-loop-i-preserved t c = grind (arith, common_steps)

pub raise_items-loop-i-preserved : goal.raise_items-loop-i-preserved
raise_items-loop-i-preserved t c = grind (arith, common_steps)
