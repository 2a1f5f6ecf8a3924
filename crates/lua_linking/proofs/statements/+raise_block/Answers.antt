use Rattle.std.proofs.Common.{◌≡◌, ◌∙◌, length, OnOk, arith, rules, subst, sym}
use denote.Hole.Carrier.{out}
use Rattle.std.specs.List.{AllZip}
use Rattle.std.proofs.lemmas.Result.{on_ok_weaker}
use Rattle.lua_ast.specs.declared.statements.Arm.{out-Arm, roll-Arm}
use Rattle.lua_ast.specs.declared.statements.Arm as arm
use Rattle.lua_ast.specs.declared.statements.StmtKind as stmt
use Rattle.lua_linking.specs.Raising.{RaisedArm, RaisedExpr, RaisedStep, RaisedStmt}
use Rattle.lua_linking.proofs.After.{both, first, pair}
use Rattle.lua_linking.proofs.Lists.{zipped}
use Rattle.lua_linking.proofs.Nodes.{arm_raised, assign_raised, call_statement_raised, do_raised, generic_raised, if_raised, local_raised, numeric_raised}
use Rattle.lua_linking.proofs.Nodes.{repeat_raised, return_raised, while_raised}
use Rattle.std.proofs.lemmas.Grind.{common_steps}
use Rattle.lua_linking.proofs.statements.+raise_block.Goals as goal

pub raise_arms-returns : goal.raise_arms-returns
raise_arms-returns t c =
    let count : c.len-i-end.result ≡ length c.in-Some.arms.now.items = c.len-i-end.ensures ∙ c.in-Some.arms.now.ok.0 in
    subst (λ v. AllZip (RaisedArm c.args.by) v.items c.loop-i.arms.items) c.in-Some.ensures.value
    (zipped (RaisedArm c.args.by) c.in-Some.arms.now.items c.loop-i.arms.items (sym c.loop-i.invariant.0.0)
    (λ k d p. c.loop-i.invariant.1 k d (omega (arith, p, c.loop-i-test.false, count))))

pub raise_block-returns : goal.raise_block-returns
raise_block-returns t c =
    let count : c.len-i-end.result ≡ length c.in-Some.stmts.now.items = c.len-i-end.ensures ∙ c.in-Some.stmts.now.ok.0 in
    subst (λ v. AllZip (RaisedStmt c.args.by) v.items c.loop-i.stmts.items) c.in-Some.ensures.value
    (zipped (RaisedStmt c.args.by) c.in-Some.stmts.now.items c.loop-i.stmts.items (sym c.loop-i.invariant.0.0)
    (λ k d p. c.loop-i.invariant.1 k d (omega (arith, p, c.loop-i-test.false, count))))

pub raise_stmt_kind-returns-in-Local : goal.raise_stmt_kind-returns-in-Local
unfolding stmt.out-StmtKind out
raise_stmt_kind-returns-in-Local t c =
    let z : OnOk c.raise_list.result (AllZip (RaisedExpr c.args.by) c.in-Local.values.value.items c.raise_list.new.exprs.value.items) =
    search (rules, stmt.the_lemmas) in
    on_ok_weaker c.raise_list.result (λ h. rw c.in-Local.is (local_raised c.args.by c.in-Local.values c.raise_list.new.exprs h c.in-Local.field-0)) z

pub raise_stmt_kind-returns-in-Call : goal.raise_stmt_kind-returns-in-Call
unfolding stmt.out-StmtKind out
raise_stmt_kind-returns-in-Call t c =
    let z : OnOk c.raise_expr.result (RaisedExpr c.args.by c.in-Call.call c.raise_expr.new.expr) = search (rules, stmt.the_lemmas) in
    on_ok_weaker c.raise_expr.result (λ h. rw c.in-Call.is (call_statement_raised c.args.by c.in-Call.call c.raise_expr.new.expr h)) z

pub raise_stmt_kind-returns-in-Do : goal.raise_stmt_kind-returns-in-Do
unfolding stmt.out-StmtKind out
raise_stmt_kind-returns-in-Do t c =
    let z : OnOk c.raise_block.result (AllZip (RaisedStmt c.args.by) c.in-Do.body.value.items c.raise_block.new.block.value.items) =
    search (rules, stmt.the_lemmas) in
    on_ok_weaker c.raise_block.result (λ h. rw c.in-Do.is (do_raised c.args.by c.in-Do.body c.raise_block.new.block h)) z

pub raise_stmt_kind-returns-in-Repeat : goal.raise_stmt_kind-returns-in-Repeat
raise_stmt_kind-returns-in-Repeat t c =
    let p : OnOk c.raise_block-in-Repeat.result (AllZip (RaisedStmt c.args.by) c.in-Repeat.body.value.items c.raise_block-in-Repeat.new.block.value.items) = search (rules, stmt.the_lemmas) in
    let q : OnOk c.raise_after.result (RaisedExpr c.args.by c.in-Repeat.test.value c.raise_after.new.expr.value) = search (rules, stmt.the_lemmas) in
    on_ok_weaker c.raise_after.result (λ h. rw c.in-Repeat.is (repeat_raised c.args.by c.in-Repeat.body c.raise_block-in-Repeat.new.block h.0 c.in-Repeat.test c.raise_after.new.expr h.1))
    (both _ _ c.raise_block-in-Repeat.result c.raise_after.result c.raise_after.ensures.before p q)

pub raise_stmt_kind-returns-in-If : goal.raise_stmt_kind-returns-in-If
raise_stmt_kind-returns-in-If t c =
    let p : OnOk c.raise_arms.result (AllZip (RaisedArm c.args.by) c.in-If.arms.value.items c.raise_arms.new.arms.value.items) = search (rules, stmt.the_lemmas) in
    let q : OnOk c.raise_block_after.result (AllZip (RaisedStmt c.args.by) c.in-If.otherwise.value.items c.raise_block_after.new.block.value.items) = search (rules, stmt.the_lemmas) in
    on_ok_weaker c.raise_block_after.result (λ h. rw c.in-If.is (if_raised c.args.by c.in-If.otherwise c.raise_block_after.new.block h.1 c.in-If.arms c.raise_arms.new.arms h.0))
    (both _ _ c.raise_arms.result c.raise_block_after.result c.raise_block_after.ensures.before p q)

pub raise_stmt_kind-returns-in-Return : goal.raise_stmt_kind-returns-in-Return
unfolding stmt.out-StmtKind out
raise_stmt_kind-returns-in-Return t c =
    let z : OnOk c.raise_list-in-Return.result (AllZip (RaisedExpr c.args.by) c.in-Return.values.value.items c.raise_list-in-Return.new.exprs.value.items) =
    search (rules, stmt.the_lemmas) in
    on_ok_weaker c.raise_list-in-Return.result
    (λ h. rw c.in-Return.is (return_raised c.args.by c.in-Return.values c.raise_list-in-Return.new.exprs h)) z

pub raise_arm-returns : goal.raise_arm-returns
raise_arm-returns t c =
    let p : OnOk c.raise_expr.result (RaisedExpr c.args.by (out-Arm c.args.arm.now).test c.raise_expr.new.expr) = search (rules, arm.the_lemmas) in
    let q : OnOk c.raise_block_after.result (AllZip (RaisedStmt c.args.by) (out-Arm c.args.arm.now).body.value.items c.raise_block_after.new.block.value.items) =
    search (rules, arm.the_lemmas) in
    on_ok_weaker c.raise_block_after.result
    (λ h. let test = h.0 in let body = h.1 in arm_raised c.args.by c.args.arm.now _ (search (rules, arm.the_lemmas)) (search (rules, arm.the_lemmas)))
    (both _ _ c.raise_expr.result c.raise_block_after.result c.raise_block_after.ensures.before p q)

pub raise_stmt_kind-returns-in-Assign : goal.raise_stmt_kind-returns-in-Assign
raise_stmt_kind-returns-in-Assign t c =
    let p : OnOk c.raise_lists.result (AllZip (RaisedExpr c.args.by) c.in-Assign.targets.value.items c.raise_lists.new.targets.value.items) = search (rules, stmt.the_lemmas) in
    let q : OnOk c.raise_lists.result (AllZip (RaisedExpr c.args.by) c.in-Assign.values.value.items c.raise_lists.new.values.value.items) = search (rules, stmt.the_lemmas) in
    on_ok_weaker c.raise_lists.result
    (λ h. rw c.in-Assign.is (assign_raised c.args.by c.in-Assign.targets c.raise_lists.new.targets h.0 c.in-Assign.values c.raise_lists.new.values h.1))
    (pair _ _ c.raise_lists.result p q)

pub raise_stmt_kind-returns-in-While : goal.raise_stmt_kind-returns-in-While
raise_stmt_kind-returns-in-While t c =
    let p : OnOk c.raise_while.result (RaisedExpr c.args.by c.in-While.test.value c.raise_while.new.test.value) = search (rules, stmt.the_lemmas) in
    let q : OnOk c.raise_while.result (AllZip (RaisedStmt c.args.by) c.in-While.body.value.items c.raise_while.new.body.value.items) = search (rules, stmt.the_lemmas) in
    on_ok_weaker c.raise_while.result
    (λ h. rw c.in-While.is (while_raised c.args.by c.in-While.body c.raise_while.new.body h.1 c.in-While.test c.raise_while.new.test h.0))
    (pair _ _ c.raise_while.result p q)

pub raise_stmt_kind-returns-in-NumericFor : goal.raise_stmt_kind-returns-in-NumericFor
unfolding stmt.out-StmtKind out
raise_stmt_kind-returns-in-NumericFor t c =
    let from : OnOk c.raise_numeric.result (RaisedExpr c.args.by c.in-NumericFor.from.value c.raise_numeric.new.from.value) = search (rules, stmt.the_lemmas) in
    let to : OnOk c.raise_numeric.result (RaisedExpr c.args.by c.in-NumericFor.to.value c.raise_numeric.new.to.value) = search (rules, stmt.the_lemmas) in
    let step : OnOk c.raise_numeric.result (RaisedStep c.args.by c.in-NumericFor.step c.raise_numeric.new.step) = search (rules, stmt.the_lemmas) in
    let body : OnOk c.raise_numeric.result (AllZip (RaisedStmt c.args.by) c.in-NumericFor.body.value.items c.raise_numeric.new.body.value.items) =
    search (rules, stmt.the_lemmas) in
    on_ok_weaker c.raise_numeric.result
    (λ h. rw c.in-NumericFor.is (numeric_raised c.args.by c.in-NumericFor.body c.raise_numeric.new.body h.1.1.1 c.in-NumericFor.slot c.in-NumericFor.from c.in-NumericFor.to
    c.raise_numeric.new.from c.raise_numeric.new.to c.in-NumericFor.step c.raise_numeric.new.step h.0 h.1.0 h.1.1.0))
    (pair _ _ c.raise_numeric.result from (pair _ _ c.raise_numeric.result to (pair _ _ c.raise_numeric.result step body)))

pub raise_while-returns-clause-test : goal.raise_while-returns-clause-test
raise_while-returns-clause-test t c = first _ c.raise_shared.result c.raise_block_after.result c.raise_block_after.ensures.before c.raise_shared.ensures

pub raise_numeric-returns-clause-from : goal.raise_numeric-returns-clause-from
raise_numeric-returns-clause-from t c = first _ c.raise_range.result c.raise_block_after.result c.raise_block_after.ensures.before c.raise_range.ensures.from

pub raise_numeric-returns-clause-to : goal.raise_numeric-returns-clause-to
raise_numeric-returns-clause-to t c = first _ c.raise_range.result c.raise_block_after.result c.raise_block_after.ensures.before c.raise_range.ensures.to

pub raise_numeric-returns-clause-step : goal.raise_numeric-returns-clause-step
raise_numeric-returns-clause-step t c = first _ c.raise_range.result c.raise_block_after.result c.raise_block_after.ensures.before c.raise_range.ensures.step

pub raise_stmt_kind-returns-in-GenericFor : goal.raise_stmt_kind-returns-in-GenericFor
unfolding stmt.out-StmtKind out
raise_stmt_kind-returns-in-GenericFor t c =
    let p : OnOk c.raise_generic.result (AllZip (RaisedExpr c.args.by) c.in-GenericFor.values.value.items c.raise_generic.new.values.value.items) =
    search (rules, stmt.the_lemmas) in
    let q : OnOk c.raise_generic.result (AllZip (RaisedStmt c.args.by) c.in-GenericFor.body.value.items c.raise_generic.new.body.value.items) =
    search (rules, stmt.the_lemmas) in
    on_ok_weaker c.raise_generic.result
    (λ h. rw c.in-GenericFor.is (generic_raised c.args.by c.in-GenericFor.body c.raise_generic.new.body h.1 c.in-GenericFor.slots c.in-GenericFor.values
    c.raise_generic.new.values h.0))
    (pair _ _ c.raise_generic.result p q)

pub raise_generic-returns-clause-values : goal.raise_generic-returns-clause-values
raise_generic-returns-clause-values t c = first _ c.raise_list.result c.raise_block_after.result c.raise_block_after.ensures.before c.raise_list.ensures

pub raise_block-loop-i-preserved : goal.raise_block-loop-i-preserved
raise_block-loop-i-preserved t c = grind (arith, common_steps)

pub raise_arms-loop-i-preserved : goal.raise_arms-loop-i-preserved
raise_arms-loop-i-preserved t c = grind (arith, common_steps)
