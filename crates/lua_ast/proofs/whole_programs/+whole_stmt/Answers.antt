use Rattle.std.proofs.Common.{subst, refl, arith}
use Rattle.std.proofs.lemmas.List.Elements.{All-more}
use Rattle.lua_ast.specs.WholeProgram.{IsWholeStmt, IsWholeArm}
use Rattle.lua_ast.proofs.WholeLemmas.{finished}
use Rattle.lua_ast.proofs.BlockLemmas.{do_answer, while_answer, repeat_answer, if_answer, if_fails, numeric_answer, generic_answer, arm_answer, arm_fails}
use Rattle.lua_ast.proofs.whole_programs.+whole_stmt.Goals as goal

pub are_whole_arms-loop-arm-preserved : goal.are_whole_arms-loop-arm-preserved
are_whole_arms-loop-arm-preserved t c =
    let whole = IsWholeArm c.args.functions.now c.args.f.now in
    All-more whole c.args.arms.now c.loop-arm.arm-index c.arm-item.result (omega arith) c.loop-arm.invariant
    (subst whole c.arm-item.is (c.if-not-is_whole_arm.ensures.0 refl))

pub are_whole_arms-returns : goal.are_whole_arms-returns
are_whole_arms-returns t c =
    (λ _. finished (IsWholeArm c.args.functions.now c.args.f.now) c.args.arms.now c.loop-arm.arm-index (omega arith) c.loop-arm.invariant, λ _. refl)

pub is_whole_block-loop-stmt-preserved : goal.is_whole_block-loop-stmt-preserved
is_whole_block-loop-stmt-preserved t c =
    let whole = IsWholeStmt c.args.functions.now c.args.f.now in
    All-more whole c.args.block.now c.loop-stmt.stmt-index c.stmt-item.result (omega arith) c.loop-stmt.invariant
    (subst whole c.stmt-item.is (c.if-not-is_whole_stmt.ensures.0 refl))

pub is_whole_block-returns : goal.is_whole_block-returns
is_whole_block-returns t c =
    (λ _. finished (IsWholeStmt c.args.functions.now c.args.f.now) c.args.block.now c.loop-stmt.stmt-index (omega arith) c.loop-stmt.invariant, λ _. refl)

pub is_whole_stmt-returns-in-Do : goal.is_whole_stmt-returns-in-Do
is_whole_stmt-returns-in-Do t c =
    do_answer c.args.functions.now c.args.f.now c.args.stmt.now.kind c.in-Do.body c.deref-in-Do-2.result.now c.is_whole_block.result
    c.in-Do.is (cc) c.is_whole_block.ensures

pub is_whole_stmt-returns-then-is_whole_expr : goal.is_whole_stmt-returns-then-is_whole_expr
is_whole_stmt-returns-then-is_whole_expr t c =
    while_answer c.args.functions.now c.args.f.now c.args.stmt.now.kind c.in-While.test c.in-While.body c.deref-in-While.result.now
    c.deref-then-is_whole_expr-2.result.now c.is_whole_block-then-is_whole_expr.result
    c.in-While.is (cc) (c.if-is_whole_expr.ensures.0 refl) (cc) c.is_whole_block-then-is_whole_expr.ensures

pub is_whole_stmt-returns-then-is_whole_expr-2 : goal.is_whole_stmt-returns-then-is_whole_expr-2
is_whole_stmt-returns-then-is_whole_expr-2 t c =
    repeat_answer c.args.functions.now c.args.f.now c.args.stmt.now.kind c.in-Repeat.test c.in-Repeat.body c.deref-in-Repeat.result.now
    c.deref-then-is_whole_expr-2-3.result.now c.is_whole_block-then-is_whole_expr-2.result
    c.in-Repeat.is (cc) (c.if-is_whole_expr-2.ensures.0 refl) (cc) c.is_whole_block-then-is_whole_expr-2.ensures

pub is_whole_stmt-returns-then-are_whole_arms : goal.is_whole_stmt-returns-then-are_whole_arms
is_whole_stmt-returns-then-are_whole_arms t c =
    if_answer c.args.functions.now c.args.f.now c.args.stmt.now.kind c.in-If.arms c.in-If.otherwise c.deref-in-If-2.result.now
    c.deref-then-are_whole_arms-2.result.now c.is_whole_block-then-are_whole_arms.result
    c.in-If.is (cc) (c.if-are_whole_arms.ensures.0 refl) (cc) c.is_whole_block-then-are_whole_arms.ensures

pub is_whole_stmt-returns-else-are_whole_arms : goal.is_whole_stmt-returns-else-are_whole_arms
is_whole_stmt-returns-else-are_whole_arms t c =
    if_fails c.args.functions.now c.args.f.now c.args.stmt.now.kind c.in-If.arms c.in-If.otherwise c.deref-in-If-2.result.now c.are_whole_arms.result
    c.in-If.is (cc) c.if-are_whole_arms.false c.are_whole_arms.ensures

pub is_whole_stmt-returns-then-is_whole_range : goal.is_whole_stmt-returns-then-is_whole_range
is_whole_stmt-returns-then-is_whole_range t c =
    numeric_answer c.args.functions.now c.args.f.now c.args.stmt.now.kind c.in-NumericFor.slot c.in-NumericFor.from c.in-NumericFor.to c.in-NumericFor.step c.in-NumericFor.body
    c.deref-in-NumericFor.result.now c.deref-in-NumericFor-2.result.now c.deref-then-is_whole_range-2.result.now c.is_whole_block-then-is_whole_range.result
    c.in-NumericFor.is (cc) (cc) (c.if-is_whole_range.ensures.0 refl) (cc) c.is_whole_block-then-is_whole_range.ensures

pub is_whole_stmt-returns-then-are_whole_locals : goal.is_whole_stmt-returns-then-are_whole_locals
is_whole_stmt-returns-then-are_whole_locals t c =
    generic_answer c.args.functions.now c.args.f.now c.args.stmt.now.kind c.in-GenericFor.slots c.in-GenericFor.values c.in-GenericFor.body
    c.deref-in-GenericFor-2.result.now c.deref-in-GenericFor-4.result.now c.deref-then-are_whole_locals-2.result.now c.is_whole_block-then-are_whole_locals.result
    c.in-GenericFor.is (cc) (cc) (c.if-are_whole_locals.ensures.0 refl) (cc) c.is_whole_block-then-are_whole_locals.ensures

pub is_whole_arm-returns-then-is_whole_expr : goal.is_whole_arm-returns-then-is_whole_expr
is_whole_arm-returns-then-is_whole_expr t c =
    arm_answer c.args.functions.now c.args.f.now c.args.arm.now c.deref-then-is_whole_expr.result.now c.is_whole_block.result
    (c.if-is_whole_expr.ensures.0 refl) (cc) c.is_whole_block.ensures

pub is_whole_arm-returns-else-is_whole_expr : goal.is_whole_arm-returns-else-is_whole_expr
is_whole_arm-returns-else-is_whole_expr t c =
    arm_fails c.args.functions.now c.args.f.now c.args.arm.now c.is_whole_expr.result c.if-is_whole_expr.false c.is_whole_expr.ensures
