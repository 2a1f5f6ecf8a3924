use Rattle.std.proofs.Common.{subst, refl, arith}
use Rattle.std.proofs.lemmas.List.Elements.{All-more}
use Rattle.lua_ast.specs.WholeProgram.{IsWholeExpr, IsWholeItem}
use Rattle.lua_ast.proofs.WholeLemmas.{finished, table_answer, call_answer, method_answer}
use Rattle.lua_ast.proofs.whole_programs.+whole_expr.Goals as goal

pub are_whole_exprs-loop-expr-preserved : goal.are_whole_exprs-loop-expr-preserved
are_whole_exprs-loop-expr-preserved t c =
    let whole = IsWholeExpr c.args.functions.now c.args.f.now in
    All-more whole c.args.exprs.now c.loop-expr.expr-index c.expr-item.result (omega arith) c.loop-expr.invariant
    (subst whole c.expr-item.is (c.if-not-is_whole_expr.ensures.0 refl))

pub are_whole_exprs-returns : goal.are_whole_exprs-returns
are_whole_exprs-returns t c = (λ _. finished (IsWholeExpr c.args.functions.now c.args.f.now) c.args.exprs.now c.loop-expr.expr-index (omega arith) c.loop-expr.invariant, λ _. refl)

pub are_whole_items-returns : goal.are_whole_items-returns
are_whole_items-returns t c = (λ _. finished (IsWholeItem c.args.functions.now c.args.f.now) c.args.items.now c.loop-item.item-index (omega arith) c.loop-item.invariant, λ _. refl)

pub are_whole_items-loop-item-preserved : goal.are_whole_items-loop-item-preserved
are_whole_items-loop-item-preserved t c =
    let whole = IsWholeItem c.args.functions.now c.args.f.now in
    All-more whole c.args.items.now c.loop-item.item-index c.item-item.result (omega arith) c.loop-item.invariant
    (subst whole c.item-item.is (c.if-not-is_whole_item.ensures.0 refl))

pub is_whole_expr-returns-in-Table : goal.is_whole_expr-returns-in-Table
is_whole_expr-returns-in-Table t c =
    table_answer c.args.functions.now c.args.f.now c.args.expr.now.kind c.in-Table.items c.deref-in-Table-2.result.now c.are_whole_items.result
    c.in-Table.is (cc) c.are_whole_items.ensures

pub is_whole_expr-returns-then-is_whole_expr-5 : goal.is_whole_expr-returns-then-is_whole_expr-5
is_whole_expr-returns-then-is_whole_expr-5 t c =
    call_answer c.args.functions.now c.args.f.now c.args.expr.now.kind c.in-Call.callee c.in-Call.values c.deref-in-Call.result.now
    c.deref-then-is_whole_expr-5-2.result.now c.are_whole_exprs.result
    c.in-Call.is (cc) (c.if-is_whole_expr-5.ensures.0 refl) (cc) c.are_whole_exprs.ensures

pub is_whole_expr-returns-then-is_whole_expr-6 : goal.is_whole_expr-returns-then-is_whole_expr-6
is_whole_expr-returns-then-is_whole_expr-6 t c =
    method_answer c.args.functions.now c.args.f.now c.args.expr.now.kind c.in-Method.object c.in-Method.field-1 c.in-Method.values c.deref-in-Method.result.now
    c.deref-then-is_whole_expr-6-2.result.now c.are_whole_exprs-then-is_whole_expr-6.result
    c.in-Method.is (cc) (c.if-is_whole_expr-6.ensures.0 refl) (cc) c.are_whole_exprs-then-is_whole_expr-6.ensures
