use Rattle.std.proofs.Common.{List, [], ◌∙◌, ap, sym}
use Rattle.lua_values.specs.declared.values.Value.{Value}
use Rattle.lua_operators.specs.declared.faults.OperandFault.TheVariants as operand
use Rattle.lua_operators.specs.declared.types.LuaType.{LuaType}
use Rattle.lua_meaning.specs.Positions.{raise_operand}
use Rattle.lua_meaning.specs.Works.{ACall}
use Rattle.lua_meaning.specs.Evaluator.{do_work}
use Rattle.lua_meaning.specs.Nodes.{eval, callee_work}
use Rattle.lua_vm_functions.proofs.CalleeLemmas.{call_goes, call_spent, comes_to_none, comes_by_handler, fewer_left}
use Rattle.lua_vm_functions.proofs.callee.find_callee.Goals as goal

pub returns-then-not-count : goal.returns-then-not-count
returns-then-not-count c = λ S q rs. c.loop-function.invariant S q rs ∙ call_spent S c.loop-function.function c.loop-function.args.items q c.loop-function.store _ c.count.ensures.below c.if-not-count.true rs

pub returns-in-Closure : goal.returns-in-Closure
returns-in-Closure c = λ S q rs.
    c.loop-function.invariant S q rs ∙ call_goes S c.loop-function.function c.loop-function.args.items q c.loop-function.store _ _ c.count.ensures.counted c.count.ensures.below c.if-not-count.false rs
    ∙ ap (λ (f : Value). do_work (eval S) (callee_work S f c.loop-function.args.items q []) (record { store = c.count.new.self; resumes = rs })) c.in-Closure.is

pub returns-in-Native : goal.returns-in-Native
returns-in-Native c = λ S q rs.
    c.loop-function.invariant S q rs ∙ call_goes S c.loop-function.function c.loop-function.args.items q c.loop-function.store _ _ c.count.ensures.counted c.count.ensures.below c.if-not-count.false rs
    ∙ ap (λ (f : Value). do_work (eval S) (callee_work S f c.loop-function.args.items q []) (record { store = c.count.new.self; resumes = rs })) c.in-Native.is

pub returns-then-is_nil : goal.returns-then-is_nil
returns-then-is_nil c = λ S q rs.
    c.loop-function.invariant S q rs
    ∙ comes_to_none S c.loop-function.function _ c.loop-function.args.items q c.loop-function.store _ _ c.count.ensures.counted c.count.ensures.below c.if-not-count.false c.in_default.not-Closure c.in_default.not-Native c.in_ok-by-in_default.ensures (sym c.is_nil.ensures ∙ c.if-is_nil.true) rs
    ∙ ap (λ (t : LuaType). do_work (eval S) (raise_operand S q.around (operand.Call t) []) (record { store = c.count.new.self; resumes = rs })) (sym c.type_of.ensures)

pub loop-function-preserved : goal.loop-function-preserved
loop-function-preserved c = λ S q rs.
    c.loop-function.invariant S q rs
    ∙ comes_by_handler S c.loop-function.function _ c.loop-function.args.items q c.loop-function.store _ _ c.count.ensures.counted c.count.ensures.below c.if-not-count.false c.in_default.not-Closure c.in_default.not-Native c.in_ok-by-in_default.ensures (sym c.is_nil.ensures ∙ c.if-is_nil.false) rs
    ∙ ap (λ (vs : List Value). eval S (ACall c.in_ok-by-in_default.by vs) q [] (record { store = c.count.new.self; resumes = rs })) (sym c.in_ok-insert-in_default.ensures.items)

pub loop-function-smaller : goal.loop-function-smaller
loop-function-smaller c = fewer_left c.loop-function.store _ _ c.count.ensures.counted c.count.ensures.below c.if-not-count.false
