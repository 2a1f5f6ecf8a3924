use Rattle.std.proofs.Common.{◌∙◌, ap, sym, refl}
use Rattle.lua_operators.specs.declared.faults.OperandFault.TheVariants as operand
use Rattle.lua_operators.specs.declared.types.LuaType.{LuaType}
use Rattle.lua_meaning.specs.Evaluator.{do_work}
use Rattle.lua_meaning.specs.Positions.{callers_at, raise_operand}
use Rattle.lua_meaning.specs.Nodes.{eval}
use Rattle.lua_vm_functions.proofs.CalleeLemmas.{fewer_left}
use Rattle.lua_vm_tables.proofs.ChainLemmas.{found, gives_nil, unindexable, calls, goes_on, spends_steps}
use Rattle.lua_vm_tables.proofs.chains.find_value.Goals as goal

pub loop-value-init : goal.loop-value-init
loop-value-init c = λ S line p s rs. refl

pub returns-then-not-is_nil : goal.returns-then-not-is_nil
returns-then-not-is_nil c = λ S line p s rs.
    c.loop-value.invariant S line p s rs ∙ found S line c.loop-value.value c.args.key.now c.in_ok-found.found p s c.loop-value.store c.in_ok-found.ensures (sym c.is_nil.ensures ∙ c.if-not-is_nil.true) rs

pub returns-then-is_table : goal.returns-then-is_table
returns-then-is_table c = λ S line p s rs.
    c.loop-value.invariant S line p s rs
    ∙ gives_nil S line c.loop-value.value c.args.key.now c.in_ok-found.found c.in_ok-by.by p s c.loop-value.store c.in_ok-found.ensures (sym c.is_nil.ensures ∙ c.if-not-is_nil.false) c.in_ok-by.ensures (sym c.is_nil-in-loop-value.ensures ∙ c.if-is_nil.true) (sym c.is_table.ensures ∙ c.if-is_table.true) rs

pub returns-then-is_nil : goal.returns-then-is_nil
returns-then-is_nil c = λ S line p s rs.
    c.loop-value.invariant S line p s rs
    ∙ unindexable S line c.loop-value.value c.args.key.now c.in_ok-found.found c.in_ok-by.by p s c.loop-value.store c.in_ok-found.ensures (sym c.is_nil.ensures ∙ c.if-not-is_nil.false) c.in_ok-by.ensures (sym c.is_nil-in-loop-value.ensures ∙ c.if-is_nil.true) (sym c.is_table.ensures ∙ c.if-is_table.false) rs
    ∙ ap (λ (t : LuaType). do_work (eval S) (raise_operand S (callers_at p line) (operand.Index t) s) (record { store = c.loop-value.store; resumes = rs })) (sym c.type_of.ensures)

pub returns-then-is_function : goal.returns-then-is_function
returns-then-is_function c = λ S line p s rs.
    c.loop-value.invariant S line p s rs
    ∙ calls S line c.loop-value.value c.args.key.now c.in_ok-found.found c.in_ok-by.by p s c.loop-value.store c.in_ok-found.ensures (sym c.is_nil.ensures ∙ c.if-not-is_nil.false) c.in_ok-by.ensures (sym c.is_nil-in-loop-value.ensures ∙ c.if-is_nil.false) (sym c.is_function.ensures ∙ c.if-is_function.true) rs

pub returns-then-not-count : goal.returns-then-not-count
returns-then-not-count c = λ S line p s rs.
    c.loop-value.invariant S line p s rs
    ∙ spends_steps S line c.loop-value.value c.args.key.now c.in_ok-found.found c.in_ok-by.by p s c.loop-value.store c.count.result c.in_ok-found.ensures (sym c.is_nil.ensures ∙ c.if-not-is_nil.false) c.in_ok-by.ensures (sym c.is_nil-in-loop-value.ensures ∙ c.if-is_nil.false) (sym c.is_function.ensures ∙ c.if-is_function.false) c.count.ensures.below c.if-not-count.true rs

pub loop-value-preserved : goal.loop-value-preserved
loop-value-preserved c = λ S line p s rs.
    c.loop-value.invariant S line p s rs
    ∙ goes_on S line c.loop-value.value c.args.key.now c.in_ok-found.found c.in_ok-by.by p s c.loop-value.store c.count.new.self c.count.result
    c.in_ok-found.ensures (sym c.is_nil.ensures ∙ c.if-not-is_nil.false) c.in_ok-by.ensures (sym c.is_nil-in-loop-value.ensures ∙ c.if-is_nil.false) (sym c.is_function.ensures ∙ c.if-is_function.false) c.count.ensures.counted c.count.ensures.below c.if-not-count.false rs

pub loop-value-smaller : goal.loop-value-smaller
loop-value-smaller c = fewer_left c.loop-value.store c.count.new.self c.count.result c.count.ensures.counted c.count.ensures.below c.if-not-count.false
