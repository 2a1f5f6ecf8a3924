-- The work with which a frame goes on asks nothing of the outside before it evaluates a node: only a call asks.
use Rattle.std.specs.Prelude.{ℕ, ◌+◌, List, [], ◌∷◌, ◌++◌, reverse, length, pos, slice_get, Bool, true, false, if◌then◌else◌, Option, Some, None}
use Rattle.lua_ast.specs.declared.expressions.Expr.{Expr}
use Rattle.lua_ast.specs.declared.expressions.BinOp.{BinOp}
use Rattle.lua_ast.specs.declared.expressions.BinOp.TheVariants as binary
use Rattle.lua_ast.specs.declared.expressions.UnOp.{UnOp}
use Rattle.lua_ast.specs.declared.expressions.UnOp.TheVariants as unary
use Rattle.lua_numbers.specs.Arithmetic.{within_range}
use Rattle.lua_values.specs.declared.values.Value.{Value}
use Rattle.lua_values.specs.declared.values.Value.TheVariants as value
use Rattle.lua_values.specs.declared.faults.StoreFault.{StoreFault}
use Rattle.lua_values.specs.Values.{is_nil, number}
use Rattle.lua_values.specs.Heap.{Heap}
use Rattle.lua_values.specs.StoreCalls.{full_cause, frozen_cause, set_cause, with_pair, with_cell_value}
use Rattle.lua_operators.specs.declared.arithmetic.ArithmeticOperator.{ArithmeticOperator}
use Rattle.lua_operators.specs.declared.arithmetic.ArithmeticOperator.TheVariants.{Add, Sub, Mul, Div, Mod, Pow}
use Rattle.lua_operators.specs.declared.comparison.ComparisonOperator.{ComparisonOperator}
use Rattle.lua_operators.specs.declared.comparison.ComparisonOperator.TheVariants.{Less, LessOrEqual}
use Rattle.lua_operators.specs.declared.events.Event.TheVariants.{Unm, Concat, Eq, Lt, Le, Index, NewIndex}
use Rattle.lua_operators.specs.declared.faults.Fault.{Fault}
use Rattle.lua_operators.specs.declared.faults.OperandFault.{OperandFault}
use Rattle.lua_operators.specs.declared.faults.OperandFault.TheVariants as operand
use Rattle.lua_operators.specs.declared.outcome.Outcome.{Outcome}
use Rattle.lua_operators.specs.declared.outcome.Outcome.TheVariants.{Gives, NeedsEvent, Faults}
use Rattle.lua_operators.specs.ArithmeticOperators.{event_of}
use Rattle.lua_operators.specs.Arithmetic.{computed, negated, outcome_of}
use Rattle.lua_operators.specs.Comparison.{compared, equality}
use Rattle.lua_operators.specs.Concatenation.{concatenated}
use Rattle.lua_operators.specs.OperandFaults.{arithmetic_fault, comparison_fault, concatenation_fault}
use Rattle.lua_operators.specs.Types.{type_of}
use Rattle.lua_meaning.specs.declared.slots.Slot.{Slot}
use Rattle.lua_meaning.specs.declared.slots.Slot.TheVariants.{Plain, Shared}
use Rattle.lua_meaning.specs.Works.{Caller, Places, Slots, AnIndex, AStore, Sign, Values, Return, Break, Failed, Work, End, Eval, Outside, Look, Write, Count, and_then}
use Rattle.lua_meaning.specs.Setting.{Setting}
use Rattle.lua_meaning.specs.Positions.{callers_at, raise_operand}
use Rattle.lua_meaning.specs.Signs.{give, give_one, on_values, more, values_of}
use Rattle.lua_meaning.specs.Variables.{table_fault, variable_fault, unless_refused, write_cell, write_slot}
use Rattle.lua_meaning.specs.Calls.{call, tail_call, call_for_one}
use Rattle.lua_meaning.specs.Metatables.{handler, handler_of_two, handler_of_both, is_function}
use Rattle.lua_meaning.specs.Arithmetic.{handled, outcome_work, arithmetic_work}
use Rattle.lua_meaning.specs.Comparison.{count_texts, give_truth, call_for_truth, truth_work, equality_work, compared_by_handler, comparison_work}
use Rattle.lua_meaning.specs.Concatenation.{text_length, with_text, joined, concatenation_work}
use Rattle.lua_meaning.specs.Operators.{length_work, unary_work, binary_work}
use Rattle.lua_meaning.specs.Indexing.{raw_value, is_table, index_by, index_without, index_work, set_raw, store_by, store_work}
use Rattle.lua_meaning.specs.Expressions.{call_work}
use Rattle.lua_meaning.specs.Assignments.{Target, InSlot, InCapture, AtKey, Nowhere, assigned, assign_to, assign_all}
use Rattle.lua_meaning.specs.Statements.{tail_work}
use Rattle.lua_frames.specs.Items.{assign_values}
use Rattle.lua_threads.proofs.StepsRise.{IsQuiet}

pub then-quiet : (q : Work) (next : Sign → Slots → Work) → IsQuiet q → ((sign : Sign) (s : Slots) → IsQuiet (next sign s)) → IsQuiet (and_then q next)
then-quiet (End sign s) next u v = v sign s
then-quiet (Eval n p s go) next u v = tt
then-quiet (Outside number args position go) next u v = absurd u
then-quiet (Look go) next u v = λ h. then-quiet (go h) next (u h) v
then-quiet (Write h go) next u v = then-quiet go next u v
then-quiet (Count n go) next u v = then-quiet go next u v

pub on-quiet : (go : List Value → Slots → Work) (sign : Sign) (s : Slots) → ((vs : List Value) (s' : Slots) → IsQuiet (go vs s')) → IsQuiet (on_values go sign s)
on-quiet go (Values vs) s u = u vs s
on-quiet go (Return vs) s u = tt
on-quiet go Break s u = tt
on-quiet go (Failed v) s u = tt

pub either : (t : Bool) (a b : Work) → IsQuiet a → IsQuiet b → IsQuiet (if t then a else b)
either true a b u v = u
either false a b u v = v

pub refused-quiet : (S : Setting) (callers : List Caller) (fault : StoreFault → Fault) (cause : Option StoreFault) (s : Slots) (go : Work) → IsQuiet go → IsQuiet (unless_refused S callers fault cause s go)
refused-quiet S callers fault (Some cause) s go u = tt
refused-quiet S callers fault None s go u = u

outcome-quiet : (S : Setting) (callers : List Caller) (o : Outcome) (s : Slots) (event : Work) → IsQuiet event → IsQuiet (outcome_work S callers o s event)
outcome-quiet S callers (Gives v) s event u = tt
outcome-quiet S callers NeedsEvent s event u = u
outcome-quiet S callers (Faults fault) s event u = tt

handled-quiet : (S : Setting) (callers : List Caller) (by : Value) (operands : List Value) (fault : OperandFault) (s : Slots) → IsQuiet (handled S callers by operands fault s)
handled-quiet S callers by operands fault s = either (is_nil by) (raise_operand S callers fault s) (call_for_one callers by operands s give_one) tt tt

arithmetic-quiet : (S : Setting) (callers : List Caller) (operator : ArithmeticOperator) (a b : Value) (s : Slots) → IsQuiet (arithmetic_work S callers operator a b s)
arithmetic-quiet S callers operator a b s =
    outcome-quiet S callers (computed operator a b) s (Look (λ h. handled S callers (handler_of_two h a b (event_of operator)) (a ∷ b ∷ []) (arithmetic_fault a b) s))
    (λ h. handled-quiet S callers (handler_of_two h a b (event_of operator)) (a ∷ b ∷ []) (arithmetic_fault a b) s)

counts-quiet : (a b : Value) (go : Work) → IsQuiet go → IsQuiet (count_texts a b go)
counts-quiet value.Nil b go u = u
counts-quiet (value.Truth t) b go u = u
counts-quiet (value.Number n) b go u = u
counts-quiet (value.Text x) value.Nil go u = u
counts-quiet (value.Text x) (value.Truth t) go u = u
counts-quiet (value.Text x) (value.Number n) go u = u
counts-quiet (value.Text x) (value.Text y) go u = u
counts-quiet (value.Text x) (value.Table t) go u = u
counts-quiet (value.Text x) (value.Closure n) go u = u
counts-quiet (value.Text x) (value.Native n) go u = u
counts-quiet (value.Text x) (value.Thread n) go u = u
counts-quiet (value.Text x) value.Null go u = u
counts-quiet (value.Text x) (value.Object n m) go u = u
counts-quiet (value.Table t) b go u = u
counts-quiet (value.Closure n) b go u = u
counts-quiet (value.Native n) b go u = u
counts-quiet (value.Thread n) b go u = u
counts-quiet value.Null b go u = u
counts-quiet (value.Object n m) b go u = u

truth-quiet : (S : Setting) (callers : List Caller) (wanted : Bool) (o : Outcome) (s : Slots) (event : Work) → IsQuiet event → IsQuiet (truth_work S callers wanted o s event)
truth-quiet S callers wanted (Gives v) s event u = tt
truth-quiet S callers wanted NeedsEvent s event u = u
truth-quiet S callers wanted (Faults fault) s event u = tt

equality-quiet : (S : Setting) (callers : List Caller) (wanted : Bool) (a b : Value) (s : Slots) → IsQuiet (equality_work S callers wanted a b s)
equality-quiet S callers wanted a b s =
    counts-quiet a b (truth_work S callers wanted (equality a b) s (by_handler))
    (truth-quiet S callers wanted (equality a b) s by_handler
    (λ h. either (is_nil (handler_of_both h a b Eq)) (give_truth wanted false s) (call_for_truth callers (handler_of_both h a b Eq) a b wanted s) tt tt))
  where
    by_handler : Work
    by_handler = Look (λ h. if is_nil (handler_of_both h a b Eq) then give_truth wanted false s else call_for_truth callers (handler_of_both h a b Eq) a b wanted s)

by-quiet : (operator : ComparisonOperator) (S : Setting) (callers : List Caller) (h : Heap) (a b : Value) (s : Slots) → IsQuiet (compared_by_handler operator S callers h a b s)
by-quiet Less S callers h a b s =
    either (is_nil (handler_of_both h a b Lt)) (raise_operand S callers (comparison_fault a b) s) (call_for_truth callers (handler_of_both h a b Lt) a b true s) tt tt
by-quiet LessOrEqual S callers h a b s =
    either (is_nil (handler_of_both h a b Le))
    (if is_nil (handler_of_both h a b Lt) then raise_operand S callers (comparison_fault a b) s else call_for_truth callers (handler_of_both h a b Lt) b a false s)
    (call_for_truth callers (handler_of_both h a b Le) a b true s)
    (either (is_nil (handler_of_both h a b Lt)) (raise_operand S callers (comparison_fault a b) s) (call_for_truth callers (handler_of_both h a b Lt) b a false s) tt tt) tt

comparison-quiet : (S : Setting) (callers : List Caller) (operator : ComparisonOperator) (a b : Value) (s : Slots) → IsQuiet (comparison_work S callers operator a b s)
comparison-quiet S callers operator a b s =
    counts-quiet a b (outcome_work S callers (compared operator a b) s (Look (λ h. compared_by_handler operator S callers h a b s)))
    (outcome-quiet S callers (compared operator a b) s (Look (λ h. compared_by_handler operator S callers h a b s)) (λ h. by-quiet operator S callers h a b s))

joined-quiet : (S : Setting) (callers : List Caller) (taken : ℕ) (o : Outcome) (s : Slots) (event : Work) → IsQuiet event → IsQuiet (joined S callers taken o s event)
joined-quiet S callers taken (Gives v) s event u = λ h. refused-quiet S callers table_fault (full_cause h (text_length v + 16)) s (Write (with_text h (text_length v)) (give_one v s)) tt
joined-quiet S callers taken NeedsEvent s event u = u
joined-quiet S callers taken (Faults fault) s event u = tt

concatenation-quiet : (S : Setting) (callers : List Caller) (a b : Value) (s : Slots) → IsQuiet (concatenation_work S callers a b s)
concatenation-quiet S callers a b s =
    joined-quiet S callers (text_length a + text_length b) (concatenated a b) s (Look (λ h. handled S callers (handler_of_two h a b Concat) (a ∷ b ∷ []) (concatenation_fault a b) s))
    (λ h. handled-quiet S callers (handler_of_two h a b Concat) (a ∷ b ∷ []) (concatenation_fault a b) s)

pub binary-quiet : (S : Setting) (callers : List Caller) (o : BinOp) (a b : Value) (s : Slots) → IsQuiet (binary_work S callers o a b s)
binary-quiet S callers binary.Add a b s = arithmetic-quiet S callers Add a b s
binary-quiet S callers binary.Sub a b s = arithmetic-quiet S callers Sub a b s
binary-quiet S callers binary.Mul a b s = arithmetic-quiet S callers Mul a b s
binary-quiet S callers binary.Div a b s = arithmetic-quiet S callers Div a b s
binary-quiet S callers binary.Mod a b s = arithmetic-quiet S callers Mod a b s
binary-quiet S callers binary.Pow a b s = arithmetic-quiet S callers Pow a b s
binary-quiet S callers binary.Concat a b s = concatenation-quiet S callers a b s
binary-quiet S callers binary.Eq a b s = equality-quiet S callers true a b s
binary-quiet S callers binary.Ne a b s = equality-quiet S callers false a b s
binary-quiet S callers binary.Lt a b s = comparison-quiet S callers Less a b s
binary-quiet S callers binary.Le a b s = comparison-quiet S callers LessOrEqual a b s
binary-quiet S callers binary.Gt a b s = comparison-quiet S callers Less b a s
binary-quiet S callers binary.Ge a b s = comparison-quiet S callers LessOrEqual b a s

length-quiet : (S : Setting) (callers : List Caller) (a : Value) (s : Slots) → IsQuiet (length_work S callers a s)
length-quiet S callers (value.Text text) s = outcome-quiet S callers (outcome_of (within_range (pos (length text)))) s (give_one (number 0) s) tt
length-quiet S callers (value.Table t) s = λ h. tt
length-quiet S callers value.Nil s = tt
length-quiet S callers (value.Truth t) s = tt
length-quiet S callers (value.Number n) s = tt
length-quiet S callers (value.Closure n) s = tt
length-quiet S callers (value.Native n) s = tt
length-quiet S callers (value.Thread n) s = tt
length-quiet S callers value.Null s = tt
length-quiet S callers (value.Object n m) s = tt

pub unary-quiet : (S : Setting) (callers : List Caller) (o : UnOp) (a : Value) (s : Slots) → IsQuiet (unary_work S callers o a s)
unary-quiet S callers unary.Not a s = tt
unary-quiet S callers unary.Length a s = length-quiet S callers a s
unary-quiet S callers unary.Minus a s =
    outcome-quiet S callers (negated a) s (Look (λ h. handled S callers (handler h a Unm) (a ∷ []) (arithmetic_fault a a) s)) (λ h. handled-quiet S callers (handler h a Unm) (a ∷ []) (arithmetic_fault a a) s)

without-quiet : (S : Setting) (by : Value) (line : ℕ) (v key : Value) (p : Places) (s : Slots) → IsQuiet (index_without S by line v key p s)
without-quiet S by line v key p s =
    either (is_nil by) (if is_table v then give_one value.Nil s else raise_operand S (callers_at p line) (operand.Index (type_of v)) s) (index_by by line v key p s)
    (either (is_table v) (give_one value.Nil s) (raise_operand S (callers_at p line) (operand.Index (type_of v)) s) tt tt)
    (either (is_function by) (call_for_one (callers_at p line) by (v ∷ key ∷ []) s give_one) (Eval (AnIndex line by key) p s (λ sign s'. End sign s')) tt tt)

pub index-quiet : (S : Setting) (line : ℕ) (v key : Value) (p : Places) (s : Slots) → IsQuiet (index_work S line v key p s)
index-quiet S line v key p s =
    λ h. either (is_nil (raw_value h v key)) (index_without S (handler h v Index) line v key p s) (give_one (raw_value h v key) s) (without-quiet S (handler h v Index) line v key p s) tt

raw-quiet : (S : Setting) (line : ℕ) (v key x : Value) (p : Places) (s : Slots) → IsQuiet (set_raw S line v key x p s)
raw-quiet S line (value.Table t) key x p s = λ h. refused-quiet S (callers_at p line) table_fault (set_cause h t key x) s (Write (with_pair h t key x) (give [] s)) tt
raw-quiet S line value.Nil key x p s = tt
raw-quiet S line (value.Truth t) key x p s = tt
raw-quiet S line (value.Number n) key x p s = tt
raw-quiet S line (value.Text text) key x p s = tt
raw-quiet S line (value.Closure n) key x p s = tt
raw-quiet S line (value.Native n) key x p s = tt
raw-quiet S line (value.Thread n) key x p s = tt
raw-quiet S line value.Null key x p s = tt
raw-quiet S line (value.Object n m) key x p s = tt

pub store-quiet : (S : Setting) (line : ℕ) (v key x : Value) (p : Places) (s : Slots) → IsQuiet (store_work S line v key x p s)
store-quiet S line v key x p s =
    λ h. either (is_nil (raw_value h v key)) (if is_nil (handler h v NewIndex) then set_raw S line v key x p s else store_by (handler h v NewIndex) line v key x p s) (set_raw S line v key x p s)
    (either (is_nil (handler h v NewIndex)) (set_raw S line v key x p s) (store_by (handler h v NewIndex) line v key x p s) (raw-quiet S line v key x p s) (by-quiet-store (handler h v NewIndex))) (raw-quiet S line v key x p s)
  where
    by-quiet-store : (by : Value) → IsQuiet (store_by by line v key x p s)
    by-quiet-store by =
        either (is_function by) (call_for_one (callers_at p line) by (v ∷ key ∷ x ∷ []) s (λ dropped s'. give [] s')) (Eval (AStore line by key x) p s (λ sign s'. End sign s')) tt tt

cell-quiet : (S : Setting) (callers : List Caller) (c : Option ℕ) (v : Value) (s : Slots) → IsQuiet (write_cell S callers c v s (give [] s))
cell-quiet S callers None v s = tt
cell-quiet S callers (Some c) v s = λ h. refused-quiet S callers variable_fault (frozen_cause h.base.cells c) s (Write (with_cell_value h c v) (give [] s)) tt

slot-quiet : (S : Setting) (callers : List Caller) (slot : Option Slot) (n : ℕ) (v : Value) (s : Slots) → IsQuiet (write_slot S callers slot n v s (give []))
slot-quiet S callers None n v s = tt
slot-quiet S callers (Some (Plain old)) n v s = tt
slot-quiet S callers (Some (Shared c)) n v s = cell-quiet S callers (Some c) v s

assign-quiet : (S : Setting) (target : Target) (v : Value) (p : Places) (s : Slots) → IsQuiet (assign_to S target v p s)
assign-quiet S (InSlot line n) v p s = slot-quiet S (callers_at p line) (slice_get s n) n v s
assign-quiet S (InCapture line n) v p s = cell-quiet S (callers_at p line) (slice_get p.cells n) v s
assign-quiet S (AtKey line object key) v p s = store-quiet S line object key v p s
assign-quiet S Nowhere v p s = tt

pub assigns-quiet : (S : Setting) (xs : List (Target × Value)) (p : Places) (s : Slots) → IsQuiet (assign_all S xs p s)
assigns-quiet S [] p s = tt
assigns-quiet S (a ∷ xs) p s =
    then-quiet (assign_to S a.0 a.1 p s) (on_values (λ vs s'. assign_all S xs p s')) (assign-quiet S a.0 a.1 p s)
    (λ sign s'. on-quiet (λ vs s''. assign_all S xs p s'') sign s' (λ vs s''. assigns-quiet S xs p s''))

pub assigned-quiet : (S : Setting) (ts : List Target) (vs : List Value) (p : Places) (s : Slots) → IsQuiet (assign_values S ts vs p s)
assigned-quiet S ts vs p s = assigns-quiet S (reverse (assigned ts vs)) p s

pub values-quiet : (xs : List Expr) (p : Places) (s : Slots) → IsQuiet (values_of xs p s)
values-quiet [] p s = tt
values-quiet (x ∷ xs) p s = tt

pub more-quiet : (xs : List Expr) (p : Places) (done vs : List Value) (s : Slots) → IsQuiet (more xs p done vs s)
more-quiet [] p done vs s = tt
more-quiet (x ∷ xs) p done vs s = tt

pub calls-quiet : (line : ℕ) (f : Value) (args : List Expr) (p : Places) (s : Slots) → IsQuiet (call_work line f args p s)
calls-quiet line f args p s =
    then-quiet (values_of args p s) (on_values (λ vs s'. call (callers_at p line) f vs s')) (values-quiet args p s) (λ sign s'. on-quiet (λ vs s''. call (callers_at p line) f vs s'') sign s' (λ vs s''. tt))

pub tail-quiet : (line : ℕ) (f : Value) (before : List Value) (args : List Expr) (p : Places) (s : Slots) → IsQuiet (tail_work line f before args p s)
tail-quiet line f before args p s =
    then-quiet (values_of args p s) (on_values (λ vs s'. tail_call (callers_at p line) f (before ++ vs) s')) (values-quiet args p s)
    (λ sign s'. on-quiet (λ vs s''. tail_call (callers_at p line) f (before ++ vs) s'') sign s' (λ vs s''. tt))
