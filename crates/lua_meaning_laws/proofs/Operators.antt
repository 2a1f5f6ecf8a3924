-- Operators keep to what is known: they give numbers, texts and truths, or what a handler gives.
use Rattle.std.proofs.Common.{ℕ, ◌+◌, ℤ, pos, Bool, true, false, not, ◌&&◌, List, [], ◌∷◌, ◌++◌, length, Option, None, Some, Result, Ok, Err, All, if◌then◌else◌}
use Rattle.lua_ast.specs.declared.expressions.BinOp.{BinOp}
use Rattle.lua_ast.specs.declared.expressions.BinOp.TheVariants as binary
use Rattle.lua_ast.specs.declared.expressions.UnOp.{UnOp}
use Rattle.lua_ast.specs.declared.expressions.UnOp.TheVariants as unary
use Rattle.lua_numbers.specs.declared.faults.NumFault.{NumFault}
use Rattle.lua_numbers.specs.Arithmetic.{within_range}
use Rattle.lua_values.specs.declared.values.Value.{Value}
use Rattle.lua_values.specs.declared.values.Value.TheVariants.{Nil, Truth, Number, Text, Table, Closure, Native, Thread, Null, Object}
use Rattle.lua_values.specs.Values.{is_nil, number}
use Rattle.lua_values.specs.Heap.{Heap}
use Rattle.lua_values.specs.StoreCalls.{full_cause}
use Rattle.lua_operators.specs.declared.arithmetic.ArithmeticOperator.{ArithmeticOperator}
use Rattle.lua_operators.specs.declared.arithmetic.ArithmeticOperator.TheVariants.{Add, Sub, Mul, Div, Mod, Pow}
use Rattle.lua_operators.specs.declared.comparison.ComparisonOperator.{ComparisonOperator}
use Rattle.lua_operators.specs.declared.comparison.ComparisonOperator.TheVariants.{Less, LessOrEqual}
use Rattle.lua_operators.specs.declared.events.Event.TheVariants.{Unm, Eq, Lt, Le, Concat}
use Rattle.lua_operators.specs.declared.faults.OperandFault.{OperandFault}
use Rattle.lua_operators.specs.declared.outcome.Outcome.{Outcome}
use Rattle.lua_operators.specs.declared.outcome.Outcome.TheVariants.{Gives, NeedsEvent, Faults}
use Rattle.lua_operators.specs.ArithmeticOperators.{event_of, result_of}
use Rattle.lua_operators.specs.Arithmetic.{outcome_of, of_numbers, computed, negated_number, negated}
use Rattle.lua_operators.specs.Comparison.{compared, equality, holds}
use Rattle.lua_operators.specs.Concatenation.{concatenated, is_text_or_number}
use Rattle.lua_operators.specs.Conversions.{number_of, text_of}
use Rattle.lua_operators.specs.OperandFaults.{arithmetic_fault, comparison_fault, concatenation_fault}
use Rattle.lua_operators.specs.Types.{is_truthy}
use Rattle.lua_meaning.specs.Works.{Caller, Slots, Work, Write, Look}
use Rattle.lua_meaning.specs.Setting.{Setting}
use Rattle.lua_meaning.specs.Positions.{raise_operand}
use Rattle.lua_meaning.specs.Signs.{give_one}
use Rattle.lua_meaning.specs.Variables.{table_fault}
use Rattle.lua_meaning.specs.Metatables.{handler, handler_of_two, handler_of_both}
use Rattle.lua_meaning.specs.Calls.{call_for_one}
use Rattle.lua_meaning.specs.Arithmetic.{handled, outcome_work, arithmetic_work, negation_work}
use Rattle.lua_meaning.specs.Comparison.{count_texts, give_truth, call_for_truth, truth_work, equality_work, less_by_handler, at_most_by_handler, compared_by_handler, comparison_work}
use Rattle.lua_meaning.specs.Concatenation.{text_length, with_text, make_text, joined, concatenation_work}
use Rattle.lua_meaning.specs.Operators.{binary_work, length_work, unary_work}
use Rattle.lua_meaning_laws.specs.Standing.{Stands, Known}
use Rattle.lua_meaning_laws.proofs.Known.{Given, SlotsKnown, WorkKnown, slots_later}
use Rattle.lua_meaning_laws.proofs.Readings.{either, handler_known, of_two_known, of_both_known}
use Rattle.lua_meaning_laws.proofs.Writes.{units_keep}
use Rattle.lua_meaning_laws.proofs.Going.{gives_one, unless_known, call_one_known}
use Rattle.lua_meaning_laws.proofs.Indexing.{one_of, two_of}

-- what an operator gives is known
abbrev pub OutcomeKnown : Setting → Heap → Outcome → Type 0
OutcomeKnown S h (Gives v) = Known S h v
OutcomeKnown S h NeedsEvent = Unit {0}
OutcomeKnown S h (Faults fault) = Unit {0}

module _ (S : Setting) (G : Given S) where
  result_known : (h : Heap) (r : Result ℤ NumFault) → OutcomeKnown S h (outcome_of r)
  result_known h (Ok n) = (tt, tt)
  result_known h (Err fault) = tt

  numbers_known : (h : Heap) (o : ArithmeticOperator) (m n : Option ℤ) → OutcomeKnown S h (of_numbers o m n)
  numbers_known h o (Some m) (Some n) = result_known h (result_of o m n)
  numbers_known h o (Some m) None = tt
  numbers_known h o None n = tt

  negated_known : (h : Heap) (n : Option ℤ) → OutcomeKnown S h (negated_number n)
  negated_known h (Some n) = (tt, tt)
  negated_known h None = tt

  concatenated_known : (h : Heap) (a b : Value) → OutcomeKnown S h (concatenated a b)
  concatenated_known h a b = either (OutcomeKnown S h) (is_text_or_number a && is_text_or_number b) (Gives (Text (text_of a ++ text_of b))) NeedsEvent (tt, tt) tt

  -- ---- what goes on with an outcome
  handled_known : (h : Heap) (callers : List Caller) (by : Value) (operands : List Value) (fault : OperandFault) (s : Slots) → Known S h by → All (Known S h) operands → SlotsKnown S h s
      → WorkKnown S h (handled S callers by operands fault s)
  handled_known h callers by operands fault s bk ok sk =
      either (WorkKnown S h) (is_nil by) (raise_operand S callers fault s) (call_for_one callers by operands s give_one) ((tt, tt), sk)
      (call_one_known S G h callers by operands s give_one bk ok sk (λ g x s' l xk sk'. gives_one S G g x s' xk sk'))

  outcome_known : (h : Heap) (callers : List Caller) (o : Outcome) (s : Slots) (event : Work) → OutcomeKnown S h o → SlotsKnown S h s → WorkKnown S h event → WorkKnown S h (outcome_work S callers o s event)
  outcome_known h callers (Gives v) s event k sk e = gives_one S G h v s k sk
  outcome_known h callers NeedsEvent s event k sk e = e
  outcome_known h callers (Faults fault) s event k sk e = ((tt, tt), sk)

  arithmetic_known : (h : Heap) (callers : List Caller) (o : ArithmeticOperator) (a b : Value) (s : Slots) → Stands S h → Known S h a → Known S h b → SlotsKnown S h s
      → WorkKnown S h (arithmetic_work S callers o a b s)
  arithmetic_known h callers o a b s st ak bk sk =
      outcome_known h callers (computed o a b) s (Look (λ g. handled S callers (handler_of_two g a b (event_of o)) (a ∷ b ∷ []) (arithmetic_fault a b) s)) (numbers_known h o (number_of a) (number_of b)) sk
      (handled_known h callers (handler_of_two h a b (event_of o)) (a ∷ b ∷ []) (arithmetic_fault a b) s (of_two_known S G h a b (event_of o) st) (two_of S G h a b ak bk) sk)

  negation_known : (h : Heap) (callers : List Caller) (a : Value) (s : Slots) → Stands S h → Known S h a → SlotsKnown S h s → WorkKnown S h (negation_work S callers a s)
  negation_known h callers a s st ak sk =
      outcome_known h callers (negated a) s (Look (λ g. handled S callers (handler g a Unm) (a ∷ []) (arithmetic_fault a a) s)) (negated_known h (number_of a)) sk
      (handled_known h callers (handler h a Unm) (a ∷ []) (arithmetic_fault a a) s (handler_known S G h a Unm st) (one_of S G h a ak) sk)

  -- ---- comparisons
  count_known : (h : Heap) (a b : Value) (go : Work) → WorkKnown S h go → WorkKnown S h (count_texts a b go)
  count_known h (Text a) (Text b) go k = k
  count_known h (Text a) Nil go k = k
  count_known h (Text a) (Truth b) go k = k
  count_known h (Text a) (Number b) go k = k
  count_known h (Text a) (Table b) go k = k
  count_known h (Text a) (Closure b) go k = k
  count_known h (Text a) (Native b) go k = k
  count_known h (Text a) (Thread b) go k = k
  count_known h (Text a) Null go k = k
  count_known h (Text a) (Object b c) go k = k
  count_known h Nil b go k = k
  count_known h (Truth a) b go k = k
  count_known h (Number a) b go k = k
  count_known h (Table a) b go k = k
  count_known h (Closure a) b go k = k
  count_known h (Native a) b go k = k
  count_known h (Thread a) b go k = k
  count_known h Null b go k = k
  count_known h (Object a c) b go k = k

  -- an outcome that is a truth, if it is a value
  compared_known : (h : Heap) (o : ComparisonOperator) (a b : Value) → OutcomeKnown S h (compared o a b)
  compared_known h o (Number m) (Number n) = (tt, tt)
  compared_known h o (Number m) Nil = tt
  compared_known h o (Number m) (Truth b) = tt
  compared_known h o (Number m) (Text b) = tt
  compared_known h o (Number m) (Table b) = tt
  compared_known h o (Number m) (Closure b) = tt
  compared_known h o (Number m) (Native b) = tt
  compared_known h o (Number m) (Thread b) = tt
  compared_known h o (Number m) Null = tt
  compared_known h o (Number m) (Object b c) = tt
  compared_known h o (Text m) (Text n) = (tt, tt)
  compared_known h o (Text m) Nil = tt
  compared_known h o (Text m) (Truth b) = tt
  compared_known h o (Text m) (Number b) = tt
  compared_known h o (Text m) (Table b) = tt
  compared_known h o (Text m) (Closure b) = tt
  compared_known h o (Text m) (Native b) = tt
  compared_known h o (Text m) (Thread b) = tt
  compared_known h o (Text m) Null = tt
  compared_known h o (Text m) (Object b c) = tt
  compared_known h o Nil b = tt
  compared_known h o (Truth a) b = tt
  compared_known h o (Table a) b = tt
  compared_known h o (Closure a) b = tt
  compared_known h o (Native a) b = tt
  compared_known h o (Thread a) b = tt
  compared_known h o Null b = tt
  compared_known h o (Object a c) b = tt

  truth_known : (h : Heap) (wanted holds : Bool) (s : Slots) → SlotsKnown S h s → WorkKnown S h (give_truth wanted holds s)
  truth_known h wanted holds s sk = gives_one S G h (Truth (if wanted then holds else not holds)) s (tt, tt) sk

  call_truth_known : (h : Heap) (callers : List Caller) (by a b : Value) (wanted : Bool) (s : Slots) → Known S h by → Known S h a → Known S h b → SlotsKnown S h s
      → WorkKnown S h (call_for_truth callers by a b wanted s)
  call_truth_known h callers by a b wanted s yk ak bk sk =
      call_one_known S G h callers by (a ∷ b ∷ []) s (λ v s'. give_truth wanted (is_truthy v) s') yk (two_of S G h a b ak bk) sk (λ g v s' l vk sk'. truth_known g wanted (is_truthy v) s' sk')

  truths_known : (h : Heap) (callers : List Caller) (wanted : Bool) (o : Outcome) (s : Slots) (event : Work) → SlotsKnown S h s → WorkKnown S h event → WorkKnown S h (truth_work S callers wanted o s event)
  truths_known h callers wanted (Gives v) s event sk e = truth_known h wanted (is_truthy v) s sk
  truths_known h callers wanted NeedsEvent s event sk e = e
  truths_known h callers wanted (Faults fault) s event sk e = ((tt, tt), sk)

  equality_known : (h : Heap) (callers : List Caller) (wanted : Bool) (a b : Value) (s : Slots) → Stands S h → Known S h a → Known S h b → SlotsKnown S h s
      → WorkKnown S h (equality_work S callers wanted a b s)
  equality_known h callers wanted a b s st ak bk sk =
      let event : Work = Look (λ g. if is_nil (handler_of_both g a b Eq) then give_truth wanted false s else call_for_truth callers (handler_of_both g a b Eq) a b wanted s) in
      count_known h a b (truth_work S callers wanted (equality a b) s event) (truths_known h callers wanted (equality a b) s event sk
      (either (WorkKnown S h) (is_nil (handler_of_both h a b Eq)) (give_truth wanted false s) (call_for_truth callers (handler_of_both h a b Eq) a b wanted s)
      (truth_known h wanted false s sk) (call_truth_known h callers (handler_of_both h a b Eq) a b wanted s (of_both_known S G h a b Eq st) ak bk sk)))

  less_known : (h : Heap) (callers : List Caller) (a b : Value) (s : Slots) → Stands S h → Known S h a → Known S h b → SlotsKnown S h s → WorkKnown S h (less_by_handler S callers h a b s)
  less_known h callers a b s st ak bk sk =
      either (WorkKnown S h) (is_nil (handler_of_both h a b Lt)) (raise_operand S callers (comparison_fault a b) s) (call_for_truth callers (handler_of_both h a b Lt) a b true s) ((tt, tt), sk)
      (call_truth_known h callers (handler_of_both h a b Lt) a b true s (of_both_known S G h a b Lt st) ak bk sk)

  at_most_known : (h : Heap) (callers : List Caller) (a b : Value) (s : Slots) → Stands S h → Known S h a → Known S h b → SlotsKnown S h s → WorkKnown S h (at_most_by_handler S callers h a b s)
  at_most_known h callers a b s st ak bk sk =
      either (WorkKnown S h) (is_nil (handler_of_both h a b Le))
      (if is_nil (handler_of_both h a b Lt) then raise_operand S callers (comparison_fault a b) s else call_for_truth callers (handler_of_both h a b Lt) b a false s)
      (call_for_truth callers (handler_of_both h a b Le) a b true s)
      (either (WorkKnown S h) (is_nil (handler_of_both h a b Lt)) (raise_operand S callers (comparison_fault a b) s) (call_for_truth callers (handler_of_both h a b Lt) b a false s) ((tt, tt), sk)
      (call_truth_known h callers (handler_of_both h a b Lt) b a false s (of_both_known S G h a b Lt st) bk ak sk))
      (call_truth_known h callers (handler_of_both h a b Le) a b true s (of_both_known S G h a b Le st) ak bk sk)

  by_handler_known : (h : Heap) (o : ComparisonOperator) (callers : List Caller) (a b : Value) (s : Slots) → Stands S h → Known S h a → Known S h b → SlotsKnown S h s
      → WorkKnown S h (compared_by_handler o S callers h a b s)
  by_handler_known h Less callers a b s st ak bk sk = less_known h callers a b s st ak bk sk
  by_handler_known h LessOrEqual callers a b s st ak bk sk = at_most_known h callers a b s st ak bk sk

  comparison_known : (h : Heap) (callers : List Caller) (o : ComparisonOperator) (a b : Value) (s : Slots) → Stands S h → Known S h a → Known S h b → SlotsKnown S h s
      → WorkKnown S h (comparison_work S callers o a b s)
  comparison_known h callers o a b s st ak bk sk =
      let event : Work = Look (λ g. compared_by_handler o S callers g a b s) in
      count_known h a b (outcome_work S callers (compared o a b) s event) (outcome_known h callers (compared o a b) s event (compared_known h o a b) sk (by_handler_known h o callers a b s st ak bk sk))

  -- ---- texts that are made
  make_known : (h : Heap) (callers : List Caller) (n : ℕ) (v : Value) (s : Slots) → Stands S h → SlotsKnown S h s → ((g : Heap) → Known S g v) → WorkKnown S h (make_text S callers n s (give_one v s))
  make_known h callers n v s st sk any =
      unless_known S G h callers table_fault (full_cause h (n + 16)) s (Write (with_text h n) (give_one v s)) sk (λ e.
      let l = units_keep S G h (h.units + (n + 16)) st in (l, gives_one S G (with_text h n) v s (any (with_text h n)) (slots_later S G h (with_text h n) s l sk)))

  joined_known : (h : Heap) (callers : List Caller) (taken : ℕ) (o : Outcome) (s : Slots) (event : Work) → Stands S h → ((g : Heap) → OutcomeKnown S g o) → SlotsKnown S h s → WorkKnown S h event
      → WorkKnown S h (joined S callers taken o s event)
  joined_known h callers taken (Gives v) s event st any sk e = make_known h callers (text_length v) v s st sk any
  joined_known h callers taken NeedsEvent s event st any sk e = e
  joined_known h callers taken (Faults fault) s event st any sk e = ((tt, tt), sk)

  concatenation_known : (h : Heap) (callers : List Caller) (a b : Value) (s : Slots) → Stands S h → Known S h a → Known S h b → SlotsKnown S h s → WorkKnown S h (concatenation_work S callers a b s)
  concatenation_known h callers a b s st ak bk sk =
      joined_known h callers (text_length a + text_length b) (concatenated a b) s (Look (λ g. handled S callers (handler_of_two g a b Concat) (a ∷ b ∷ []) (concatenation_fault a b) s)) st
      (λ g. concatenated_known g a b) sk
      (handled_known h callers (handler_of_two h a b Concat) (a ∷ b ∷ []) (concatenation_fault a b) s (of_two_known S G h a b Concat st) (two_of S G h a b ak bk) sk)

  -- ---- all of them
  pub binary_known : (h : Heap) (callers : List Caller) (o : BinOp) (a b : Value) (s : Slots) → Stands S h → Known S h a → Known S h b → SlotsKnown S h s → WorkKnown S h (binary_work S callers o a b s)
  binary_known h callers binary.Add a b s st ak bk sk = arithmetic_known h callers Add a b s st ak bk sk
  binary_known h callers binary.Sub a b s st ak bk sk = arithmetic_known h callers Sub a b s st ak bk sk
  binary_known h callers binary.Mul a b s st ak bk sk = arithmetic_known h callers Mul a b s st ak bk sk
  binary_known h callers binary.Div a b s st ak bk sk = arithmetic_known h callers Div a b s st ak bk sk
  binary_known h callers binary.Mod a b s st ak bk sk = arithmetic_known h callers Mod a b s st ak bk sk
  binary_known h callers binary.Pow a b s st ak bk sk = arithmetic_known h callers Pow a b s st ak bk sk
  binary_known h callers binary.Concat a b s st ak bk sk = concatenation_known h callers a b s st ak bk sk
  binary_known h callers binary.Eq a b s st ak bk sk = equality_known h callers true a b s st ak bk sk
  binary_known h callers binary.Ne a b s st ak bk sk = equality_known h callers false a b s st ak bk sk
  binary_known h callers binary.Lt a b s st ak bk sk = comparison_known h callers Less a b s st ak bk sk
  binary_known h callers binary.Le a b s st ak bk sk = comparison_known h callers LessOrEqual a b s st ak bk sk
  binary_known h callers binary.Gt a b s st ak bk sk = comparison_known h callers Less b a s st bk ak sk
  binary_known h callers binary.Ge a b s st ak bk sk = comparison_known h callers LessOrEqual b a s st bk ak sk

  length_known : (h : Heap) (callers : List Caller) (a : Value) (s : Slots) → SlotsKnown S h s → WorkKnown S h (length_work S callers a s)
  length_known h callers (Text text) s sk =
      outcome_known h callers (outcome_of (within_range (pos (length text)))) s (give_one (number 0) s) (result_known h (within_range (pos (length text)))) sk (gives_one S G h (number 0) s (tt, tt) sk)
  length_known h callers (Table t) s sk = gives_one S G h (number _) s (tt, tt) sk
  length_known h callers Nil s sk = ((tt, tt), sk)
  length_known h callers (Truth b) s sk = ((tt, tt), sk)
  length_known h callers (Number n) s sk = ((tt, tt), sk)
  length_known h callers (Closure n) s sk = ((tt, tt), sk)
  length_known h callers (Native n) s sk = ((tt, tt), sk)
  length_known h callers (Thread n) s sk = ((tt, tt), sk)
  length_known h callers Null s sk = ((tt, tt), sk)
  length_known h callers (Object k n) s sk = ((tt, tt), sk)

  pub unary_known : (h : Heap) (callers : List Caller) (o : UnOp) (a : Value) (s : Slots) → Stands S h → Known S h a → SlotsKnown S h s → WorkKnown S h (unary_work S callers o a s)
  unary_known h callers unary.Not a s st ak sk = gives_one S G h (Truth (not (is_truthy a))) s (tt, tt) sk
  unary_known h callers unary.Length a s st ak sk = length_known h callers a s sk
  unary_known h callers unary.Minus a s st ak sk = negation_known h callers a s st ak sk
