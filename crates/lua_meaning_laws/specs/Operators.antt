-- What each operator comes to on values (Lua 5.1 Reference Manual, 2.5.1 to 2.5.6, and 2.8).
use Rattle.std.specs.Prelude.{◌≡◌, ◌+◌, ◌/◌, Bool, true, false, not, ℕ, List, [], ◌∷◌, length, pos, if◌then◌else◌}
use Rattle.lua_ast.specs.declared.expressions.BinOp.TheVariants as binary
use Rattle.lua_ast.specs.declared.expressions.UnOp.TheVariants as unary
use Rattle.lua_numbers.specs.Arithmetic.{within_range}
use Rattle.lua_values.specs.declared.values.Value.{Value}
use Rattle.lua_values.specs.declared.values.Value.TheVariants.{Truth, Text, Table}
use Rattle.lua_values.specs.Values.{number, is_nil}
use Rattle.lua_values.specs.Border.{border_of}
use Rattle.lua_values.specs.StoreCalls.{pairs_of, full_cause}
use Rattle.lua_values.specs.Heap.{bytes_of_a_step}
use Rattle.lua_operators.specs.declared.arithmetic.ArithmeticOperator.{ArithmeticOperator}
use Rattle.lua_operators.specs.declared.arithmetic.ArithmeticOperator.TheVariants.{Add, Sub, Mul, Div, Mod, Pow}
use Rattle.lua_operators.specs.declared.comparison.ComparisonOperator.{ComparisonOperator}
use Rattle.lua_operators.specs.declared.comparison.ComparisonOperator.TheVariants.{Less, LessOrEqual}
use Rattle.lua_operators.specs.declared.events.Event.TheVariants.{Unm, Concat, Eq, Lt, Le}
use Rattle.lua_operators.specs.declared.faults.Fault.TheVariants.{Number}
use Rattle.lua_operators.specs.declared.faults.OperandFault.{OperandFault}
use Rattle.lua_operators.specs.declared.faults.OperandFault.TheVariants as operand
use Rattle.lua_operators.specs.declared.outcome.Outcome.{Outcome}
use Rattle.lua_operators.specs.declared.outcome.Outcome.TheVariants.{Gives, NeedsEvent, Faults}
use Rattle.lua_operators.specs.ArithmeticOperators.{event_of}
use Rattle.lua_operators.specs.Arithmetic.{computed, negated, outcome_of}
use Rattle.lua_operators.specs.Comparison.{compared, equality}
use Rattle.lua_operators.specs.Concatenation.{concatenated}
use Rattle.lua_operators.specs.OperandFaults.{arithmetic_fault, comparison_fault, concatenation_fault}
use Rattle.lua_operators.specs.Types.{type_of, is_truthy}
use Rattle.lua_meaning.specs.Works.{Caller, Slots}
use Rattle.lua_meaning.specs.Evaluator.{State, Ending, counted}
use Rattle.lua_meaning.specs.Setting.{Setting}
use Rattle.lua_meaning.specs.Metatables.{handler, handler_of_two, handler_of_both}
use Rattle.lua_meaning.specs.Concatenation.{text_length, with_text}
use Rattle.lua_meaning_laws.specs.Parts.{gives_one, faults, faults_at, call_one, written}
use Rattle.lua_meaning_laws.specs.Expressions.{unary_in, binary_in}

-- calls a handler with the operands for one value; without one the operator isn't defined on them
abbrev pub handled_in : Setting → List Caller → Value → List Value → OperandFault → Slots → State → Ending
handled_in S callers by operands fault s w = if is_nil by then faults_at S callers fault s w else call_one S callers by operands s w gives_one

-- the outcome of an operator on plain values, with another ending where it needs an event
abbrev pub outcome_in : Setting → List Caller → Outcome → Slots → State → Ending → Ending
outcome_in S callers (Gives v) s w event = gives_one v s w
outcome_in S callers NeedsEvent s w event = event
outcome_in S callers (Faults fault) s w event = faults S callers (Number fault) s w

-- `a + b` and the like
abbrev pub arithmetic_in : Setting → List Caller → ArithmeticOperator → Value → Value → Slots → State → Ending
arithmetic_in S callers o a b s w =
    outcome_in S callers (computed o a b) s w (handled_in S callers (handler_of_two w.store.heap a b (event_of o)) (a ∷ b ∷ []) (arithmetic_fault a b) s w)

-- `#a`
abbrev pub length_in : Setting → List Caller → Value → Slots → State → Ending
length_in S callers (Text text) s w = outcome_in S callers (outcome_of (within_range (pos (length text)))) s w (gives_one (number 0) s w)
length_in S callers (Table t) s w = gives_one (number (border_of (pairs_of w.store.heap t))) s w
length_in S callers v s w = faults_at S callers (operand.Length (type_of v)) s w

-- a text that is joined of two counts a step for each 64 bytes that are taken or made, and takes its units
abbrev pub joined_in : Setting → List Caller → ℕ → Outcome → Slots → State → Ending → Ending
joined_in S callers taken (Gives v) s w event =
    counted ((taken + text_length v) / bytes_of_a_step) w (λ w2.
    written S callers (full_cause w2.store.heap (text_length v + 16)) (with_text w2.store.heap (text_length v)) s w2 (λ w3. gives_one v s w3))
joined_in S callers taken NeedsEvent s w event = event
joined_in S callers taken (Faults fault) s w event = faults S callers (Number fault) s w

-- `a .. b`
abbrev pub concatenation_in : Setting → List Caller → Value → Value → Slots → State → Ending
concatenation_in S callers a b s w =
    joined_in S callers (text_length a + text_length b) (concatenated a b) s w
    (handled_in S callers (handler_of_two w.store.heap a b Concat) (a ∷ b ∷ []) (concatenation_fault a b) s w)

-- a comparison of two texts counts a step for each 64 bytes of both
abbrev pub texts_counted : Value → Value → State → (State → Ending) → Ending
texts_counted (Text a) (Text b) w go = counted ((length a + length b) / bytes_of_a_step) w go
texts_counted a b w go = go w

-- whether a comparison holds, or whether it doesn't, and the same of the first value of a handler
abbrev pub truth_in : Bool → Bool → Slots → State → Ending
truth_in wanted holds s w = gives_one (Truth (if wanted then holds else not holds)) s w

abbrev pub asked_in : Setting → List Caller → Value → Value → Value → Bool → Slots → State → Ending
asked_in S callers by a b wanted s w = call_one S callers by (a ∷ b ∷ []) s w (λ v s' w'. truth_in wanted (is_truthy v) s' w')

-- `a == b`, or `a ~= b` where false is wanted
abbrev pub equal_in : Setting → List Caller → Bool → Outcome → Value → Value → Slots → State → Ending
equal_in S callers wanted (Gives v) a b s w = truth_in wanted (is_truthy v) s w
equal_in S callers wanted NeedsEvent a b s w =
    if is_nil (handler_of_both w.store.heap a b Eq) then truth_in wanted false s w
    else asked_in S callers (handler_of_both w.store.heap a b Eq) a b wanted s w
equal_in S callers wanted (Faults fault) a b s w = faults S callers (Number fault) s w

abbrev pub equality_in : Setting → List Caller → Bool → Value → Value → Slots → State → Ending
equality_in S callers wanted a b s w = texts_counted a b w (λ w2. equal_in S callers wanted (equality a b) a b s w2)

-- `a < b` by a handler, and `a <= b`, which without a handler of its own is `not (b < a)`
abbrev pub less_in : Setting → List Caller → Value → Value → Slots → State → Ending
less_in S callers a b s w =
    if is_nil (handler_of_both w.store.heap a b Lt) then faults_at S callers (comparison_fault a b) s w
    else asked_in S callers (handler_of_both w.store.heap a b Lt) a b true s w

abbrev pub at_most_in : Setting → List Caller → Value → Value → Slots → State → Ending
at_most_in S callers a b s w =
    if is_nil (handler_of_both w.store.heap a b Le)
    then (if is_nil (handler_of_both w.store.heap a b Lt) then faults_at S callers (comparison_fault a b) s w
    else asked_in S callers (handler_of_both w.store.heap a b Lt) b a false s w)
    else asked_in S callers (handler_of_both w.store.heap a b Le) a b true s w

abbrev pub by_handler_in : ComparisonOperator → Setting → List Caller → Value → Value → Slots → State → Ending
by_handler_in Less = less_in
by_handler_in LessOrEqual = at_most_in

abbrev pub comparison_in : Setting → List Caller → ComparisonOperator → Value → Value → Slots → State → Ending
comparison_in S callers o a b s w = texts_counted a b w (λ w2. outcome_in S callers (compared o a b) s w2 (by_handler_in o S callers a b s w2))

pub record UnaryAre (S : Setting) (callers : List Caller) (a : Value) (s : Slots) (w : State) : Type 0 where
  pub negation : unary_in S callers unary.Not a s w ≡ gives_one (Truth (not (is_truthy a))) s w
  pub length : unary_in S callers unary.Length a s w ≡ length_in S callers a s w
  pub minus : unary_in S callers unary.Minus a s w
      ≡ outcome_in S callers (negated a) s w (handled_in S callers (handler w.store.heap a Unm) (a ∷ []) (arithmetic_fault a a) s w)

-- `a > b` is `b < a`, and `a >= b` is `b <= a`
pub record BinaryAre (S : Setting) (callers : List Caller) (a b : Value) (s : Slots) (w : State) : Type 0 where
  pub add : binary_in S callers binary.Add a b s w ≡ arithmetic_in S callers Add a b s w
  pub sub : binary_in S callers binary.Sub a b s w ≡ arithmetic_in S callers Sub a b s w
  pub mul : binary_in S callers binary.Mul a b s w ≡ arithmetic_in S callers Mul a b s w
  pub div : binary_in S callers binary.Div a b s w ≡ arithmetic_in S callers Div a b s w
  pub mod_ : binary_in S callers binary.Mod a b s w ≡ arithmetic_in S callers Mod a b s w
  pub pow : binary_in S callers binary.Pow a b s w ≡ arithmetic_in S callers Pow a b s w
  pub concat : binary_in S callers binary.Concat a b s w ≡ concatenation_in S callers a b s w
  pub eq : binary_in S callers binary.Eq a b s w ≡ equality_in S callers true a b s w
  pub ne : binary_in S callers binary.Ne a b s w ≡ equality_in S callers false a b s w
  pub lt : binary_in S callers binary.Lt a b s w ≡ comparison_in S callers Less a b s w
  pub le : binary_in S callers binary.Le a b s w ≡ comparison_in S callers LessOrEqual a b s w
  pub gt : binary_in S callers binary.Gt a b s w ≡ comparison_in S callers Less b a s w
  pub ge : binary_in S callers binary.Ge a b s w ≡ comparison_in S callers LessOrEqual b a s w

pub record EachOperatorIs : Type 0 where
  pub unary_ : (S : Setting) (callers : List Caller) (a : Value) (s : Slots) (w : State) → UnaryAre S callers a s w
  pub binary_ : (S : Setting) (callers : List Caller) (a b : Value) (s : Slots) (w : State) → BinaryAre S callers a b s w
