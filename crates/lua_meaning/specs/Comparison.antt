-- Comparison (Lua 5.1 Reference Manual, 2.5.2), with the handlers of metatables (2.8).
use Rattle.std.specs.Prelude.{◌+◌, ◌/◌, Bool, true, false, not, List, [], ◌∷◌, length, if◌then◌else◌}
use Rattle.lua_values.specs.declared.values.Value.{Value}
use Rattle.lua_values.specs.declared.values.Value.TheVariants.{Truth, Text}
use Rattle.lua_values.specs.Values.{is_nil}
use Rattle.lua_values.specs.Heap.{Heap, bytes_of_a_step}
use Rattle.lua_operators.specs.declared.comparison.ComparisonOperator.{ComparisonOperator}
use Rattle.lua_operators.specs.declared.comparison.ComparisonOperator.TheVariants.{Less, LessOrEqual}
use Rattle.lua_operators.specs.declared.events.Event.TheVariants.{Eq, Lt, Le}
use Rattle.lua_operators.specs.declared.outcome.Outcome.{Outcome}
use Rattle.lua_operators.specs.declared.outcome.Outcome.TheVariants.{Gives, NeedsEvent, Faults}
use Rattle.lua_operators.specs.Comparison.{compared, equality}
use Rattle.lua_operators.specs.OperandFaults.{comparison_fault}
use Rattle.lua_operators.specs.Types.{is_truthy}
use Rattle.lua_meaning.specs.Works.{Caller, Slots, Work, Count, Look}
use Rattle.lua_meaning.specs.Setting.{Setting}
use Rattle.lua_meaning.specs.Positions.{raise_operand}
use Rattle.lua_meaning.specs.Signs.{give_one}
use Rattle.lua_meaning.specs.Metatables.{handler_of_both}
use Rattle.lua_meaning.specs.Calls.{call_for_one}
use Rattle.lua_meaning.specs.Arithmetic.{outcome_work}

-- a comparison of two texts counts a step for each 64 bytes of both
abbrev pub count_texts : Value → Value → Work → Work
count_texts (Text a) (Text b) go = Count ((length a + length b) / bytes_of_a_step) go
count_texts a b go = go

-- whether a comparison holds, or whether it doesn't
abbrev pub give_truth : Bool → Bool → Slots → Work
give_truth wanted holds s = give_one (Truth (if wanted then holds else not holds)) s

-- calls a handler with two operands, of whose first value the truth is taken
abbrev pub call_for_truth : List Caller → Value → Value → Value → Bool → Slots → Work
call_for_truth callers by a b wanted s = call_for_one callers by (a ∷ b ∷ []) s (λ v s'. give_truth wanted (is_truthy v) s')

-- `a == b` or `a ~= b` as an outcome on plain values tells it, with other work where it needs an event
abbrev pub truth_work : Setting → List Caller → Bool → Outcome → Slots → Work → Work
truth_work S callers wanted (Gives v) s event = give_truth wanted (is_truthy v) s
truth_work S callers wanted NeedsEvent s event = event
truth_work S callers wanted (Faults fault) s event = outcome_work S callers (Faults fault) s event

-- `a == b`, or `a ~= b` where false is wanted
abbrev pub equality_work : Setting → List Caller → Bool → Value → Value → Slots → Work
equality_work S callers wanted a b s =
    count_texts a b (truth_work S callers wanted (equality a b) s
    (Look (λ h. if is_nil (handler_of_both h a b Eq) then give_truth wanted false s else call_for_truth callers (handler_of_both h a b Eq) a b wanted s)))

-- `a < b` of values that are no numbers and no texts
abbrev pub less_by_handler : Setting → List Caller → Heap → Value → Value → Slots → Work
less_by_handler S callers h a b s =
    if is_nil (handler_of_both h a b Lt) then raise_operand S callers (comparison_fault a b) s
    else call_for_truth callers (handler_of_both h a b Lt) a b true s

-- `a <= b` of such values: without a handler of its own it is `not (b < a)`
abbrev pub at_most_by_handler : Setting → List Caller → Heap → Value → Value → Slots → Work
at_most_by_handler S callers h a b s =
    if is_nil (handler_of_both h a b Le)
    then (if is_nil (handler_of_both h a b Lt) then raise_operand S callers (comparison_fault a b) s
    else call_for_truth callers (handler_of_both h a b Lt) b a false s)
    else call_for_truth callers (handler_of_both h a b Le) a b true s

abbrev pub compared_by_handler : ComparisonOperator → Setting → List Caller → Heap → Value → Value → Slots → Work
compared_by_handler Less = less_by_handler
compared_by_handler LessOrEqual = at_most_by_handler

-- `a < b` or `a <= b`
abbrev pub comparison_work : Setting → List Caller → ComparisonOperator → Value → Value → Slots → Work
comparison_work S callers operator a b s =
    count_texts a b (outcome_work S callers (compared operator a b) s (Look (λ h. compared_by_handler operator S callers h a b s)))
