-- Arithmetic (Lua 5.1 Reference Manual, 2.5.1), with the handlers of metatables (2.8).
use Rattle.std.specs.Prelude.{List, [], ◌∷◌, if◌then◌else◌}
use Rattle.lua_values.specs.declared.values.Value.{Value}
use Rattle.lua_values.specs.Values.{is_nil}
use Rattle.lua_operators.specs.declared.arithmetic.ArithmeticOperator.{ArithmeticOperator}
use Rattle.lua_operators.specs.declared.faults.Fault.TheVariants.{Number}
use Rattle.lua_operators.specs.declared.faults.OperandFault.{OperandFault}
use Rattle.lua_operators.specs.declared.outcome.Outcome.{Outcome}
use Rattle.lua_operators.specs.declared.outcome.Outcome.TheVariants.{Gives, NeedsEvent, Faults}
use Rattle.lua_operators.specs.declared.events.Event.TheVariants.{Unm}
use Rattle.lua_operators.specs.ArithmeticOperators.{event_of}
use Rattle.lua_operators.specs.Arithmetic.{computed, negated}
use Rattle.lua_operators.specs.OperandFaults.{arithmetic_fault}
use Rattle.lua_meaning.specs.Works.{Caller, Slots, Work, Look}
use Rattle.lua_meaning.specs.Setting.{Setting}
use Rattle.lua_meaning.specs.Positions.{raise_fault, raise_operand}
use Rattle.lua_meaning.specs.Signs.{give_one}
use Rattle.lua_meaning.specs.Metatables.{handler, handler_of_two}
use Rattle.lua_meaning.specs.Calls.{call_for_one}

-- calls a handler with the operands for one value; without one the operator isn't defined on them
abbrev pub handled : Setting → List Caller → Value → List Value → OperandFault → Slots → Work
handled S callers by operands fault s = if is_nil by then raise_operand S callers fault s else call_for_one callers by operands s give_one

-- the outcome of an operator on plain values, with other work where it needs an event
abbrev pub outcome_work : Setting → List Caller → Outcome → Slots → Work → Work
outcome_work S callers (Gives v) s event = give_one v s
outcome_work S callers NeedsEvent s event = event
outcome_work S callers (Faults fault) s event = raise_fault S callers (Number fault) s

-- `a + b` and the like
abbrev pub arithmetic_work : Setting → List Caller → ArithmeticOperator → Value → Value → Slots → Work
arithmetic_work S callers operator a b s =
    outcome_work S callers (computed operator a b) s
    (Look (λ h. handled S callers (handler_of_two h a b (event_of operator)) (a ∷ b ∷ []) (arithmetic_fault a b) s))

-- `-a`
abbrev pub negation_work : Setting → List Caller → Value → Slots → Work
negation_work S callers a s =
    outcome_work S callers (negated a) s (Look (λ h. handled S callers (handler h a Unm) (a ∷ []) (arithmetic_fault a a) s))
