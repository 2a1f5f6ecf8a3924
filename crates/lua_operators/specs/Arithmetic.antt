-- Arithmetic on values (Lua 5.1 Reference Manual, 2.5.1): on numbers, and on texts that are converted to numbers.
use Rattle.std.specs.Prelude.{ℤ, neg_ℤ, Option, Some, None, Result, Ok, Err}
use Rattle.lua_numbers.specs.declared.faults.NumFault.{NumFault}
use Rattle.lua_values.specs.declared.values.Value.{Value}
use Rattle.lua_values.specs.declared.values.Value.TheVariants.{Number}
use Rattle.lua_operators.specs.declared.arithmetic.ArithmeticOperator.{ArithmeticOperator}
use Rattle.lua_operators.specs.declared.outcome.Outcome.{Outcome}
use Rattle.lua_operators.specs.declared.outcome.Outcome.TheVariants.{Gives, NeedsEvent, Faults}
use Rattle.lua_operators.specs.ArithmeticOperators.{result_of}
use Rattle.lua_operators.specs.Conversions.{number_of}

-- a number, or the fault of its computation
abbrev pub outcome_of : Result ℤ NumFault → Outcome
outcome_of (Ok n) = Gives (Number n)
outcome_of (Err fault) = Faults fault

-- the outcome on two operands, of which each may have a number
abbrev pub of_numbers : ArithmeticOperator → Option ℤ → Option ℤ → Outcome
of_numbers operator (Some m) (Some n) = outcome_of (result_of operator m n)
of_numbers operator m n = NeedsEvent

abbrev pub computed : ArithmeticOperator → Value → Value → Outcome
computed operator a b = of_numbers operator (number_of a) (number_of b)

-- the negation of a number
abbrev pub negated_number : Option ℤ → Outcome
negated_number (Some n) = Gives (Number (neg_ℤ n))
negated_number None = NeedsEvent

abbrev pub negated : Value → Outcome
negated a = negated_number (number_of a)
