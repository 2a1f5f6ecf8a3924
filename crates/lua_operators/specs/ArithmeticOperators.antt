-- The arithmetic operators (Lua 5.1 Reference Manual, 2.5.1): the result of each on numbers, and its event (2.8).
use Rattle.std.specs.Prelude.{ℤ, ◌+ℤ◌, ◌-ℤ◌, ◌*ℤ◌, Result}
use Rattle.lua_numbers.specs.declared.faults.NumFault.{NumFault}
use Rattle.lua_numbers.specs.Arithmetic.{within_range, quotient_of, remainder_of, power_of}
use Rattle.lua_operators.specs.declared.arithmetic.ArithmeticOperator.{ArithmeticOperator}
use Rattle.lua_operators.specs.declared.arithmetic.ArithmeticOperator.TheVariants.{Add, Sub, Mul, Div, Mod, Pow}
use Rattle.lua_operators.specs.declared.events.Event.{Event}
use Rattle.lua_operators.specs.declared.events.Event.TheVariants as events

-- the result on two numbers, or its fault
abbrev pub result_of : ArithmeticOperator → ℤ → ℤ → Result ℤ NumFault
result_of Add a b = within_range (a +ℤ b)
result_of Sub a b = within_range (a -ℤ b)
result_of Mul a b = within_range (a *ℤ b)
result_of Div a b = quotient_of a b
result_of Mod a b = remainder_of a b
result_of Pow a b = power_of a b

abbrev pub event_of : ArithmeticOperator → Event
event_of Add = events.Add
event_of Sub = events.Sub
event_of Mul = events.Mul
event_of Div = events.Div
event_of Mod = events.Mod
event_of Pow = events.Pow
