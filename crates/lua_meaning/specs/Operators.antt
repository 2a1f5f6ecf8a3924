-- The operators that evaluate all of their operands (Lua 5.1 Reference Manual, 2.5.1 to 2.5.6).
use Rattle.std.specs.Prelude.{true, false, not, List, pos, length}
use Rattle.lua_ast.specs.declared.expressions.BinOp.{BinOp}
use Rattle.lua_ast.specs.declared.expressions.BinOp.TheVariants as binary
use Rattle.lua_ast.specs.declared.expressions.UnOp.{UnOp}
use Rattle.lua_ast.specs.declared.expressions.UnOp.TheVariants as unary
use Rattle.lua_numbers.specs.Arithmetic.{within_range}
use Rattle.lua_values.specs.declared.values.Value.{Value}
use Rattle.lua_values.specs.declared.values.Value.TheVariants.{Truth, Text, Table}
use Rattle.lua_values.specs.Values.{number}
use Rattle.lua_values.specs.Border.{border_of}
use Rattle.lua_values.specs.StoreCalls.{pairs_of}
use Rattle.lua_operators.specs.declared.arithmetic.ArithmeticOperator.TheVariants.{Add, Sub, Mul, Div, Mod, Pow}
use Rattle.lua_operators.specs.declared.comparison.ComparisonOperator.TheVariants.{Less, LessOrEqual}
use Rattle.lua_operators.specs.declared.faults.OperandFault.TheVariants as operand
use Rattle.lua_operators.specs.Arithmetic.{outcome_of}
use Rattle.lua_operators.specs.Types.{type_of, is_truthy}
use Rattle.lua_meaning.specs.Works.{Caller, Slots, Work, Look}
use Rattle.lua_meaning.specs.Setting.{Setting}
use Rattle.lua_meaning.specs.Positions.{raise_operand}
use Rattle.lua_meaning.specs.Signs.{give_one}
use Rattle.lua_meaning.specs.Arithmetic.{arithmetic_work, negation_work, outcome_work}
use Rattle.lua_meaning.specs.Comparison.{equality_work, comparison_work}
use Rattle.lua_meaning.specs.Concatenation.{concatenation_work}

-- `a > b` is `b < a`, and `a >= b` is `b <= a`
abbrev pub binary_work : Setting → List Caller → BinOp → Value → Value → Slots → Work
binary_work S callers binary.Add a b s = arithmetic_work S callers Add a b s
binary_work S callers binary.Sub a b s = arithmetic_work S callers Sub a b s
binary_work S callers binary.Mul a b s = arithmetic_work S callers Mul a b s
binary_work S callers binary.Div a b s = arithmetic_work S callers Div a b s
binary_work S callers binary.Mod a b s = arithmetic_work S callers Mod a b s
binary_work S callers binary.Pow a b s = arithmetic_work S callers Pow a b s
binary_work S callers binary.Concat a b s = concatenation_work S callers a b s
binary_work S callers binary.Eq a b s = equality_work S callers true a b s
binary_work S callers binary.Ne a b s = equality_work S callers false a b s
binary_work S callers binary.Lt a b s = comparison_work S callers Less a b s
binary_work S callers binary.Le a b s = comparison_work S callers LessOrEqual a b s
binary_work S callers binary.Gt a b s = comparison_work S callers Less b a s
binary_work S callers binary.Ge a b s = comparison_work S callers LessOrEqual b a s

-- `#a` (2.5.5): of a text its bytes, of a table its least border
abbrev pub length_work : Setting → List Caller → Value → Slots → Work
length_work S callers (Text text) s = outcome_work S callers (outcome_of (within_range (pos (length text)))) s (give_one (number 0) s)
length_work S callers (Table t) s = Look (λ h. give_one (number (border_of (pairs_of h t))) s)
length_work S callers v s = raise_operand S callers (operand.Length (type_of v)) s

abbrev pub unary_work : Setting → List Caller → UnOp → Value → Slots → Work
unary_work S callers unary.Not a s = give_one (Truth (not (is_truthy a))) s
unary_work S callers unary.Length a s = length_work S callers a s
unary_work S callers unary.Minus a s = negation_work S callers a s
