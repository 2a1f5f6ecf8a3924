-- The faults of operators that are defined on the operands neither as they are nor by a metatable (Lua 5.1 Reference
-- Manual, 2.8): which operand is named, and the text.
use Rattle.std.specs.Prelude.{ℕ, Bool, List, ◌++◌, codes, is_some, if◌then◌else◌}
use Rattle.lua_values.specs.declared.values.Value.{Value}
use Rattle.lua_operators.specs.declared.types.LuaType.{LuaType}
use Rattle.lua_operators.specs.contracts.types.LuaTypePartialEq.TheImpl as derived
use Rattle.lua_operators.specs.declared.faults.OperandFault.{OperandFault}
use Rattle.lua_operators.specs.declared.faults.OperandFault.TheVariants.{Index, Call, Arithmetic, Concatenation, Length, Comparison}
use Rattle.lua_operators.specs.Types.{type_of}
use Rattle.lua_operators.specs.TypeNames.{type_name}
use Rattle.lua_operators.specs.Conversions.{number_of}
use Rattle.lua_operators.specs.Concatenation.{is_text_or_number}

-- arithmetic: the first operand that has no number
abbrev pub arithmetic_fault : Value → Value → OperandFault
arithmetic_fault a b = Arithmetic (type_of (if is_some (number_of a) then b else a))

-- `..`: the first operand that is neither a text nor a number
abbrev pub concatenation_fault : Value → Value → OperandFault
concatenation_fault a b = Concatenation (type_of (if is_text_or_number a then b else a))

-- `<` and `<=`: both
abbrev pub comparison_fault : Value → Value → OperandFault
comparison_fault a b = Comparison (type_of a) (type_of b)

-- the types are one
abbrev pub same_type : LuaType → LuaType → Bool
same_type = derived.ghosts.eq

abbrev pub operand_text : List ℕ → LuaType → List ℕ
operand_text deed found = codes "attempt to " ++ deed ++ codes " a " ++ type_name found ++ codes " value"

abbrev pub compared_text : LuaType → LuaType → List ℕ
compared_text first second =
    if same_type first second then codes "attempt to compare two " ++ type_name first ++ codes " values"
    else codes "attempt to compare " ++ type_name first ++ codes " with " ++ type_name second

abbrev pub operand_fault_text : OperandFault → List ℕ
operand_fault_text (Index found) = operand_text (codes "index") found
operand_fault_text (Call found) = operand_text (codes "call") found
operand_fault_text (Arithmetic found) = operand_text (codes "perform arithmetic on") found
operand_fault_text (Concatenation found) = operand_text (codes "concatenate") found
operand_fault_text (Length found) = operand_text (codes "get length of") found
operand_fault_text (Comparison first second) = compared_text first second
