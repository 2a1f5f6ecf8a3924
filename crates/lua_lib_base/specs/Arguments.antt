-- The arguments of a function of the library, which are numbered from 1 (Lua 5.1 Reference Manual, 5): where a number is
-- expected a text that writes one will do, and where a text is expected a number (2.2.1). `null` is no nil.
use Rattle.std.specs.Prelude.{ℕ, ◌-◌, Bool, true, List, ℤ, Option, Some, None, Result, Ok, Err, slice_get, if◌then◌else◌}
use Rattle.std.specs.Fmt.{signed_decimal}
use Rattle.lua_values.specs.declared.values.Value.{Value}
use Rattle.lua_values.specs.declared.values.Value.TheVariants.{Nil, Number, Text, Table}
use Rattle.lua_values.specs.Values.{is_nil}
use Rattle.lua_operators.specs.declared.types.LuaType.{LuaType}
use Rattle.lua_operators.specs.Conversions.{number_of}
use Rattle.lua_operators.specs.Types.{type_of}
use Rattle.lua_lib_base.specs.declared.refusals.Expected.{Expected}
use Rattle.lua_lib_base.specs.declared.refusals.Expected.TheVariants as expected
use Rattle.lua_lib_base.specs.declared.refusals.Refusal.{Refusal}
use Rattle.lua_lib_base.specs.declared.refusals.Refusal.TheVariants.{Argument}

-- an argument, none where it is missing
abbrev pub argument : List Value → ℕ → Option Value
argument args number = slice_get args (number - 1)

-- it is missing or nil, where the manual gives a default
abbrev pub is_absent : Option Value → Bool
is_absent None = true
is_absent (Some value) = is_nil value

-- its type
abbrev pub found : Option Value → Option LuaType
found None = None
found (Some value) = Some (type_of value)

abbrev pub refused : ℕ → Expected → Option Value → Refusal
refused number wanted value = Argument number wanted (found value)

abbrev pub as_value : ℕ → Option Value → Result Value Refusal
as_value number (Some value) = Ok value
as_value number None = Err (refused number expected.Value None)

abbrev pub as_table : ℕ → Option Value → Result ℕ Refusal
as_table number (Some (Table t)) = Ok t
as_table number value = Err (refused number expected.Table value)

abbrev pub as_table_or_nil : ℕ → Option Value → Result (Option ℕ) Refusal
as_table_or_nil number (Some (Table t)) = Ok (Some t)
as_table_or_nil number (Some Nil) = Ok None
as_table_or_nil number value = Err (refused number expected.NilOrTable value)

abbrev pub number_or_refused : ℕ → Option Value → Option ℤ → Result ℤ Refusal
number_or_refused number value (Some n) = Ok n
number_or_refused number value None = Err (refused number expected.Number value)

abbrev pub as_number : ℕ → Option Value → Result ℤ Refusal
as_number number None = Err (refused number expected.Number None)
as_number number (Some value) = number_or_refused number (Some value) (number_of value)

abbrev pub as_text : ℕ → Option Value → Result (List ℕ) Refusal
as_text number (Some (Text text)) = Ok text
as_text number (Some (Number n)) = Ok (signed_decimal n)
as_text number value = Err (refused number expected.String value)

-- the argument of a number, of any type, as a table, as a table or nil, as a number, and as a text
abbrev pub any_at : List Value → ℕ → Result Value Refusal
any_at args number = as_value number (argument args number)

abbrev pub table_at : List Value → ℕ → Result ℕ Refusal
table_at args number = as_table number (argument args number)

abbrev pub table_or_nil_at : List Value → ℕ → Result (Option ℕ) Refusal
table_or_nil_at args number = as_table_or_nil number (argument args number)

abbrev pub number_at : List Value → ℕ → Result ℤ Refusal
number_at args number = as_number number (argument args number)

abbrev pub text_at : List Value → ℕ → Result (List ℕ) Refusal
text_at args number = as_text number (argument args number)

-- a number, or the default
abbrev pub number_or_at : List Value → ℕ → ℤ → Result ℤ Refusal
number_or_at args number default = if is_absent (argument args number) then Ok default else number_at args number
