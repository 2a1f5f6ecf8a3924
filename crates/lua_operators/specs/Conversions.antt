-- The number and the text of a value (Lua 5.1 Reference Manual, 2.2.1).
use Rattle.std.specs.Prelude.{ℕ, true, false, List, codes, ℤ, Option, Some, None}
use Rattle.std.specs.Fmt.{signed_decimal}
use Rattle.lua_values.specs.declared.values.Value.{Value}
use Rattle.lua_values.specs.declared.values.Value.TheVariants.{Truth, Number, Text, Null}
use Rattle.lua_numbers.specs.NumberText.{number_in}
use Rattle.lua_operators.specs.Types.{type_of}
use Rattle.lua_operators.specs.TypeNames.{type_name}

-- a number is its own, a text has the one that it writes, and any other value has none
abbrev pub number_of : Value → Option ℤ
number_of (Number n) = Some n
number_of (Text text) = number_in text
number_of value = None

-- what `tostring` gives where no metatable is asked (5.1): of a value that isn't written out, its type's name
abbrev pub text_of : Value → List ℕ
text_of (Truth true) = codes "true"
text_of (Truth false) = codes "false"
text_of (Number n) = signed_decimal n
text_of (Text text) = text
text_of Null = codes "userdata: NULL"
text_of value = type_name (type_of value)
