-- Concatenation of values (Lua 5.1 Reference Manual, 2.5.4).
use Rattle.std.specs.Prelude.{Bool, true, false, ◌&&◌, if◌then◌else◌, ◌++◌}
use Rattle.lua_values.specs.declared.values.Value.{Value}
use Rattle.lua_values.specs.declared.values.Value.TheVariants.{Number, Text}
use Rattle.lua_operators.specs.declared.outcome.Outcome.{Outcome}
use Rattle.lua_operators.specs.declared.outcome.Outcome.TheVariants.{Gives, NeedsEvent}
use Rattle.lua_operators.specs.Conversions.{text_of}

abbrev pub is_text_or_number : Value → Bool
is_text_or_number (Number n) = true
is_text_or_number (Text text) = true
is_text_or_number value = false

-- `a .. b`: the texts of two values, of which each is a text or a number
abbrev pub concatenated : Value → Value → Outcome
concatenated a b = if is_text_or_number a && is_text_or_number b then Gives (Text (text_of a ++ text_of b)) else NeedsEvent
