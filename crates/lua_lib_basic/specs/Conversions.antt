-- `tonumber` and `type` (Lua 5.1 Reference Manual, 5.1).
use Rattle.std.specs.Prelude.{ℕ, ◌&&◌, nat_eq, nat_le, List, [], ◌∷◌, drop, codes, ℤ, pos, negsuc, Option, Some, None, if◌then◌else◌}
use Rattle.std.specs.List.{starts_with}
use Rattle.std.specs.Ordering.{int_eq}
use Rattle.lua_numbers.specs.NumberText.{after_blanks, before_blanks, numeral_in}
use Rattle.lua_values.specs.declared.values.Value.{Value}
use Rattle.lua_values.specs.declared.values.Value.TheVariants.{Nil, Number}
use Rattle.lua_values.specs.Heap.{Heap}
use Rattle.lua_operators.specs.Conversions.{number_of}
use Rattle.lua_operators.specs.Types.{type_of}
use Rattle.lua_operators.specs.TypeNames.{type_name}
use Rattle.lua_lib_base.specs.declared.refusals.Refusal.TheVariants.{Base}
use Rattle.lua_lib_base.specs.Arguments.{any_at, number_or_at, text_at}
use Rattle.lua_lib_base.specs.Results.{LibraryResult, gives, refuses, with_argument}
use Rattle.lua_lib_base.specs.Texts.{made_text}

abbrev pub number_or_nil : Option ℤ → Value
number_or_nil None = Nil
number_or_nil (Some n) = Number n

-- a base, which is a number from 2 to 36
abbrev pub as_base : ℤ → Option ℕ
as_base (pos n) = if nat_le 2 n && nat_le n 36 then Some n else None
as_base (negsuc n) = None

-- the digits of a numeral, which in base 16 may stand after `0x`
abbrev pub digits_of : ℕ → List ℕ → List ℕ
digits_of base numeral = if nat_eq base 16 && starts_with nat_eq numeral (codes "0x") then drop 2 numeral else numeral

-- the number that a text writes in a base: digits without a sign, with or without blanks at the text's ends
abbrev pub numeral : ℕ → List ℕ → Option ℤ
numeral base text = numeral_in base (digits_of base (before_blanks (after_blanks text)))

abbrev pub in_base : Heap → List ℕ → Option ℕ → LibraryResult
in_base heap text (Some base) = gives (number_or_nil (numeral base text) ∷ []) heap
in_base heap text None = refuses (Base 2) heap

-- in base 10 any value is converted, and in another a text
abbrev pub converted : List Value → Heap → Value → ℤ → LibraryResult
converted args heap value base =
    if int_eq base (pos 10) then gives (number_or_nil (number_of value) ∷ []) heap
    else with_argument (text_at args 1) heap (λ text. in_base heap text (as_base base))

abbrev pub tonumber : List Value → Heap → LibraryResult
tonumber args heap =
    with_argument (any_at args 1) heap (λ value. with_argument (number_or_at args 2 (pos 10)) heap (λ base. converted args heap value base))

-- the name of a type is a text that is made
abbrev pub type_ : List Value → Heap → LibraryResult
type_ args heap = with_argument (any_at args 1) heap (λ value. made_text heap (type_name (type_of value)))
