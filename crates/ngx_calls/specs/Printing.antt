-- What `ngx.print` and `ngx.say` print of their arguments (lua-nginx-module manual, `ngx.print`): each value by its text, and an array by its elements.
use Rattle.std.specs.Prelude.{ℕ, zero, suc, ◌+◌, nat_lt, List, [], ◌∷◌, drop, length, map, codes, flat_map, sum_by}
use Rattle.std.specs.Prelude.{Option, Some, None, unwrap_or, option_map, option_and_then, if◌then◌else◌}
use Rattle.std.specs.List.{range_with_len}
use Rattle.std.specs.Option.{is_some, option_or}
use Rattle.lua_lib_base.specs.Work.{texts_length}
use Rattle.lua_operators.specs.Conversions.{text_of}
use Rattle.lua_operators.specs.Types.{type_of}
use Rattle.lua_operators.specs.declared.types.LuaType.{LuaType}
use Rattle.lua_values.specs.declared.values.Value.{Value}
use Rattle.lua_values.specs.declared.values.Value.TheVariants.{Nil, Truth, Number, Text, Table, Null}
use Rattle.lua_values.specs.Border.{border_of}
use Rattle.lua_values.specs.Heap.{Heap}
use Rattle.lua_values.specs.Pairs.{value_at}
use Rattle.lua_values.specs.StoreCalls.{pairs_of}
use Rattle.lua_values.specs.Values.{number}

-- how many levels deep arrays may be in one another, and how many values may be met in a call
abbrev pub most_levels : ℕ
most_levels = 200

abbrev pub most_values : ℕ
most_values = 1_000_000

-- the values of a table at n numbers after i
abbrev pub elements_from : List (Value × Value) → (i n : ℕ) → List Value
elements_from ps i n = map (λ k. value_at ps (number (k + 1))) (range_with_len i n)

-- its elements as an array: the values at the numbers from 1 to its length
abbrev pub elements_of : Heap → ℕ → List Value
elements_of h t = elements_from (pairs_of h t) 0 (border_of (pairs_of h t))

-- what is met in each of some values, if that can be told of all
abbrev pub met_in_each : (Value → Option (List Value)) → List Value → Option (List (List Value))
met_in_each met [] = Some []
met_in_each met (v ∷ vs) = option_and_then (λ first. option_map (λ others. first ∷ others) (met_in_each met vs)) (met v)

-- all together, in order
abbrev pub together : List (List Value) → List Value
together met = flat_map (λ vs. vs) met

-- The values that are met in one: itself, and after a table what is met in its elements. It can't be told where arrays are in one another more than k
-- levels deep.
unfoldable pub met_in : ℕ → Heap → Value → Option (List Value)
met_in zero h (Table t) = None
met_in (suc k) h (Table t) = option_map (λ met. Table t ∷ together met) (met_in_each (met_in k h) (elements_of h t))
met_in k h v = Some (v ∷ [])

-- the text of a value that is met, if it can be printed; that of an array is nothing beside those of its elements
abbrev pub text_printed : Value → Option (List ℕ)
text_printed Nil = Some (text_of Nil)
text_printed (Truth truth) = Some (text_of (Truth truth))
text_printed (Number n) = Some (text_of (Number n))
text_printed (Text text) = Some text
text_printed (Table t) = Some []
text_printed Null = Some (codes "null")
text_printed v = None

abbrev pub printed_text : Value → List ℕ
printed_text v = unwrap_or (text_printed v) []

-- the type of the first value that can't be printed
abbrev pub unprinted : List Value → Option LuaType
unprinted [] = None
unprinted (v ∷ vs) = if is_some (text_printed v) then unprinted vs else Some (type_of v)

-- with the number of the argument in which it is met
abbrev pub unprinted_in : ℕ → List Value → Option (ℕ × LuaType)
unprinted_in i met = option_map (λ found. (i, found)) (unprinted met)

-- the first of all arguments, which are numbered from i on
abbrev pub wrong_argument : ℕ → List (List Value) → Option (ℕ × LuaType)
wrong_argument i [] = None
wrong_argument i (met ∷ more) = option_or (unprinted_in i met) (wrong_argument (i + 1) more)

-- how many bytes of text are taken out of arrays: those of all that is met in an argument but itself
abbrev pub taken_out : List Value → ℕ
taken_out met = texts_length (drop 1 met)

-- What a call comes to: it is refused, since its arrays are too deep or hold too much, or since an argument can't be printed; or it prints bytes, and took
-- so many bytes of text out of arrays.
pub data Printing : Type 0 where
  BadRequest : Printing
  BadArgument : (number : ℕ) (found : LuaType) → Printing
  Prints : (bytes : List ℕ) (taken : ℕ) → Printing

abbrev pub unless_wrong : Option (ℕ × LuaType) → Printing → Printing
unless_wrong None p = p
unless_wrong (Some wrong) p = BadArgument wrong.0 wrong.1

abbrev pub printing_of : Option (List (List Value)) → Printing
printing_of None = BadRequest
printing_of (Some met) =
    if nat_lt most_values (length (together met)) then BadRequest
    else unless_wrong (wrong_argument 1 met) (Prints (flat_map printed_text (together met)) (sum_by taken_out met))

-- what the arguments come to
abbrev pub printing : Heap → List Value → Printing
printing h args = printing_of (met_in_each (met_in most_levels h) args)
