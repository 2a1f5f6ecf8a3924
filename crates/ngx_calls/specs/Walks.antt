-- A walk through the values that are met in the arguments of a call, one after the other (lua-nginx-module manual, `ngx.print`: nested arrays).
use Rattle.std.specs.Prelude.{◌≡◌, ℕ, ◌+◌, ◌-◌, ◌^◌, nat_lt, min, List, [], ◌∷◌, ◌++◌, take, length, flat_map, if◌then◌else◌}
use Rattle.std.specs.Prelude.{Option, Some, None, option_and_then, Result, Ok, Err}
use Rattle.std.specs.Option.{option_or}
use Rattle.lua_lib_base.specs.Work.{texts_length}
use Rattle.lua_operators.specs.declared.types.LuaType.{LuaType}
use Rattle.lua_values.specs.declared.values.Value.{Value}
use Rattle.ngx_calls.specs.declared.printing.Printing.{Printing as Came}
use Rattle.ngx_calls.specs.declared.printing.Printing.TheVariants as came
use Rattle.ngx_calls.specs.declared.printing.Walk.{Walk}
use Rattle.ngx_calls.specs.declared.printing.WalkFault.{WalkFault}
use Rattle.ngx_calls.specs.declared.printing.WalkFault.TheVariants as fault
use Rattle.ngx_calls.specs.Operations.{most_kept}
use Rattle.ngx_calls.specs.Printing.{Printing, BadRequest, BadArgument, Prints, printed_text, taken_out, unprinted_in}

-- how many values may still be met, the first bytes of what is printed, the bytes of text that were taken out of arrays, and the first that can't be printed
pub record Walked : Type 0 where
  pub left : ℕ
  pub printed : List ℕ
  pub taken : ℕ
  pub wrong : Option (ℕ × LuaType)

abbrev pub seen : Walk → Walked
seen w = record { left = w.left; printed = w.printed.items; taken = w.taken; wrong = w.wrong }

-- bytes put after others, as far as they are kept
abbrev pub kept : List ℕ → List ℕ → List ℕ
kept printed bytes = printed ++ take (most_kept - length printed) bytes

-- a count that goes no further than 64 bits
abbrev pub counted : ℕ → ℕ → ℕ
counted count more = count + min more (2 ^ 64 - 1 - count)

-- after n values more: what they print, the bytes of text that were taken out of arrays, and the first of them that can't be printed
abbrev pub with_more : ℕ → List ℕ → ℕ → Option (ℕ × LuaType) → Walked → Walked
with_more n bytes taken wrong w =
    record { left = w.left - n; printed = kept w.printed bytes; taken = counted w.taken taken; wrong = option_or w.wrong wrong }

-- if they aren't too many
abbrev pub after_more : ℕ → List ℕ → ℕ → Option (ℕ × LuaType) → Walked → Option Walked
after_more n bytes taken wrong w = if nat_lt w.left n then None else Some (with_more n bytes taken wrong w)

-- after values that are met in the argument of a number, if they can be told
abbrev pub after_met : (List Value → ℕ) → ℕ → Option (List Value) → Walked → Option Walked
after_met taken number None w = None
after_met taken number (Some met) w = after_more (length met) (flat_map printed_text met) (taken met) (unprinted_in number met) w

-- after what is met in each of an array's elements
abbrev pub after_elements : (Value → Option (List Value)) → ℕ → List Value → Walked → Option Walked
after_elements met number [] w = Some w
after_elements met number (v ∷ vs) w = option_and_then (after_elements met number vs) (after_met texts_length number (met v) w)

-- after what is met in an argument
abbrev pub after_argument : (Value → Option (List Value)) → ℕ → Value → Walked → Option Walked
after_argument met number v w = after_met taken_out number (met v) w

-- after what is met in each of the arguments, which are numbered from i on
abbrev pub after_arguments : (Value → Option (List Value)) → ℕ → List Value → Walked → Option Walked
after_arguments met i [] w = Some w
after_arguments met i (v ∷ vs) w = option_and_then (after_arguments met (i + 1) vs) (after_argument met i v w)

-- after one value that is met, an array too
abbrev pub after_one : Walked → Option Walked
after_one w = if nat_lt w.left 1 then None else Some (record w { left = w.left - 1 })

-- a walk came to this, or memory ran out
abbrev pub ComesTo : Option Walked → Walk → Result (Unit {0}) WalkFault → Type 0
ComesTo o new (Err fault.Memory) = Unit {0}
ComesTo None new (Err fault.BadRequest) = Unit {0}
ComesTo (Some w) new (Ok u) = seen new ≡ w
ComesTo o new result = ⊥

-- what arguments come to as it is given, with bytes after what is printed
abbrev pub given_as : List ℕ → Printing → Came
given_as end BadRequest = came.BadRequest
given_as end (BadArgument number found) = came.BadArgument number found
given_as end (Prints bytes taken) = came.Prints (take most_kept (bytes ++ end)) (min taken (2 ^ 64 - 1))

abbrev pub came_of : List ℕ → ℕ → Option (ℕ × LuaType) → Came
came_of printed taken None = came.Prints printed taken
came_of printed taken (Some wrong) = came.BadArgument wrong.0 wrong.1

-- what a walk through all arguments came to, with bytes after what is printed
abbrev pub came_to : List ℕ → Walked → Came
came_to end w = came_of (kept w.printed end) w.taken w.wrong
