-- Arguments: names with values between `&`, as a form writes them (URL Standard, 5.1 and 5.2).
use Rattle.std.specs.Prelude.{ℕ, Bool, ◌==◌, not, List, [], ◌∷◌, ◌++◌, length, take, map, filter, Option, None, Some, if◌then◌else◌}
use Rattle.std.specs.List.{join_by}
use Rattle.std.specs.Option.{option_map}
use Rattle.resty_base.specs.Ascii.{equals}
use Rattle.http_base.specs.Splitting.{before, after, split}
use Rattle.uri_args.specs.Escapes.{escape, unescape}
use Rattle.uri_args.specs.declared.arguments.Pair.{Pair}

-- '&'
abbrev pub ampersand : ℕ
ampersand = 38

-- what the text between two `&` says: the name before the first `=`, and the value after it
abbrev pub pair_of : List ℕ → Pair
pair_of piece = record { name = unescape (before equals piece); value = option_map unescape (after equals piece) }

-- the name isn't empty
abbrev pub is_named : Pair → Bool
is_named pair = not (length pair.name == 0)

-- all of the text's arguments that have a name
abbrev pub named_args : List ℕ → List Pair
named_args text = filter is_named (map pair_of (split ampersand text))

-- the first `max` of them, or all where `max` is 0
abbrev pub args_of : List ℕ → ℕ → List Pair
args_of text max = if max == 0 then named_args text else take max (named_args text)

-- the value with its `=`, where there is one
abbrev pub value_text : Option (List ℕ) → List ℕ
value_text None = []
value_text (Some value) = equals ∷ escape value

-- the escaped name, and the value
abbrev pub pair_text : Pair → List ℕ
pair_text pair = escape pair.name ++ value_text pair.value

-- the arguments with `&` between them
abbrev pub args_text : List Pair → List ℕ
args_text pairs = join_by pair_text (ampersand ∷ []) pairs
