-- Lengths of bodies that a program sets (RFC 9110, 8.6).
use Rattle.std.specs.Prelude.{ℕ, Bool, true, false, List, [], ◌∷◌, Option, None, Some, if◌then◌else◌}
use Rattle.std.specs.Str.Parse.{digits_value}
use Rattle.http_in.specs.Framing.{is_length}

-- the values are no length, or one alone
abbrev pub are_lengths : List (List ℕ) → Bool
are_lengths [] = true
are_lengths (value ∷ []) = is_length value
are_lengths (value ∷ other ∷ others) = false

-- the number that the text writes, where it is one of 1 to 15 digits
abbrev pub length_of : List ℕ → Option ℕ
length_of text = if is_length text then Some (digits_value 10 text) else None
