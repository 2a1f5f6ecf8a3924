-- The lines of a head, and the version that its first line ends with (RFC 9112, sections 2.3 and 3).
use Rattle.std.specs.Prelude.{ℕ, ◌-◌, Bool, true, false, not, ◌==◌, ◌&&◌, ◌||◌, List}
use Rattle.std.specs.Prelude.{[], ◌∷◌, length, take, drop, filter, slice_index, codes, nat_eq, if◌then◌else◌}
use Rattle.std.specs.List.{starts_with, ends_with}
use Rattle.std.specs.Char.{is_ascii_digit}
use Rattle.resty_base.specs.Ascii.{line_feed, carriage_return, dot}
use Rattle.http_base.specs.Splitting.{split}

-- the list has no element
abbrev pub is_empty : List ℕ → Bool
is_empty [] = true
is_empty (b ∷ bs) = false

-- the line has no byte but a CR at its end
abbrev pub is_empty_line : List ℕ → Bool
is_empty_line [] = true
is_empty_line (b ∷ bs) = (b == carriage_return) && is_empty bs

-- those of the lines that aren't empty
abbrev pub without_empty : List (List ℕ) → List (List ℕ)
without_empty lines = filter (λ line. not (is_empty_line line)) lines

-- the lines of the text that aren't empty, each with its CR, if it has one
abbrev pub full_lines : List ℕ → List (List ℕ)
full_lines text = without_empty (split line_feed text)

-- the first line, empty where there is none
abbrev pub first_line : List (List ℕ) → List ℕ
first_line [] = []
first_line (line ∷ lines) = line

-- the line without the CR at its end
abbrev pub without_return : List ℕ → List ℕ
without_return line = if ends_with nat_eq line (carriage_return ∷ []) then take (length line - 1) line else line

-- the text begins with a blank, `HTTP/`, a digit, `.` and a digit
abbrev pub is_version : List ℕ → Bool
is_version text =
    starts_with nat_eq text (codes " HTTP/") && is_ascii_digit (slice_index text 6) && (slice_index text 7 == dot) && is_ascii_digit (slice_index text 8)

-- the version is 1.0 or 1.1
abbrev pub is_known_version : List ℕ → Bool
is_known_version text = (slice_index text 6 == 49) && ((slice_index text 8 == 48) || (slice_index text 8 == 49))

-- the line ends with a version of HTTP that is neither 1.0 nor 1.1
abbrev pub has_other_version : List ℕ → Bool
has_other_version line = let text = drop (length line - 9) line in is_version text && not (is_known_version text)
