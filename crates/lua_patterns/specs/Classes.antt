-- Character classes (Lua 5.1 manual, 5.4.1). Letters are those of ASCII.
use Rattle.std.specs.Prelude.{ℕ, zero, suc, ◌-◌, Bool, true, false, not, ◌&&◌, ◌||◌, ◌==◌, nat_lt, List, [], ◌∷◌, length, slice_index, slice_range, Option}
use Rattle.std.specs.Prelude.{Some, None, if◌then◌else◌}
use Rattle.std.specs.Char.{is_ascii_alphabetic, is_ascii_control, is_ascii_digit, is_ascii_lowercase, is_ascii_punctuation, is_ascii_uppercase}
use Rattle.std.specs.Char.{is_ascii_alphanumeric, is_ascii_hexdigit, to_ascii_lowercase}
use Rattle.std.specs.Int.{is_in_range}
use Rattle.lua_patterns.specs.declared.classes.Class.{Class}
use Rattle.lua_patterns.specs.declared.classes.Class.TheVariants.{Any, Byte, Letter, Set}
use Rattle.resty_base.specs.Ascii.{space, percent, dash, close_bracket, letter_a, letter_c, letter_d, letter_l, letter_p, letter_s, letter_u, letter_w}
use Rattle.resty_base.specs.Ascii.{letter_x, letter_z}

-- a space, or one of tab, line feed, vertical tab, form feed and carriage return
abbrev pub is_space : ℕ → Bool
is_space c = c == space || is_in_range 9 13 c

-- whether a byte is in the class that a small letter names, where it names one
unfoldable pub named : ℕ → ℕ → Option Bool
named letter c =
    if letter == letter_a then Some (is_ascii_alphabetic c) else if letter == letter_c then Some (is_ascii_control c)
    else if letter == letter_d then Some (is_ascii_digit c) else if letter == letter_l then Some (is_ascii_lowercase c)
    else if letter == letter_p then Some (is_ascii_punctuation c) else if letter == letter_s then Some (is_space c)
    else if letter == letter_u then Some (is_ascii_uppercase c) else if letter == letter_w then Some (is_ascii_alphanumeric c)
    else if letter == letter_x then Some (is_ascii_hexdigit c) else if letter == letter_z then Some (c == 0) else None

-- a capital letter names the complement; a byte that names no class stands for itself
abbrev pub agrees : ℕ → ℕ → Option Bool → Bool
agrees letter c (Some within) = if is_ascii_lowercase letter then within else not within
agrees letter c None = letter == c

-- a byte is in the class that stands after a '%'
abbrev pub in_escaped : ℕ → ℕ → Bool
in_escaped letter c = agrees letter c (named (to_ascii_lowercase letter) c)

-- a range stands at the front of a set's inside: a byte, '-' and a byte
abbrev pub is_range : List ℕ → Bool
is_range inside = slice_index inside 1 == dash && nat_lt 2 (length inside)

-- how many bytes of a set's inside the part at its front has: a class, a range or a byte
abbrev pub part_size : List ℕ → ℕ
part_size inside = if slice_index inside 0 == percent then 2 else if is_range inside then 3 else 1

-- the byte after a '%' at the front; where a range has taken the '%' away from the byte that it stands before, and
-- another one is last, that is the closing bracket, as Lua 5.1 reads it
abbrev pub after_percent : List ℕ → ℕ
after_percent inside = if nat_lt 1 (length inside) then slice_index inside 1 else close_bracket

-- a byte is in the part at the front of a set's inside
unfoldable pub in_part : ℕ → List ℕ → Bool
in_part c inside =
    if slice_index inside 0 == percent then in_escaped (after_percent inside) c
    else if is_range inside then is_in_range (slice_index inside 0) (slice_index inside 2) c
    else slice_index inside 0 == c

-- a byte is in one of the parts after the first so many bytes
unfoldable pub in_parts_after : ℕ → ℕ → List ℕ → Bool
in_parts_after skipped c [] = false
in_parts_after (suc skipped) c (x ∷ xs) = in_parts_after skipped c xs
in_parts_after zero c (x ∷ xs) = in_part c (x ∷ xs) || in_parts_after (part_size (x ∷ xs) - 1) c xs

-- a byte is in the set with that inside
abbrev pub in_set : ℕ → List ℕ → Bool
in_set c inside = in_parts_after 0 c inside

-- a byte is in a class of the pattern
abbrev pub accepts : List ℕ → Class → ℕ → Bool
accepts pattern Any c = true
accepts pattern (Byte b) c = b == c
accepts pattern (Letter letter) c = in_escaped letter c
accepts pattern (Set complement start end) c = if complement then not (in_set c (slice_range pattern start end)) else in_set c (slice_range pattern start end)
