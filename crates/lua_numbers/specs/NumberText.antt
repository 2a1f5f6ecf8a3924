-- Numbers as text (Lua 5.1 Reference Manual, 2.1 and 2.2.1, with whole numbers alone).
use Rattle.std.specs.Prelude.{ℕ, Bool, ◌&&◌, ◌||◌, ◌==◌, nat_eq, nat_lt, nat_le, if◌then◌else◌, List, [], ◌∷◌, reverse, drop, length, codes, ℤ, pos, neg_ℤ}
use Rattle.std.specs.Prelude.{Option, Some, None}
use Rattle.std.specs.Option.{option_map}
use Rattle.std.specs.List.{list_all, starts_with}
use Rattle.std.specs.Int.{is_in_range}
use Rattle.std.specs.Char.{digit_value}
use Rattle.std.specs.Str.Parse.{digits_value}
use Rattle.resty_base.specs.WholeNumber.{greatest_whole}

-- a space, a tab, a line feed, a vertical tab, a form feed or a carriage return
abbrev pub is_blank : ℕ → Bool
is_blank c = c == 32 || is_in_range 9 13 c

-- the text after the blanks at its start
abbrev pub after_blanks : List ℕ → List ℕ
after_blanks [] = []
after_blanks (c ∷ cs) = if is_blank c then after_blanks cs else c ∷ cs

-- the text before the blanks at its end
abbrev pub before_blanks : List ℕ → List ℕ
before_blanks text = reverse (after_blanks (reverse text))

-- the number that one digit or more write in a base, where it is at most 99,999,999,999,999
abbrev pub numeral_in : ℕ → List ℕ → Option ℤ
numeral_in base digits =
    if nat_lt 0 (length digits) && list_all (λ c. nat_lt (digit_value c) base) digits
    && nat_le (digits_value base digits) greatest_whole
    then Some (pos (digits_value base digits)) else None

-- the number that decimal digits, or hexadecimal ones after `0x`, write
abbrev pub natural_in : List ℕ → Option ℤ
natural_in text =
    if starts_with nat_eq text (codes "0x") then numeral_in 16 (drop 2 text) else numeral_in 10 text

-- the number that a natural one, with or without a minus before it, writes
abbrev pub integer_in : List ℕ → Option ℤ
integer_in text =
    if starts_with nat_eq text (codes "-") then option_map neg_ℤ (natural_in (drop 1 text)) else natural_in text

-- the number that a text writes, with or without blanks at its ends; none where it writes no number
abbrev pub number_in : List ℕ → Option ℤ
number_in text = integer_in (before_blanks (after_blanks text))
