-- Numerals (Lua 5.1 manual, 2.1): decimal digits, or `0x` and hexadecimal digits; whole numbers only.
use Rattle.std.specs.Prelude.{ℕ, ◌+◌, Bool, ◌&&◌, ◌||◌, ◌==◌, ℤ, List, take, drop, length, slice_index, Some, Result, Err, option_map, ok_or, if◌then◌else◌}
use Rattle.std.specs.List.{prefix_len}
use Rattle.std.specs.Char.{is_ascii_digit, is_ascii_hexdigit}
use Rattle.lua_numbers.specs.NumberText.{number_in}
use Rattle.lua_lexer.specs.declared.tokens.LexFault.{LexFault}
use Rattle.lua_lexer.specs.declared.tokens.LexFault.TheVariants.{BadByte, Fraction, Range}
use Rattle.lua_lexer.specs.declared.tokens.TokenKind.TheVariants.{Number}
use Rattle.lua_lexer.specs.declared.tokens.Piece.{Piece}
use Rattle.lua_lexer.specs.Characters.{is_word_byte}
use Rattle.resty_base.specs.Ascii.{dot, digit_zero, upper_e, letter_e, letter_x}

-- a number as a piece of that size
abbrev pub number_piece : ℕ → ℤ → Piece
number_piece size number = record { kind = Some (Number number); size = size }

-- the number that a whole numeral writes as a text; none is out of the range of the Lua profile
unfoldable pub number_of : ℕ → List ℕ → Result Piece LexFault
number_of line text = ok_or (option_map (number_piece (length text)) (number_in text)) (Range line)

-- a point, or a letter that begins an exponent
abbrev pub is_fraction_mark : ℕ → Bool
is_fraction_mark c = c == dot || c == letter_e || c == upper_e

-- the longest run of decimal digits at the front; no fraction, no exponent and no letter may follow
unfoldable pub decimal : ℕ → List ℕ → Result Piece LexFault
decimal line text =
    let size = prefix_len is_ascii_digit text in
    let next = slice_index text size in
    if is_fraction_mark next then Err (Fraction line)
    else if is_word_byte next then Err (BadByte line)
    else number_of line (take size text)

-- the longest run of hexadecimal digits after `0x`, at least one; no other letter may follow
unfoldable pub hexadecimal : ℕ → List ℕ → Result Piece LexFault
hexadecimal line text =
    let digits = prefix_len is_ascii_hexdigit (drop 2 text) in
    let size = digits + 2 in
    if digits == 0 || is_word_byte (slice_index text size) then Err (BadByte line)
    else number_of line (take size text)

-- the numeral at the front, which begins with a digit
unfoldable pub numeral : ℕ → List ℕ → Result Piece LexFault
numeral line text =
    if slice_index text 0 == digit_zero && slice_index text 1 == letter_x then hexadecimal line text else decimal line text
