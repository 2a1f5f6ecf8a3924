-- Literal strings (Lua 5.1 manual, 2.1).
use Rattle.std.specs.Prelude.{ℕ, zero, suc, ◌+◌, ◌-◌, min, max, Bool, ◌&&◌, ◌||◌, ◌==◌, nat_lt, nat_le, List, [], ◌∷◌, take, drop, length, slice_index, Option}
use Rattle.std.specs.Prelude.{Some, None, Result, Ok, Err, option_map, ok_or, if◌then◌else◌}
use Rattle.std.specs.List.{prefix_len}
use Rattle.std.specs.Char.{is_ascii_digit}
use Rattle.std.specs.Str.Parse.{digits_value}
use Rattle.lua_lexer.specs.declared.tokens.LexFault.{LexFault}
use Rattle.lua_lexer.specs.declared.tokens.LexFault.TheVariants.{BadEscape, OpenString}
use Rattle.lua_lexer.specs.declared.tokens.TokenKind.TheVariants.{Text}
use Rattle.lua_lexer.specs.declared.tokens.Piece.{Piece}
use Rattle.lua_lexer.specs.declared.strings.Element.{Element}
use Rattle.lua_lexer.specs.Characters.{is_line_byte, line_end, line_ends, unified}
use Rattle.lua_lexer.specs.Readings.{◌>>=◌}
use Rattle.lua_lexer.specs.Brackets.{after_opening, inside_len, long_size}
use Rattle.resty_base.specs.Ascii.{line_feed, carriage_return, double_quote, single_quote, backslash, letter_a, letter_b, letter_f, letter_n, letter_r}
use Rattle.resty_base.specs.Ascii.{letter_t, letter_v}

-- a quote
abbrev pub is_quote : ℕ → Bool
is_quote c = c == double_quote || c == single_quote

-- how many bytes after a byte of a short string belong to it: after a backslash the next byte or a whole line end
unfoldable pub taken_along : ℕ → List ℕ → ℕ
taken_along c after = if c == backslash then min (max (line_end after) 1) (length after) else 0

-- how many bytes after the first so many stand before the quote, or before the line's end where the string isn't closed
unfoldable pub body_after : ℕ → ℕ → List ℕ → ℕ
body_after quote skipped [] = 0
body_after quote (suc skipped) (c ∷ cs) = body_after quote skipped cs + 1
body_after quote zero (c ∷ cs) =
    if c == quote || is_line_byte c then 0 else body_after quote (taken_along c cs) cs + 1

-- how many bytes of a short string stand between its quotes; it is closed where the quote stands after them
abbrev pub body_len : ℕ → List ℕ → ℕ
body_len quote text = body_after quote 0 text

-- what the letter, backslash or quote after a backslash stands for
unfoldable pub escaped_byte : ℕ → Option ℕ
escaped_byte c =
    if c == letter_a then Some 7 else if c == letter_b then Some 8 else if c == letter_f then Some 12 else if c == letter_n then Some line_feed
    else if c == letter_r then Some carriage_return else if c == letter_t then Some 9 else if c == letter_v then Some 11
    else if c == backslash || is_quote c then Some c else None

-- one to three digits stand for the byte of that number, which is at most 255
unfoldable pub digits_escape : List ℕ → Option Element
digits_escape text =
    let digits = take (prefix_len is_ascii_digit (take 3 text)) text in
    if nat_le (digits_value 10 digits) 255 then Some (record { byte = digits_value 10 digits; size = length digits }) else None

-- the byte that stands after a backslash, and how many bytes write it there
unfoldable pub escape : List ℕ → Option Element
escape text =
    let first = slice_index text 0 in
    if is_line_byte first then Some (record { byte = line_feed; size = line_end text })
    else if is_ascii_digit first then digits_escape text
    else option_map (λ byte. record { byte = byte; size = 1 }) (escaped_byte first)

-- the first byte that a short string's body stands for, and how many bytes write it (a backslash with nothing after it
-- is left as it is, since its string is open)
unfoldable pub first_element : ℕ → List ℕ → Result Element LexFault
first_element line text =
    if slice_index text 0 == backslash && nat_lt 1 (length text)
    then ok_or (option_map (λ escaped. record { byte = escaped.byte; size = escaped.size + 1 }) (escape (drop 1 text))) (BadEscape line)
    else Ok (record { byte = slice_index text 0; size = 1 })

-- what a body stands for after its first so many bytes, of which the next is on that line
unfoldable pub decoded_after : ℕ → ℕ → List ℕ → Result (List ℕ) LexFault
decoded_after skipped line [] = Ok []
decoded_after (suc skipped) line (c ∷ cs) = decoded_after skipped line cs
decoded_after zero line (c ∷ cs) =
    first_element line (c ∷ cs)
    >>= (λ first. decoded_after (first.size - 1) (line + line_ends (take first.size (c ∷ cs))) cs
    >>= (λ bytes. Ok (first.byte ∷ bytes)))

-- what the body of a short string stands for
abbrev pub decoded : ℕ → List ℕ → Result (List ℕ) LexFault
decoded line body = decoded_after 0 line body

-- the short string at the front, after its quote: first a wrong escape in it, then an open end
unfoldable pub short_string : ℕ → List ℕ → Result Piece LexFault
short_string line text =
    let quote = slice_index text 0 in
    let after = drop 1 text in
    let len = body_len quote after in
    decoded line (take len after)
    >>= (λ bytes. if slice_index after len == quote then Ok (record { kind = Some (Text bytes); size = len + 2 }) else Err (OpenString line))

-- the string that stands in long brackets, as many bytes between them: no escapes, one LF for each line end, and none
-- for a line end that stands first
unfoldable pub long_string_of : List ℕ → ℕ → Piece
long_string_of text len =
    let inside = take len (after_opening text) in
    record { kind = Some (Text (unified (drop (line_end inside) inside))); size = long_size text len }

-- the string in long brackets at the front
unfoldable pub long_string : ℕ → List ℕ → Result Piece LexFault
long_string line text = ok_or (option_map (long_string_of text) (inside_len text)) (OpenString line)
