-- The other tokens (Lua 5.1 manual, 2.1). The longest one is taken.
use Rattle.std.specs.Prelude.{ℕ, ◌&&◌, ◌==◌, List, slice_index, Option, Some, None, Result, Ok, Err, option_map, ok_or, if◌then◌else◌}
use Rattle.std.specs.Char.{is_ascii_digit}
use Rattle.lua_lexer.specs.declared.tokens.LexFault.{LexFault}
use Rattle.lua_lexer.specs.declared.tokens.LexFault.TheVariants.{BadByte, Fraction}
use Rattle.lua_lexer.specs.declared.tokens.TokenKind.TheVariants.{Sign as SignKind}
use Rattle.lua_lexer.specs.declared.tokens.Piece.{Piece}
use Rattle.lua_lexer.specs.declared.signs.Sign.{Sign}
use Rattle.lua_lexer.specs.declared.signs.Sign.TheVariants.{Plus, Minus, Star, Slash, Percent, Caret, Hash, Equal, NotEqual, LessEqual, GreaterEqual, Less}
use Rattle.lua_lexer.specs.declared.signs.Sign.TheVariants.{Greater, Assign, OpenParenthesis, CloseParenthesis, OpenBrace, CloseBrace, OpenBracket}
use Rattle.lua_lexer.specs.declared.signs.Sign.TheVariants.{CloseBracket, Semicolon, Colon, Comma, Dot, Concat, Ellipsis}
use Rattle.resty_base.specs.Ascii.{hash, percent, open_parenthesis, close_parenthesis, star, plus, comma, dash, dot, slash, colon, semicolon, less, equals}
use Rattle.resty_base.specs.Ascii.{greater, open_bracket, close_bracket, caret, open_brace, close_brace, tilde}

-- the sign that a byte is
unfoldable pub sign_of_one : ℕ → Option Sign
sign_of_one c =
    if c == plus then Some Plus else if c == dash then Some Minus else if c == star then Some Star else if c == slash then Some Slash
    else if c == percent then Some Percent else if c == caret then Some Caret else if c == hash then Some Hash
    else if c == less then Some Less else if c == greater then Some Greater else if c == equals then Some Assign
    else if c == open_parenthesis then Some OpenParenthesis else if c == close_parenthesis then Some CloseParenthesis
    else if c == open_brace then Some OpenBrace else if c == close_brace then Some CloseBrace
    else if c == open_bracket then Some OpenBracket else if c == close_bracket then Some CloseBracket
    else if c == semicolon then Some Semicolon else if c == colon then Some Colon else if c == comma then Some Comma
    else if c == dot then Some Dot else None

-- the sign that two bytes are
unfoldable pub sign_of_two : ℕ → ℕ → Option Sign
sign_of_two first second =
    if first == dot && second == dot then Some Concat
    else if second == equals then
    (if first == equals then Some Equal else if first == tilde then Some NotEqual
    else if first == less then Some LessEqual else if first == greater then Some GreaterEqual else None)
    else None

-- the token of a sign
abbrev pub sign_piece : Sign → ℕ → Piece
sign_piece sign size = record { kind = Some (SignKind sign); size = size }

-- the sign of one byte at the front; a point before a digit is a fraction
unfoldable pub short_sign : ℕ → List ℕ → Result Piece LexFault
short_sign line text =
    if slice_index text 0 == dot && is_ascii_digit (slice_index text 1) then Err (Fraction line)
    else ok_or (option_map (λ sign. sign_piece sign 1) (sign_of_one (slice_index text 0))) (BadByte line)

-- the sign of two bytes where there is one, and else what was read in its stead
abbrev pub sign_or : Option Sign → Result Piece LexFault → Result Piece LexFault
sign_or (Some sign) otherwise = Ok (sign_piece sign 2)
sign_or None otherwise = otherwise

-- the longest sign at the front
unfoldable pub longest_sign : ℕ → List ℕ → Result Piece LexFault
longest_sign line text =
    let first = slice_index text 0 in
    let second = slice_index text 1 in
    if first == dot && second == dot && slice_index text 2 == dot then Ok (sign_piece Ellipsis 3)
    else sign_or (sign_of_two first second) (short_sign line text)
