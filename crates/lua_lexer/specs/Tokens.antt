-- The tokens of a Lua text, computed: at each index the longest piece, which is blanks, a comment or a token (`Lexical`).
use Rattle.std.specs.Prelude.{ℕ, zero, suc, ◌+◌, ◌-◌, nat_lt, List, [], ◌∷◌, ◌++◌, take, length, slice_index, Option, Some, None, Result, Ok, Err, option_map}
use Rattle.std.specs.Prelude.{ok_or, if◌then◌else◌}
use Rattle.std.specs.List.{prefix_len}
use Rattle.std.specs.Char.{is_ascii_digit}
use Rattle.lua_lexer.specs.declared.tokens.LexFault.{LexFault}
use Rattle.lua_lexer.specs.declared.tokens.LexFault.TheVariants.{OpenComment, TooLong}
use Rattle.lua_lexer.specs.declared.tokens.TokenKind.{TokenKind}
use Rattle.lua_lexer.specs.declared.tokens.Token.{Token}
use Rattle.lua_lexer.specs.declared.tokens.Piece.{Piece}
use Rattle.lua_lexer.specs.Readings.{◌>>=◌}
use Rattle.lua_numbers.specs.NumberText.{is_blank}
use Rattle.lua_lexer.specs.Characters.{is_word_start, line_ends}
use Rattle.lua_lexer.specs.Brackets.{opens}
use Rattle.lua_lexer.specs.Comments.{is_comment, comment_size}
use Rattle.lua_lexer.specs.Strings.{is_quote, short_string, long_string}
use Rattle.lua_lexer.specs.Numerals.{numeral}
use Rattle.lua_lexer.specs.Words.{name_or_word}
use Rattle.lua_lexer.specs.Signs.{longest_sign}

-- a piece that is no token
abbrev pub skipped_piece : ℕ → Piece
skipped_piece size = record { kind = None; size = size }

-- the comment at the front
unfoldable pub comment : ℕ → List ℕ → Result Piece LexFault
comment line text = ok_or (option_map skipped_piece (comment_size text)) (OpenComment line)

-- the piece at the front of a text, or the fault that is met in it; one case a rule
unfoldable pub piece : ℕ → List ℕ → Result Piece LexFault
piece line text =
    let first = slice_index text 0 in
    if is_blank first then Ok (skipped_piece (prefix_len is_blank text))
    else if is_word_start first then Ok (name_or_word text)
    else if is_ascii_digit first then numeral line text
    else if is_quote first then short_string line text
    else if is_comment text then comment line text
    else if opens text then long_string line text
    else longest_sign line text

-- the token that a piece with those ends is, where it is one
abbrev pub token_of : ℕ → ℕ → Option TokenKind → ℕ → List Token
token_of line start (Some kind) end = record { kind = kind; line = line; start = start; end = end } ∷ []
token_of line start None end = []

-- the tokens after the first so many bytes of what stands at an index and on a line
unfoldable pub tokens_after : ℕ → ℕ → ℕ → List ℕ → Result (List Token) LexFault
tokens_after skipped line start [] = Ok []
tokens_after (suc skipped) line start (c ∷ cs) = tokens_after skipped line (start + 1) cs
tokens_after zero line start (c ∷ cs) =
    piece line (c ∷ cs)
    >>= (λ found. tokens_after (found.size - 1) (line + line_ends (take found.size (c ∷ cs))) (start + 1) cs
    >>= (λ more. Ok (token_of line start found.kind (start + found.size) ++ more)))

-- the tokens of a text that begins on that line, or the first fault in it, however long it is
abbrev pub tokens_of : ℕ → List ℕ → Result (List Token) LexFault
tokens_of line text = tokens_after 0 line 0 text

-- the same, within the limit on the length
unfoldable pub lexed : ℕ → List ℕ → Result (List Token) LexFault
lexed line text = if nat_lt 1_048_576 (length text) then Err (TooLong line) else tokens_of line text
