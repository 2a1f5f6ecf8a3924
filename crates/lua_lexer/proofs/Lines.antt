-- Names, keywords, numerals and signs have no line end in them.
use Rattle.std.proofs.Common.{◌≡◌, ℕ, Bool, true, false, List, [], ◌∷◌, length, Option, refl, ◌∙◌, arith}
use Rattle.std.specs.List.{prefix_len, AllPass}
use Rattle.std.specs.Char.{is_ascii_digit, is_ascii_hexdigit}
use Rattle.std.proofs.lemmas.Bool.Decides.{nat_tests}
use Rattle.std.proofs.lemmas.List.Sums.{prefix_len_passes}
use Rattle.lua_lexer.specs.declared.signs.Sign.{Sign}
use Rattle.lua_lexer.specs.declared.signs.Sign.TheVariants.{Plus, Minus, Star, Slash, Percent, Caret, Hash, Equal, NotEqual, LessEqual, GreaterEqual, Less}
use Rattle.lua_lexer.specs.declared.signs.Sign.TheVariants.{Greater, Assign, OpenParenthesis, CloseParenthesis, OpenBrace, CloseBrace, OpenBracket}
use Rattle.lua_lexer.specs.declared.signs.Sign.TheVariants.{CloseBracket, Semicolon, Colon, Comma, Dot, Concat, Ellipsis}
use Rattle.lua_lexer.specs.declared.tokens.TokenKind.{TokenKind}
use Rattle.lua_lexer.specs.Characters.{is_line_byte, is_word_byte, line_end, line_ends, line_ends_after}
use Rattle.lua_lexer.specs.Lexical.{IsHexadecimal, IsPiece}
use Rattle.lua_lexer.specs.Pieces.{may_end_lines}
use Rattle.lua_lexer.specs.Words.{spelling}
use Rattle.lua_lexer.specs.Writing.{sign_bytes}
use Rattle.lua_lexer.proofs.Runs.{all_rest}
use Rattle.lua_lexer.proofs.StringPieces.{digit_no_line, line_quiet}
use Rattle.lua_lexer.proofs.WordPieces.{keyword_run}

word_no_line : (c : ℕ) → is_word_byte c ≡ true → is_line_byte c ≡ false
word_no_line c is = grind (arith, nat_tests)

hexadecimal_no_line : (c : ℕ) → is_ascii_hexdigit c ≡ true → is_line_byte c ≡ false
hexadecimal_no_line c is = grind (arith, nat_tests)

-- bytes of a class that has no line byte
quiet : (p : ℕ → Bool) → ((c : ℕ) → p c ≡ true → is_line_byte c ≡ false) → (bytes : List ℕ) → AllPass p bytes → line_ends bytes ≡ 0
unfolding line_ends_after
quiet p other [] all = refl
quiet p other (c ∷ cs) all = line_quiet c cs (other c (all 0 0 (omega arith))) ∙ quiet p other cs (all_rest p c cs all)

word_quiet : (bytes : List ℕ) → prefix_len is_word_byte bytes ≡ length bytes → line_ends bytes ≡ 0
word_quiet bytes run = quiet is_word_byte word_no_line bytes (λ k d below. prefix_len_passes is_word_byte bytes k d (omega (arith, below, run)))

hexadecimal_quiet : (bytes after : List ℕ) → IsHexadecimal bytes after → line_ends bytes ≡ 0
hexadecimal_quiet bytes after is =
    rw is.parts (line_quiet 48 (120 ∷ is.digits) refl ∙ line_quiet 120 is.digits refl ∙ quiet is_ascii_hexdigit hexadecimal_no_line is.digits is.all)

sign_quiet : (sign : Sign) → line_ends (sign_bytes sign) ≡ 0
unfolding sign_bytes line_ends_after line_end
sign_quiet Plus = refl
sign_quiet Minus = refl
sign_quiet Star = refl
sign_quiet Slash = refl
sign_quiet Percent = refl
sign_quiet Caret = refl
sign_quiet Hash = refl
sign_quiet Equal = refl
sign_quiet NotEqual = refl
sign_quiet LessEqual = refl
sign_quiet GreaterEqual = refl
sign_quiet Less = refl
sign_quiet Greater = refl
sign_quiet Assign = refl
sign_quiet OpenParenthesis = refl
sign_quiet CloseParenthesis = refl
sign_quiet OpenBrace = refl
sign_quiet CloseBrace = refl
sign_quiet OpenBracket = refl
sign_quiet CloseBracket = refl
sign_quiet Semicolon = refl
sign_quiet Colon = refl
sign_quiet Comma = refl
sign_quiet Dot = refl
sign_quiet Concat = refl
sign_quiet Ellipsis = refl

pub no_lines_in : (bytes after : List ℕ) (kind : Option TokenKind) → IsPiece bytes after kind → may_end_lines kind ≡ false → line_ends bytes ≡ 0
no_lines_in bytes after kind (IsPiece.blanks some all) none = absurd (cc)
no_lines_in bytes after kind (IsPiece.short_comment {text} is all never) none = absurd (cc)
no_lines_in bytes after kind (IsPiece.long_comment {brackets} {inside} is within) none = absurd (cc)
no_lines_in bytes after kind (IsPiece.name is) none = word_quiet bytes is.bytes
no_lines_in bytes after kind (IsPiece.keyword {word} is) none = rw is (word_quiet (spelling word) (keyword_run word))
no_lines_in bytes after kind (IsPiece.decimal {number} is value) none = quiet is_ascii_digit digit_no_line bytes is.all
no_lines_in bytes after kind (IsPiece.hexadecimal {number} is value) none = hexadecimal_quiet bytes after is
no_lines_in bytes after kind (IsPiece.short_string {quote} {body} {bytes = value} is parts inside) none = absurd (cc)
no_lines_in bytes after kind (IsPiece.long_string {inside} is) none = absurd (cc)
no_lines_in bytes after kind (IsPiece.sign {sign} is begins) none = rw is (sign_quiet sign)
