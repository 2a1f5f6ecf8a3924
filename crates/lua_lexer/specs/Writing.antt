-- Tokens written with single blanks.
use Rattle.std.specs.Prelude.{◌≡◌, ℕ, ◌+◌, ◌/◌, ◌%◌, ◌<◌, ◌≤◌, true, List, [], ◌∷◌, ◌++◌, map, length, slice_index, pos, nat_abs, None, codes, decimal}
use Rattle.std.specs.Prelude.{flat_map}
use Rattle.std.specs.List.{prefix_len}
use Rattle.resty_base.specs.WholeNumber.{greatest_whole}
use Rattle.lua_lexer.specs.declared.signs.Sign.{Sign}
use Rattle.lua_lexer.specs.declared.signs.Sign.TheVariants.{Plus, Minus, Star, Slash, Percent, Caret, Hash, Equal, NotEqual, LessEqual, GreaterEqual, Less}
use Rattle.lua_lexer.specs.declared.signs.Sign.TheVariants.{Greater, Assign, OpenParenthesis, CloseParenthesis, OpenBrace, CloseBrace, OpenBracket}
use Rattle.lua_lexer.specs.declared.signs.Sign.TheVariants.{CloseBracket, Semicolon, Colon, Comma, Dot, Concat, Ellipsis}
use Rattle.lua_lexer.specs.declared.tokens.Token.{Token}
use Rattle.lua_lexer.specs.declared.tokens.TokenKind.{TokenKind}
use Rattle.lua_lexer.specs.declared.tokens.TokenKind.TheVariants.{Name, Text, Number, Word as WordKind, Sign as SignKind}
use Rattle.lua_lexer.specs.Characters.{is_word_start, is_word_byte}
use Rattle.lua_lexer.specs.Words.{spelling, word_of}
use Rattle.resty_base.specs.Ascii.{space, double_quote, digit_zero, backslash}

-- how a sign is written
unfoldable pub sign_bytes : Sign → List ℕ
sign_bytes Plus = codes "+"
sign_bytes Minus = codes "-"
sign_bytes Star = codes "*"
sign_bytes Slash = codes "/"
sign_bytes Percent = codes "%"
sign_bytes Caret = codes "^"
sign_bytes Hash = codes "#"
sign_bytes Equal = codes "=="
sign_bytes NotEqual = codes "~="
sign_bytes LessEqual = codes "<="
sign_bytes GreaterEqual = codes ">="
sign_bytes Less = codes "<"
sign_bytes Greater = codes ">"
sign_bytes Assign = codes "="
sign_bytes OpenParenthesis = codes "("
sign_bytes CloseParenthesis = codes ")"
sign_bytes OpenBrace = codes "{"
sign_bytes CloseBrace = codes "}"
sign_bytes OpenBracket = codes "["
sign_bytes CloseBracket = codes "]"
sign_bytes Semicolon = codes ";"
sign_bytes Colon = codes ":"
sign_bytes Comma = codes ","
sign_bytes Dot = codes "."
sign_bytes Concat = codes ".."
sign_bytes Ellipsis = codes "..."

-- a byte of a string, as an escape of three digits
abbrev pub escaped : ℕ → List ℕ
escaped byte = backslash ∷ (digit_zero + byte / 100) ∷ (digit_zero + byte / 10 % 10) ∷ (digit_zero + byte % 10) ∷ []

-- how a token is written; a string stands between double quotes
unfoldable pub written : TokenKind → List ℕ
written (Name name) = name
written (Text bytes) = double_quote ∷ (flat_map escaped bytes ++ double_quote ∷ [])
written (Number number) = decimal (nat_abs number)
written (WordKind word) = spelling word
written (SignKind sign) = sign_bytes sign

-- the tokens, with a blank after each
unfoldable pub written_out : List TokenKind → List ℕ
written_out [] = []
written_out (kind ∷ kinds) = written kind ++ space ∷ written_out kinds

-- letters, digits and underscores, no digit first, and no keyword
pub record IsName (name : List ℕ) : Type 0 where
  pub start : is_word_start (slice_index name 0) ≡ true
  pub bytes : prefix_len is_word_byte name ≡ length name
  pub no_keyword : word_of name ≡ None

-- each is a byte
abbrev pub AreBytes : List ℕ → Type 0
AreBytes [] = Unit {0}
AreBytes (byte ∷ bytes) = (byte < 256) × AreBytes bytes

-- what a token may hold: a name, bytes, or a number that isn't negative
abbrev pub IsKind : TokenKind → Type 0
IsKind (Name name) = IsName name
IsKind (Text bytes) = AreBytes bytes
IsKind (Number number) = (n : ℕ) × (number ≡ pos n) × (n ≤ greatest_whole)
IsKind (WordKind word) = Unit {0}
IsKind (SignKind sign) = Unit {0}

abbrev pub AreKinds : List TokenKind → Type 0
AreKinds [] = Unit {0}
AreKinds (kind ∷ kinds) = IsKind kind × AreKinds kinds

-- the kinds of the tokens
abbrev pub kinds_of : List Token → List TokenKind
kinds_of tokens = map (λ token. token.kind) tokens
