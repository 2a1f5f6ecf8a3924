-- The lexical rules of Lua (Lua 5.1 manual, 2.1; numerals are whole): which bytes are a piece of a text, which faults there
-- are, and how pieces follow one another. A relation: nothing here says how a text is read.
use Rattle.std.specs.Prelude.{◌≡◌, ◌≢◌, ◌<◌, ◌≤◌, ℕ, ◌+◌, true, false, not, ◌||◌, ℤ, List, [], ◌∷◌, ◌++◌, length, drop, replicate, slice_index}
use Rattle.std.specs.Prelude.{Option, Some, None, ◌⊎◌}
use Rattle.std.specs.List.{AllPass}
use Rattle.std.specs.Char.{is_ascii_digit, is_ascii_hexdigit}
use Rattle.std.specs.Str.Parse.{digits_value}
use Rattle.resty_base.specs.Ascii.{backslash, close_bracket, dash, digit_zero, dot, equals, letter_x, line_feed, open_bracket}
use Rattle.lua_numbers.specs.NumberText.{is_blank, number_in}
use Rattle.lua_lexer.specs.declared.signs.Sign.{Sign}
use Rattle.lua_lexer.specs.declared.words.Word.{Word}
use Rattle.lua_lexer.specs.declared.tokens.LexFault.{LexFault}
use Rattle.lua_lexer.specs.declared.tokens.LexFault.TheVariants.{BadByte, BadEscape, Fraction, OpenComment, OpenString, Range, TooLong}
use Rattle.lua_lexer.specs.declared.tokens.Token.{Token}
use Rattle.lua_lexer.specs.declared.tokens.TokenKind.{TokenKind}
use Rattle.lua_lexer.specs.declared.tokens.TokenKind.TheVariants.{Name, Number, Sign as SignKind, Text, Word as WordKind}
use Rattle.lua_lexer.specs.Characters.{is_line_byte, is_word_byte, is_word_start, line_end, line_ends, unified}
use Rattle.lua_lexer.specs.Numerals.{is_fraction_mark}
use Rattle.lua_lexer.specs.Strings.{escaped_byte, is_quote}
use Rattle.lua_lexer.specs.Words.{spelling}
use Rattle.lua_lexer.specs.Writing.{IsName, sign_bytes}

-- the first byte of what follows; 0 where nothing does, which is in no class
abbrev pub first_of : List ℕ → ℕ
first_of after = slice_index after 0

-- an opening long bracket of a level: "an opening square bracket followed by n equal signs followed by another opening
-- square bracket"; a closing one is defined alike
abbrev pub opening : ℕ → List ℕ
opening level = open_bracket ∷ (replicate level equals ++ open_bracket ∷ [])

abbrev pub closing : ℕ → List ℕ
closing level = close_bracket ∷ (replicate level equals ++ close_bracket ∷ [])

-- an opening long bracket of some level stands at the front
pub record Opens (text : List ℕ) : Type 0 where
  pub level : ℕ
  pub after : List ℕ
  pub parts : text ≡ opening level ++ after

-- a closing long bracket of the level stands in the text, after these bytes
pub record Closes (level : ℕ) (text before : List ℕ) : Type 0 where
  pub after : List ℕ
  pub parts : text ≡ before ++ (closing level ++ after)

-- long brackets with what stands between them, which end "at the first closing long bracket of the same level"
pub record IsInBrackets (piece after inside : List ℕ) : Type 0 where
  pub level : ℕ
  pub parts : piece ≡ opening level ++ (inside ++ closing level)
  pub first : (before : List ℕ) → Closes level (inside ++ (closing level ++ after)) before → length inside ≤ length before

-- digits after a backslash: "up to three", and all that stand there
pub record IsDigits (digits after : List ℕ) : Type 0 where
  pub some : 0 < length digits
  pub most : length digits ≤ 3
  pub all : AllPass is_ascii_digit digits
  pub whole : length digits < 3 → is_ascii_digit (first_of after) ≡ false

-- one line end, whole: LF, CR, CR LF or LF CR
pub record IsLineEnd (ends after : List ℕ) : Type 0 where
  pub some : 0 < length ends
  pub whole : line_end (ends ++ after) ≡ length ends

-- bytes of a short string that stand for one byte, by what stands after them
pub data IsElement (quote : ℕ) (after : List ℕ) : List ℕ → ℕ → Type 0 where
  plain : {c : ℕ} → c ≢ quote → c ≢ backslash → is_line_byte c ≡ false → IsElement quote after (c ∷ []) c
  letter : {c byte : ℕ} → escaped_byte c ≡ Some byte → IsElement quote after (backslash ∷ c ∷ []) byte
  line : {ends : List ℕ} → IsLineEnd ends after → IsElement quote after (backslash ∷ ends) line_feed
  digits : {digits : List ℕ} → IsDigits digits after → digits_value 10 digits ≤ 255 → IsElement quote after (backslash ∷ digits) (digits_value 10 digits)

-- what stands in a short string up to what stands after it, and the bytes that it stands for
pub data IsBody (quote : ℕ) (after : List ℕ) : List ℕ → List ℕ → Type 0 where
  empty : IsBody quote after [] []
  more : {element rest bytes : List ℕ} {byte : ℕ} → IsElement quote (rest ++ after) element byte → IsBody quote after rest bytes
      → IsBody quote after (element ++ rest) (byte ∷ bytes)

-- the string between long brackets: one LF for each line end, and none for a line end that stands first
abbrev pub long_text : List ℕ → List ℕ
long_text inside = unified (drop (line_end inside) inside)

-- decimal digits, with which no letter, digit, underscore or point goes on
pub record IsDecimal (piece after : List ℕ) : Type 0 where
  pub some : 0 < length piece
  pub all : AllPass is_ascii_digit piece
  pub ends : (is_word_byte (first_of after) || is_fraction_mark (first_of after)) ≡ false

-- `0x` and hexadecimal digits, with which no letter, digit or underscore goes on
pub record IsHexadecimal (piece after : List ℕ) : Type 0 where
  pub digits : List ℕ
  pub parts : piece ≡ digit_zero ∷ letter_x ∷ digits
  pub some : 0 < length digits
  pub all : AllPass is_ascii_hexdigit digits
  pub ends : is_word_byte (first_of after) ≡ false

-- no comment, no long bracket and no numeral begins at the front
pub record BeginsSign (text : List ℕ) : Type 0 where
  pub no_comment : (after : List ℕ) → text ≢ dash ∷ dash ∷ after
  pub no_bracket : ¬ (Opens text)
  pub no_numeral : (digit : ℕ) (after : List ℕ) → is_ascii_digit digit ≡ true → text ≢ dot ∷ digit ∷ after

-- The pieces of a text, one constructor a rule: a token of that kind, or blanks or a comment, by what stands after it.
pub data IsPiece (piece after : List ℕ) : Option TokenKind → Type 0 where
  blanks : 0 < length piece → AllPass is_blank piece → IsPiece piece after None
  short_comment : {text : List ℕ} → piece ≡ dash ∷ dash ∷ text → AllPass (λ c. not (is_line_byte c)) text → ¬ (Opens (text ++ after)) → IsPiece piece after None
  long_comment : {brackets inside : List ℕ} → piece ≡ dash ∷ dash ∷ brackets → IsInBrackets brackets after inside → IsPiece piece after None
  name : IsName piece → IsPiece piece after (Some (Name piece))
  keyword : {word : Word} → piece ≡ spelling word → IsPiece piece after (Some (WordKind word))
  decimal : {number : ℤ} → IsDecimal piece after → number_in piece ≡ Some number → IsPiece piece after (Some (Number number))
  hexadecimal : {number : ℤ} → IsHexadecimal piece after → number_in piece ≡ Some number → IsPiece piece after (Some (Number number))
  short_string : {quote : ℕ} {body bytes : List ℕ} → is_quote quote ≡ true → piece ≡ quote ∷ (body ++ quote ∷ [])
      → IsBody quote (quote ∷ after) body bytes → IsPiece piece after (Some (Text bytes))
  long_string : {inside : List ℕ} → IsInBrackets piece after inside → IsPiece piece after (Some (Text (long_text inside)))
  sign : {sign : Sign} → piece ≡ sign_bytes sign → BeginsSign (piece ++ after) → IsPiece piece after (Some (SignKind sign))

-- The next piece of a text: its first bytes are a piece, and no longer first part of it is one.
pub record IsNext (text piece after : List ℕ) (kind : Option TokenKind) : Type 0 where
  pub parts : text ≡ piece ++ after
  pub is : IsPiece piece after kind
  pub longest : (longer rest : List ℕ) (other : Option TokenKind) → text ≡ longer ++ rest → IsPiece longer rest other → length longer ≤ length piece

-- where a short string goes no further: at a line's end, at the text's, or at a backslash that stands last
abbrev pub BreaksOff : List ℕ → Type 0
BreaksOff after = (after ≡ []) ⊎ (after ≡ backslash ∷ []) ⊎ (is_line_byte (first_of after) ≡ true)

-- what is no escape, after a backslash
pub data IsNoEscape (text : List ℕ) : Type 0 where
  letter : {c : ℕ} {after : List ℕ} → text ≡ c ∷ after → is_line_byte c ≡ false → is_ascii_digit c ≡ false → escaped_byte c ≡ None → IsNoEscape text
  number : {digits after : List ℕ} → text ≡ digits ++ after → IsDigits digits after → 255 < digits_value 10 digits → IsNoEscape text

-- What is wrong at the front of a text, one constructor a cause.
pub data IsFault (line : ℕ) (text : List ℕ) : LexFault → Type 0 where
  open_quote : {quote : ℕ} {body after bytes : List ℕ} → is_quote quote ≡ true → text ≡ quote ∷ (body ++ after) → IsBody quote after body bytes
      → BreaksOff after → IsFault line text (OpenString line)
  bad_escape : {quote : ℕ} {body after bytes : List ℕ} → is_quote quote ≡ true → text ≡ quote ∷ (body ++ backslash ∷ after)
      → IsBody quote (backslash ∷ after) body bytes → IsNoEscape after → IsFault line text (BadEscape (line + line_ends body))
  open_string : (level : ℕ) (after : List ℕ) → text ≡ opening level ++ after → ((before : List ℕ) → ¬ (Closes level after before))
      → IsFault line text (OpenString line)
  open_comment : (level : ℕ) (after : List ℕ) → text ≡ dash ∷ dash ∷ (opening level ++ after) → ((before : List ℕ) → ¬ (Closes level after before))
      → IsFault line text (OpenComment line)
  -- a numeral with a fraction or an exponent, with a letter, without digits, or above 99,999,999,999,999
  fraction : (digits after : List ℕ) → text ≡ digits ++ after → 0 < length digits → AllPass is_ascii_digit digits
      → is_fraction_mark (first_of after) ≡ true → IsFault line text (Fraction line)
  point : {digit : ℕ} {after : List ℕ} → text ≡ dot ∷ digit ∷ after → is_ascii_digit digit ≡ true → IsFault line text (Fraction line)
  letter : (digits after : List ℕ) → text ≡ digits ++ after → 0 < length digits → AllPass is_ascii_digit digits → is_word_start (first_of after) ≡ true
      → is_fraction_mark (first_of after) ≡ false → ((rest : List ℕ) → text ≢ digit_zero ∷ letter_x ∷ rest) → IsFault line text (BadByte line)
  no_hexadecimal : (digits after : List ℕ) → text ≡ digit_zero ∷ letter_x ∷ (digits ++ after) → AllPass is_ascii_hexdigit digits
      → is_ascii_hexdigit (first_of after) ≡ false → (length digits ≡ 0) ⊎ (is_word_byte (first_of after) ≡ true) → IsFault line text (BadByte line)
  range : {piece after : List ℕ} → text ≡ piece ++ after → IsDecimal piece after ⊎ IsHexadecimal piece after → number_in piece ≡ None
      → IsFault line text (Range line)
  -- a byte with which no piece begins
  no_piece : {c : ℕ} {after : List ℕ} → text ≡ c ∷ after → is_blank c ≡ false → is_word_byte c ≡ false → is_quote c ≡ false
      → ((sign : Sign) (rest : List ℕ) → text ≢ sign_bytes sign ++ rest) → IsFault line text (BadByte line)

-- A text that begins on a line and at an index is cut into pieces, each the longest, and these of them are its tokens.
pub data Lexes : ℕ → ℕ → List ℕ → List Token → Type 0 where
  end : {line start : ℕ} → Lexes line start [] []
  token : {line start : ℕ} {text piece after : List ℕ} {kind : TokenKind} {tokens : List Token} → IsNext text piece after (Some kind)
      → Lexes (line + line_ends piece) (start + length piece) after tokens
      → Lexes line start text (record { kind = kind; line = line; start = start; end = start + length piece } ∷ tokens)
  skipped : {line start : ℕ} {text piece after : List ℕ} {tokens : List Token} → IsNext text piece after None
      → Lexes (line + line_ends piece) (start + length piece) after tokens → Lexes line start text tokens

-- Up to its first fault a text that begins on a line is cut into pieces in the same way.
pub data Faults : ℕ → List ℕ → LexFault → Type 0 where
  here : {line : ℕ} {text : List ℕ} {fault : LexFault} → IsFault line text fault → Faults line text fault
  later : {line : ℕ} {text piece after : List ℕ} {kind : Option TokenKind} {fault : LexFault} → IsNext text piece after kind
      → Faults (line + line_ends piece) after fault → Faults line text fault

-- the tokens of a text within the limit, which begins on a line
pub record HasTokens (line : ℕ) (text : List ℕ) (tokens : List Token) : Type 0 where
  pub within : length text ≤ 1_048_576
  pub lexes : Lexes line 0 text tokens

-- the first fault of a text that begins on a line; that it is too long comes before all others
pub data HasFault (line : ℕ) (text : List ℕ) : LexFault → Type 0 where
  too_long : 1_048_576 < length text → HasFault line text (TooLong line)
  within : {fault : LexFault} → length text ≤ 1_048_576 → Faults line text fault → HasFault line text fault
