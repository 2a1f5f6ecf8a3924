-- A string whose bytes are all written as escapes.
use Rattle.std.proofs.Common.{◌≡◌, ℕ, ◌+◌, ◌/◌, ◌%◌, ◌<◌, ◌≤◌, true, false, List, [], ◌∷◌, ◌++◌, length, take, Some, Ok, refl, ap, ◌∙◌, append_assoc, arith, lit<, length-append}
use Rattle.std.specs.Prelude.{◌==◌, nat_lt, nat_le, flat_map}
use Rattle.std.specs.Char.{digit_value, is_ascii_digit}
use Rattle.std.specs.Str.Parse.{digits_value}
use Rattle.std.proofs.Math.Seq.{take-append_seam, get_or-append_seam}
use Rattle.std.proofs.lemmas.Bool.Decides.{nat_tests}
use Rattle.std.proofs.lemmas.Str.{digit_value_digit}
use Rattle.lua_lexer.specs.Characters.{is_line_byte, line_end, line_ends}
use Rattle.lua_lexer.specs.Strings.{taken_along, body_after, digits_escape, escape, first_element, decoded_after, short_string}
use Rattle.lua_lexer.specs.Tokens.{piece}
use Rattle.lua_lexer.specs.Writing.{escaped, AreBytes}
use Rattle.lua_lexer.specs.declared.tokens.TokenKind.TheVariants.{Text}
use Rattle.lua_lexer.proofs.Fronts.{with_front}
use Rattle.lua_lexer.proofs.Bodies.{decoded_step}

-- a digit
record IsDigit (c : ℕ) : Type 0 where
  least : 48 ≤ c
  greatest : c ≤ 57

module _ {c : ℕ} (digit : IsDigit c) where
  no_line_byte : is_line_byte c ≡ false
  no_line_byte = let low = digit.least in grind (arith, nat_tests, low)

  no_quote : (c == 34) ≡ false
  no_quote = let low = digit.least in grind (arith, nat_tests, low)

  no_backslash : (c == 92) ≡ false
  no_backslash = let high = digit.greatest in grind (arith, nat_tests, high)

  is_digit : is_ascii_digit c ≡ true
  is_digit = let low = digit.least in let high = digit.greatest in grind (arith, nat_tests, low, high)

  value_of : digit_value c + 48 ≡ c
  value_of = digit_value_digit c (digit.least, digit.greatest)

-- after a backslash a digit is taken along, alone
one_taken : (c : ℕ) (rest : List ℕ) → IsDigit c → taken_along 92 (c ∷ rest) ≡ 1
unfolding taken_along line_end
one_taken c rest digit = rw (no_line_byte digit) (omega arith)

body_digit : (c : ℕ) (rest : List ℕ) → IsDigit c → body_after 34 0 (c ∷ rest) ≡ body_after 34 0 rest + 1
unfolding body_after taken_along
body_digit c rest digit = rw (no_quote digit, no_line_byte digit, no_backslash digit) refl

body_backslash : (c : ℕ) (rest : List ℕ) → IsDigit c → body_after 34 0 (92 ∷ c ∷ rest) ≡ body_after 34 0 rest + 2
unfolding body_after
body_backslash c rest digit = rw (one_taken c rest digit) (omega arith)

hundreds : (byte : ℕ) → byte < 256 → IsDigit (48 + byte / 100)
hundreds byte small = record { least = omega arith; greatest = omega arith }

tens : (byte : ℕ) → IsDigit (48 + byte / 10 % 10)
tens byte = record { least = omega arith; greatest = omega arith }

ones : (byte : ℕ) → IsDigit (48 + byte % 10)
ones byte = record { least = omega arith; greatest = omega arith }

body_escaped : (bytes tail : List ℕ) → AreBytes bytes → body_after 34 0 (flat_map escaped bytes ++ 34 ∷ tail) ≡ length (flat_map escaped bytes)
unfolding body_after
body_escaped [] tail all = refl
body_escaped (b ∷ bs) tail all =
    let more = body_escaped bs tail all.1 in
    let rest = flat_map escaped bs ++ 34 ∷ tail in
    let two = body_backslash (48 + b / 100) ((48 + b / 10 % 10) ∷ (48 + b % 10) ∷ rest) (hundreds b all.0) in
    let three = body_digit (48 + b / 10 % 10) ((48 + b % 10) ∷ rest) (tens b) in
    let four = body_digit (48 + b % 10) rest (ones b) in
    omega (arith, two, three, four, more)

three_digits : (a b c byte : ℕ) (rest : List ℕ) → IsDigit a → IsDigit b → IsDigit c → digits_value 10 (a ∷ b ∷ c ∷ []) ≡ byte → byte < 256
    → digits_escape (a ∷ b ∷ c ∷ rest) ≡ Some (record { byte = byte; size = 3 })
unfolding digits_escape
three_digits a b c byte rest first second third value small =
    let within : nat_le byte 255 ≡ true = grind (arith, nat_tests) in
    rw (is_digit first, is_digit second, is_digit third, value, within) refl

escape_read : (a b c byte : ℕ) (rest : List ℕ) → IsDigit a → IsDigit b → IsDigit c → digits_value 10 (a ∷ b ∷ c ∷ []) ≡ byte → byte < 256
    → escape (a ∷ b ∷ c ∷ rest) ≡ Some (record { byte = byte; size = 3 })
unfolding escape
escape_read a b c byte rest first second third value small =
    rw (no_line_byte first, is_digit first) (three_digits a b c byte rest first second third value small)

long_enough : (n : ℕ) → nat_lt 1 (n + 4) ≡ true
long_enough n = grind (arith, nat_tests)

element_read : (line a b c byte : ℕ) (rest : List ℕ) → IsDigit a → IsDigit b → IsDigit c → digits_value 10 (a ∷ b ∷ c ∷ []) ≡ byte → byte < 256
    → first_element line (92 ∷ a ∷ b ∷ c ∷ rest) ≡ Ok (record { byte = byte; size = 4 })
unfolding first_element
element_read line a b c byte rest first second third value small =
    let longer : length (92 ∷ a ∷ b ∷ c ∷ rest) ≡ length rest + 4 = omega arith in
    rw (longer, long_enough (length rest), escape_read a b c byte rest first second third value small) refl

digits_of_byte : (byte : ℕ) → byte < 256 → digits_value 10 ((48 + byte / 100) ∷ (48 + byte / 10 % 10) ∷ (48 + byte % 10) ∷ []) ≡ byte
digits_of_byte byte small = omega (arith, value_of (hundreds byte small), value_of (tens byte), value_of (ones byte))

decoded_escaped : (line : ℕ) (bytes : List ℕ) → AreBytes bytes → decoded_after 0 line (flat_map escaped bytes) ≡ Ok bytes
unfolding decoded_after
decoded_escaped line [] all = refl
decoded_escaped line (b ∷ bs) all =
    let rest = flat_map escaped bs in
    let text : List ℕ = escaped b ++ rest in
    let later = line + line_ends (take 4 text) in
    let read = element_read line (48 + b / 100) (48 + b / 10 % 10) (48 + b % 10) b rest (hundreds b all.0) (tens b) (ones b) (digits_of_byte b all.0) all.0 in
    decoded_step line text (record { byte = b; size = 4 }) (omega arith) read (lit< tt)
    ∙ ap (with_front (b ∷ [])) (decoded_escaped later bs all.1)

quoted : (line : ℕ) (body bytes tail : List ℕ) → body_after 34 0 (body ++ 34 ∷ tail) ≡ length body → decoded_after 0 line body ≡ Ok bytes
    → short_string line (34 ∷ (body ++ 34 ∷ tail)) ≡ Ok (record { kind = Some (Text bytes); size = length body + 2 })
unfolding short_string
quoted line body bytes tail size reads =
    rw (size, take-append_seam body (34 ∷ tail), reads, get_or-append_seam body 34 tail 0) refl

piece_quote : (line : ℕ) (text : List ℕ) → piece line (34 ∷ text) ≡ short_string line (34 ∷ text)
unfolding piece
piece_quote line text = refl

pub text_piece : (bytes : List ℕ) → AreBytes bytes → (line : ℕ) (rest : List ℕ)
    → let body = flat_map escaped bytes in
    piece line ((34 ∷ (body ++ 34 ∷ [])) ++ 32 ∷ rest) ≡ Ok (record { kind = Some (Text bytes); size = length (34 ∷ (body ++ 34 ∷ [])) })
text_piece bytes all line rest =
    let body = flat_map escaped bytes in
    let size : length body + 2 ≡ length (34 ∷ (body ++ 34 ∷ [])) = omega (arith, length-append body (34 ∷ [])) in
    ap (λ text. piece line (34 ∷ text)) (append_assoc body (34 ∷ []) (32 ∷ rest))
    ∙ piece_quote line (body ++ 34 ∷ 32 ∷ rest)
    ∙ quoted line body bytes (32 ∷ rest) (body_escaped bytes (32 ∷ rest) all) (decoded_escaped line bytes all)
    ∙ ap (λ n. Ok (record { kind = Some (Text bytes); size = n })) size
