-- What is written of a token is the piece that it was.
use Rattle.std.proofs.Common.{◌≡◌, ℕ, suc, ◌+◌, ◌<◌, ◌≤◌, Bool, true, false, cond, List, [], ◌∷◌, ◌++◌, length, get_or, take, Option, Some, None, Result, Ok, Err, refl, ap, ◌∙◌, arith, lit<, length-append}
use Rattle.std.specs.Prelude.{◌==◌, ◌&&◌, ◌^◌, pos, option_map, ok_or, decimal as in_decimal}
use Rattle.std.specs.Char.{digit_value, is_ascii_digit}
use Rattle.std.specs.Str.Parse.{AllDigits}
use Rattle.std.proofs.lemmas.Bool.Decides.{nat_tests}
use Rattle.std.proofs.lemmas.Fmt.{decimal_is_IsNumeral}
use Rattle.std.proofs.lemmas.Str.Parse.{digit_from_value}
use Rattle.std.specs.List.{prefix_len}
use Rattle.std.proofs.Math.Seq.{take-append_seam, drop-append_seam, get_or-append_seam}
use Rattle.std.proofs.lemmas.Int.{ints}
use Rattle.lua_numbers.specs.NumberText.{is_blank, number_in}
use Rattle.lua_numbers.proofs.ReadBack.{read_back}
use Rattle.lua_lexer.specs.declared.signs.Sign.{Sign}
use Rattle.lua_lexer.specs.declared.signs.Sign.TheVariants.{Plus, Minus, Star, Slash, Percent, Caret, Hash, Equal, NotEqual, LessEqual, GreaterEqual, Less, Greater, Assign, OpenParenthesis, CloseParenthesis, OpenBrace, CloseBrace, OpenBracket, CloseBracket, Semicolon, Colon, Comma, Dot, Concat, Ellipsis}
use Rattle.lua_lexer.specs.declared.words.Word.{Word}
use Rattle.lua_lexer.specs.declared.words.Word.TheVariants.{And, Break, Do, Else, ElseIf, End, False, For, Function, If, In, Local, Nil, Not, Or, Repeat, Return, Then, True, Until, While}
use Rattle.lua_lexer.specs.declared.tokens.LexFault.{LexFault}
use Rattle.lua_lexer.specs.declared.tokens.LexFault.TheVariants.{Range}
use Rattle.lua_lexer.specs.declared.tokens.Piece.{Piece}
use Rattle.lua_lexer.specs.declared.tokens.Token.{Token}
use Rattle.lua_lexer.specs.declared.tokens.TokenKind.{TokenKind}
use Rattle.lua_lexer.specs.declared.tokens.TokenKind.TheVariants.{Name, Text, Number, Word as WordKind, Sign as SignKind}
use Rattle.lua_lexer.specs.Characters.{is_word_start, is_word_byte, line_ends}
use Rattle.lua_lexer.specs.Numerals.{number_piece, number_of, decimal, numeral}
use Rattle.lua_lexer.specs.Brackets.{level_of, is_bracket}
use Rattle.lua_lexer.specs.Comments.{is_comment}
use Rattle.lua_lexer.specs.Signs.{sign_of_one, sign_of_two, short_sign, longest_sign}
use Rattle.lua_lexer.specs.Words.{spelling, words, word_of, kind_of_word, name_or_word}
use Rattle.lua_lexer.specs.Tokens.{piece, skipped_piece, tokens_after}
use Rattle.lua_lexer.specs.Writing.{sign_bytes, written, written_out, IsName, IsKind, AreKinds, kinds_of}
use Rattle.lua_lexer.proofs.Fronts.{with_front}
use Rattle.lua_lexer.proofs.Listing.{tokens_step}
use Rattle.lua_lexer.proofs.Quoted.{text_piece}
use Rattle.lua_lexer.proofs.Classes.{word_start_not_blank, digit_not_blank, digit_not_word_start}

-- a token with a blank after it is a piece
abbrev IsPiece : TokenKind → List ℕ → Type 0
IsPiece kind bytes = (line : ℕ) (rest : List ℕ) → piece line (bytes ++ 32 ∷ rest) ≡ Ok (record { kind = Some kind; size = length bytes })

word_piece : (word : Word) → IsPiece (WordKind word) (spelling word)
unfolding piece name_or_word kind_of_word word_of words spelling
word_piece And line rest = refl
word_piece Break line rest = refl
word_piece Do line rest = refl
word_piece Else line rest = refl
word_piece ElseIf line rest = refl
word_piece End line rest = refl
word_piece False line rest = refl
word_piece For line rest = refl
word_piece Function line rest = refl
word_piece If line rest = refl
word_piece In line rest = refl
word_piece Local line rest = refl
word_piece Nil line rest = refl
word_piece Not line rest = refl
word_piece Or line rest = refl
word_piece Repeat line rest = refl
word_piece Return line rest = refl
word_piece Then line rest = refl
word_piece True line rest = refl
word_piece Until line rest = refl
word_piece While line rest = refl

sign_piece_of : (sign : Sign) → IsPiece (SignKind sign) (sign_bytes sign)
unfolding piece is_comment is_bracket level_of longest_sign short_sign sign_of_one sign_of_two sign_bytes
sign_piece_of Plus line rest = refl
sign_piece_of Minus line rest = refl
sign_piece_of Star line rest = refl
sign_piece_of Slash line rest = refl
sign_piece_of Percent line rest = refl
sign_piece_of Caret line rest = refl
sign_piece_of Hash line rest = refl
sign_piece_of Equal line rest = refl
sign_piece_of NotEqual line rest = refl
sign_piece_of LessEqual line rest = refl
sign_piece_of GreaterEqual line rest = refl
sign_piece_of Less line rest = refl
sign_piece_of Greater line rest = refl
sign_piece_of Assign line rest = refl
sign_piece_of OpenParenthesis line rest = refl
sign_piece_of CloseParenthesis line rest = refl
sign_piece_of OpenBrace line rest = refl
sign_piece_of CloseBrace line rest = refl
sign_piece_of OpenBracket line rest = refl
sign_piece_of CloseBracket line rest = refl
sign_piece_of Semicolon line rest = refl
sign_piece_of Colon line rest = refl
sign_piece_of Comma line rest = refl
sign_piece_of Dot line rest = refl
sign_piece_of Concat line rest = refl
sign_piece_of Ellipsis line rest = refl

run_case : (b : Bool) (n m k : ℕ) → cond b (1 + n) 0 ≡ suc m → (n ≡ m → k ≡ m) → cond b (1 + k) 0 ≡ suc m
run_case true n m k whole more = let same = more (omega (arith, whole)) in omega (arith, same)
run_case false n m k whole more = absurd (omega (arith, whole))

-- a run that goes over the whole front ends with it
run_before : (p : ℕ → Bool) (xs ys : List ℕ) → prefix_len p xs ≡ length xs → prefix_len p ys ≡ 0 → prefix_len p (xs ++ ys) ≡ length xs
run_before p [] ys whole stops = stops
run_before p (x ∷ xs) ys whole stops =
    run_case (p x) (prefix_len p xs) (length xs) (prefix_len p (xs ++ ys)) whole (λ same. run_before p xs ys same stops)

-- no run begins at a byte that doesn't pass
run_none : (p : ℕ → Bool) (text : List ℕ) → p (get_or text 0 0) ≡ false → prefix_len p text ≡ 0
run_none p [] stops = refl
run_none p (c ∷ cs) stops = rw stops refl

pub piece_word : (line : ℕ) (text : List ℕ) → is_word_start (get_or text 0 0) ≡ true → piece line text ≡ Ok (name_or_word text)
unfolding piece
piece_word line text starts = rw (word_start_not_blank (get_or text 0 0) starts, starts) refl

pub piece_digit : (line : ℕ) (text : List ℕ) → is_ascii_digit (get_or text 0 0) ≡ true → piece line text ≡ numeral line text
unfolding piece
piece_digit line text digit =
    rw (digit_not_blank (get_or text 0 0) digit, digit_not_word_start (get_or text 0 0) digit, digit) refl

name_read : (name rest : List ℕ) → prefix_len is_word_byte (name ++ rest) ≡ length name → word_of name ≡ None
    → name_or_word (name ++ rest) ≡ record { kind = Some (Name name); size = length name }
unfolding name_or_word kind_of_word
name_read name rest size no_keyword = rw (size, take-append_seam name rest, no_keyword) refl

name_piece : (name : List ℕ) → IsName name → IsPiece (Name name) name
name_piece [] is line rest = absurd (no_start is.start)
  where
    no_start : is_word_start 0 ≡ true → ⊥
    no_start starts = cc
name_piece (c ∷ cs) is line rest =
    piece_word line (c ∷ cs ++ 32 ∷ rest) is.start
    ∙ ap Ok (name_read (c ∷ cs) (32 ∷ rest) (run_before is_word_byte (c ∷ cs) (32 ∷ rest) is.bytes refl) is.no_keyword)

digit_of_value : (c : ℕ) → digit_value c < 10 → is_ascii_digit c ≡ true
digit_of_value c small = let range = digit_from_value c small in grind (arith, nat_tests, range)

digits_run : (ds : List ℕ) → AllDigits 10 ds → prefix_len is_ascii_digit ds ≡ length ds
digits_run [] all = refl
digits_run (c ∷ cs) all = rw (digit_of_value c all.0) (omega (arith, digits_run cs all.1))

pub digit_not_x : (c : ℕ) → is_ascii_digit c ≡ true → (c == 120) ≡ false
digit_not_x c digit = grind (arith, nat_tests)

second_not_x : (ds rest : List ℕ) → 0 < length ds → AllDigits 10 ds → (get_or (ds ++ 32 ∷ rest) 1 0 == 120) ≡ false
second_not_x [] rest some all = absurd (omega arith)
second_not_x (c ∷ []) rest some all = refl
second_not_x (c ∷ d ∷ ds) rest some all = digit_not_x d (digit_of_value d all.1.0)

and_false : (b : Bool) → (b && false) ≡ false
and_false true = refl
and_false false = refl

pub numeral_decimal : (line : ℕ) (text : List ℕ) → (get_or text 1 0 == 120) ≡ false → numeral line text ≡ decimal line text
unfolding numeral
numeral_decimal line text other = rw (other, and_false (get_or text 0 0 == 48)) refl

number_read : (line n : ℕ) (ds : List ℕ) → number_in ds ≡ Some (pos n) → number_of line ds ≡ Ok (number_piece (length ds) (pos n))
unfolding number_of
number_read line n ds worth = ap (λ read. ok_or (option_map (number_piece (length ds)) read) (Range line)) worth

decimal_read : (line n : ℕ) (ds rest : List ℕ) → prefix_len is_ascii_digit (ds ++ 32 ∷ rest) ≡ length ds → number_in ds ≡ Some (pos n)
    → decimal line (ds ++ 32 ∷ rest) ≡ Ok (number_piece (length ds) (pos n))
unfolding decimal
decimal_read line n ds rest size worth =
    rw (size, get_or-append_seam ds 32 rest 0, take-append_seam ds (32 ∷ rest)) (number_read line n ds worth)

first_digit : (ds rest : List ℕ) → 0 < length ds → AllDigits 10 ds → is_ascii_digit (get_or (ds ++ rest) 0 0) ≡ true
first_digit [] rest some all = absurd (omega arith)
first_digit (c ∷ cs) rest some all = digit_of_value c all.0

number_piece_of : (n : ℕ) → n ≤ 99_999_999_999_999 → IsPiece (Number (pos n)) (in_decimal n)
number_piece_of n within line rest =
    let fits : n < 2 ^ 64 = omega arith in
    let numeral_is = decimal_is_IsNumeral n fits in
    let worth = read_back (pos n) (omega (arith, ints)) in
    let ds = in_decimal n in
    piece_digit line (ds ++ 32 ∷ rest) (first_digit ds (32 ∷ rest) numeral_is.0.0 numeral_is.0.1)
    ∙ numeral_decimal line (ds ++ 32 ∷ rest) (second_not_x ds rest numeral_is.0.0 numeral_is.0.1)
    ∙ decimal_read line n ds rest (run_before is_ascii_digit ds (32 ∷ rest) (digits_run ds numeral_is.0.1) refl) worth

-- what is written of a token is the piece that it was
piece_of : (kind : TokenKind) → IsKind kind → IsPiece kind (written kind)
unfolding written
piece_of (Name name) is = name_piece name is
piece_of (Text bytes) is = text_piece bytes is
piece_of (Number number) is = rw is.1 (number_piece_of is.0 is.2)
piece_of (WordKind word) is = word_piece word
piece_of (SignKind sign) is = sign_piece_of sign

blank_piece : (line : ℕ) (rest : List ℕ) → prefix_len is_blank rest ≡ 0 → piece line (32 ∷ rest) ≡ Ok (skipped_piece 1)
unfolding piece
blank_piece line rest stops = rw stops refl

-- the kind of a piece that was read
abbrev kind_read : Result Piece LexFault → Option TokenKind
kind_read (Ok found) = found.kind
kind_read (Err fault) = None

-- a token's piece begins with no blank
token_not_blank : (line size : ℕ) (text : List ℕ) (kind : TokenKind) → piece line text ≡ Ok (record { kind = Some kind; size = size })
    → is_blank (get_or text 0 0) ≡ false
unfolding piece
token_not_blank line size text kind reads = by (is_blank (get_or text 0 0)) _ _ reads
  where
    by : (b : Bool) (n : ℕ) (other : Result Piece LexFault) → cond b (Ok (skipped_piece n)) other ≡ Ok (record { kind = Some kind; size = size }) → b ≡ false
    by true n other same = let none : None ≡ Some kind = ap kind_read same in cc
    by false n other same = refl

-- what is written of a token has a byte
written_some : (line size : ℕ) (bytes rest : List ℕ) (kind : TokenKind) → piece line (bytes ++ 32 ∷ rest) ≡ Ok (record { kind = Some kind; size = size })
    → 0 < length bytes
written_some line size [] rest kind reads = absurd (no_token (token_not_blank line size (32 ∷ rest) kind reads))
  where
    no_token : is_blank 32 ≡ false → ⊥
    no_token same = cc
written_some line size (c ∷ cs) rest kind reads = omega arith

no_blank : (kinds : List TokenKind) → AreKinds kinds → prefix_len is_blank (written_out kinds) ≡ 0
unfolding written_out
no_blank [] are = refl
no_blank (kind ∷ kinds) are =
    let text = written kind ++ 32 ∷ written_out kinds in
    run_none is_blank text (token_not_blank 0 _ text kind (piece_of kind are.0 0 (written_out kinds)))

pub reads_back : (kinds : List TokenKind) → AreKinds kinds → (line start : ℕ)
    → (tokens : List Token) × (tokens_after 0 line start (written_out kinds) ≡ Ok tokens) × (kinds_of tokens ≡ kinds)
unfolding written_out tokens_after
reads_back [] are line start = ([], refl, refl)
reads_back (kind ∷ kinds) are line start =
    let bytes = written kind in
    let rest = written_out kinds in
    let text : List ℕ = bytes ++ 32 ∷ rest in
    let size = length bytes in
    let token : Token = record { kind = kind; line = line; start = start; end = start + size } in
    let here = piece_of kind are.0 line rest in
    let some = written_some line size bytes rest kind here in
    let later = line + line_ends (take size text) in
    let after = later + line_ends (take 1 (32 ∷ rest)) in
    let first = tokens_step line start text (record { kind = Some kind; size = size }) (omega (arith, length-append bytes (32 ∷ rest))) here some in
    let second = tokens_step later (start + size) (32 ∷ rest) (skipped_piece 1) (omega arith) (blank_piece later rest (no_blank kinds are.1)) (lit< tt) in
    let more = reads_back kinds are.1 after (start + size + 1) in (
      token ∷ more.0,
      first ∙ ap (λ left. with_front (token ∷ []) (tokens_after 0 later (start + size) left)) (drop-append_seam bytes (32 ∷ rest))
          ∙ ap (with_front (token ∷ [])) (second ∙ ap (with_front []) more.1),
      ap (λ others. kind ∷ others) more.2,
    )
