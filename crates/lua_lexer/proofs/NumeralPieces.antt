-- Numerals as the lexical rules have them.
use Rattle.std.proofs.Common.{◌≡◌, ℕ, zero, suc, ◌+◌, ◌<◌, ◌≤◌, Bool, true, false, cond, List, [], ◌∷◌, ◌++◌, length, get_or, drop, take, Option, Some, None, Ok, Err, ◌⊎◌, inl, inr, ⊎_elim, refl, ap, sym, subst, ◌∙◌, arith}
use Rattle.std.specs.Prelude.{◌≢◌, ◌==◌, ◌&&◌, ◌||◌, ℤ, option_map, ok_or}
use Rattle.std.specs.List.{prefix_len, AllPass}
use Rattle.std.specs.Char.{is_ascii_digit, is_ascii_hexdigit}
use Rattle.std.proofs.lemmas.Bool.{cond_both, eqb-true, or_parts, or_cases, or_from, false_from_ne_true, and_parts}
use Rattle.std.proofs.lemmas.Bool.Decides.{nat_tests}
use Rattle.std.proofs.lemmas.List.{take-append-drop, length-take-le}
use Rattle.std.proofs.lemmas.List.Folds.{length-prefix_len}
use Rattle.std.proofs.lemmas.List.Sums.{prefix_len-le-length}
use Rattle.std.proofs.Math.Seq.{take-append_seam}
use Rattle.lua_numbers.specs.NumberText.{number_in}
use Rattle.lua_lexer.specs.declared.tokens.LexFault.TheVariants.{BadByte, Fraction, Range}
use Rattle.lua_lexer.specs.declared.tokens.TokenKind.TheVariants.{Number}
use Rattle.lua_lexer.specs.Characters.{is_word_byte, is_word_start}
use Rattle.lua_lexer.specs.Lexical.{IsPiece, IsFault, IsDecimal, IsHexadecimal}
use Rattle.lua_lexer.specs.Numerals.{number_piece, number_of, decimal, hexadecimal, numeral, is_fraction_mark}
use Rattle.lua_lexer.specs.Tokens.{piece}
use Rattle.lua_lexer.proofs.PieceReadings.{Sound, Covers, covers_whole}
use Rattle.lua_lexer.proofs.Runs.{run_all, run_exact, run_some, run_stops, first_left, first_after}
use Rattle.lua_lexer.proofs.Written.{piece_digit, numeral_decimal, digit_not_x}

-- a numeral's value, or that it is out of range
value_read : (line size : ℕ) (text : List ℕ) (value : Option ℤ) → 0 < size → size ≤ length text
    → IsDecimal (take size text) (drop size text) ⊎ IsHexadecimal (take size text) (drop size text) → number_in (take size text) ≡ value
    → Sound line text (ok_or (option_map (number_piece size) value) (Range line))
value_read line size text (Some number) some within shape is = record {
  some = some;
  within = within;
  is = ⊎_elim (λ shaped. IsPiece.decimal shaped is) (λ shaped. IsPiece.hexadecimal shaped is) shape;
}
value_read line size text None some within shape is = IsFault.range (sym (take-append-drop size text)) shape is

number_read : (line size : ℕ) (text : List ℕ) → 0 < size → size ≤ length text
    → IsDecimal (take size text) (drop size text) ⊎ IsHexadecimal (take size text) (drop size text)
    → Sound line text (number_of line (take size text))
unfolding number_of
number_read line size text some within shape =
    subst (λ n. Sound line text (ok_or (option_map (number_piece n) (number_in (take size text))) (Range line))) (sym (length-take-le size text within))
    (value_read line size text (number_in (take size text)) some within shape refl)

-- a word's byte that is no digit
start_of_word : (c : ℕ) → is_word_byte c ≡ true → is_ascii_digit c ≡ false → is_word_start c ≡ true
start_of_word c word other = grind (arith, nat_tests)

begins_hexadecimal : (text rest : List ℕ) → (get_or text 0 0 == 48 && get_or text 1 0 == 120) ≡ false → text ≡ 48 ∷ 120 ∷ rest → ⊥
begins_hexadecimal text rest other is = absurd (clash (rw is at other))
  where
    clash : true ≡ false → ⊥
    clash same = cc

decimal_read : (line : ℕ) (text : List ℕ) → 0 < length text → is_ascii_digit (get_or text 0 0) ≡ true
    → (get_or text 0 0 == 48 && get_or text 1 0 == 120) ≡ false → Sound line text (decimal line text)
unfolding decimal
decimal_read line text some is other =
    let size = prefix_len is_ascii_digit text in
    let more = run_some is_ascii_digit text some is in
    let within = prefix_len-le-length is_ascii_digit text in
    let parts : text ≡ take size text ++ drop size text = sym (take-append-drop size text) in
    let long : 0 < length (take size text) = omega (arith, more, length-prefix_len is_ascii_digit text) in
    let next = first_after size text in
    let stops = run_stops is_ascii_digit text refl in
    cond_both (is_fraction_mark (get_or text size 0)) _ _ (Sound line text)
    (λ mark. IsFault.fraction (take size text) (drop size text) parts long (run_all is_ascii_digit text) (ap is_fraction_mark next ∙ mark))
    (λ no_mark.
    cond_both (is_word_byte (get_or text size 0)) _ _ (Sound line text)
    (λ word. IsFault.letter (take size text) (drop size text) parts long (run_all is_ascii_digit text) (start_of_word (get_or (drop size text) 0 0) (ap is_word_byte next ∙ word) stops) (ap is_fraction_mark next ∙ no_mark) (λ rest. begins_hexadecimal text rest other))
    (λ no_word. number_read line size text more within (inl (record {
      some = long;
      all = run_all is_ascii_digit text;
      ends = or_from _ _ (ap is_word_byte next ∙ no_word) (ap is_fraction_mark next ∙ no_mark);
    }))))

none_same : (n : ℕ) → (n == 0) ≡ true → n ≡ 0
none_same n same = eqb-true n 0 same

none_other : (n : ℕ) → (n == 0) ≡ false → 0 < n
none_other zero other = absurd (cc)
none_other (suc n) other = omega arith

hexadecimal_read : (line : ℕ) (text : List ℕ) → (get_or text 0 0 == 48 && get_or text 1 0 == 120) ≡ true → Sound line text (hexadecimal line text)
unfolding hexadecimal
hexadecimal_read line [] is = absurd (cc)
hexadecimal_read line (c ∷ []) is = absurd (no_x (and_parts (c == 48) false is).1)
  where
    no_x : false ≡ true → ⊥
    no_x same = cc
hexadecimal_read line (c ∷ d ∷ ds) is =
    let n = prefix_len is_ascii_hexdigit ds in
    let two : n + 2 ≡ suc (suc n) = omega arith in
    let both = and_parts (c == 48) (d == 120) is in
    let zero_is : c ≡ 48 = eqb-true c 48 both.0 in
    let x_is : d ≡ 120 = eqb-true d 120 both.1 in
    let parts : c ∷ d ∷ ds ≡ 48 ∷ 120 ∷ (take n ds ++ drop n ds) = rw (zero_is, x_is, take-append-drop n ds) refl in
    let next = first_after n ds in
    let stops = run_stops is_ascii_hexdigit ds refl in
    let len = length-prefix_len is_ascii_hexdigit ds in
    rw two
    (cond_both (n == 0 || is_word_byte (get_or ds n 0)) _ _ (Sound line (c ∷ d ∷ ds))
    (λ wrong. IsFault.no_hexadecimal (take n ds) (drop n ds) parts (run_all is_ascii_hexdigit ds) stops
    (⊎_elim (λ none. inl (len ∙ none_same n none)) (λ word. inr (ap is_word_byte next ∙ word)) (or_cases (n == 0) (is_word_byte (get_or ds n 0)) wrong)))
    (λ right.
    let sides = or_parts (n == 0) (is_word_byte (get_or ds n 0)) right in
    number_read line (suc (suc n)) (c ∷ d ∷ ds) (omega arith) (omega (arith, prefix_len-le-length is_ascii_hexdigit ds)) (inr (record {
      digits = take n ds;
      parts = rw (zero_is, x_is) refl;
      some = omega (arith, len, none_other n sides.0);
      all = run_all is_ascii_hexdigit ds;
      ends = ap is_word_byte next ∙ sides.1;
    }))))

pub numeral_read : (line : ℕ) (text : List ℕ) → 0 < length text → is_ascii_digit (get_or text 0 0) ≡ true → Sound line text (numeral line text)
unfolding numeral
numeral_read line text some is =
    cond_both (get_or text 0 0 == 48 && get_or text 1 0 == 120) _ _ (Sound line text)
    (λ hex. hexadecimal_read line text hex)
    (λ other. decimal_read line text some is other)

-- no `0x` begins where no `x` follows the digits
no_x : (digits after : List ℕ) → 0 < length digits → AllPass is_ascii_digit digits → (get_or after 0 0 == 120) ≡ false
    → (get_or (digits ++ after) 1 0 == 120) ≡ false
no_x [] after some all other = absurd (omega arith)
no_x (c ∷ []) after some all other = other
no_x (c ∷ d ∷ ds) after some all other = digit_not_x d (all 1 0 (omega arith))

digits_first : (digits after : List ℕ) → 0 < length digits → AllPass is_ascii_digit digits → is_ascii_digit (get_or (digits ++ after) 0 0) ≡ true
digits_first digits after some all = rw (first_left digits after some) (all 0 0 some)

-- digits that are followed by none are read as a decimal numeral
decimal_at : (line : ℕ) (digits after : List ℕ) → 0 < length digits → AllPass is_ascii_digit digits → is_ascii_digit (get_or after 0 0) ≡ false
    → decimal line (digits ++ after)
    ≡ cond (is_fraction_mark (get_or after 0 0)) (Err (Fraction line)) (cond (is_word_byte (get_or after 0 0)) (Err (BadByte line)) (number_of line digits))
unfolding decimal
decimal_at line digits after some all stops =
    rw (run_exact is_ascii_digit digits after all stops, take-append_seam digits after, seam digits after) refl
  where
    seam : (xs ys : List ℕ) → get_or (xs ++ ys) (length xs) 0 ≡ get_or ys 0 0
    seam [] ys = refl
    seam (x ∷ xs) ys = seam xs ys

piece_decimal : (line : ℕ) (digits after : List ℕ) → 0 < length digits → AllPass is_ascii_digit digits
    → (get_or (digits ++ after) 1 0 == 120) ≡ false → piece line (digits ++ after) ≡ decimal line (digits ++ after)
piece_decimal line digits after some all other =
    piece_digit line (digits ++ after) (digits_first digits after some all) ∙ numeral_decimal line (digits ++ after) other

number_is : (line : ℕ) (bytes : List ℕ) (number : ℤ) → number_in bytes ≡ Some number → number_of line bytes ≡ Ok (number_piece (length bytes) number)
unfolding number_of
number_is line bytes number is = ap (λ value. ok_or (option_map (number_piece (length bytes)) value) (Range line)) is

number_is_not : (line : ℕ) (bytes : List ℕ) → number_in bytes ≡ None → number_of line bytes ≡ Err (Range line)
unfolding number_of
number_is_not line bytes is = ap (λ value. ok_or (option_map (number_piece (length bytes)) value) (Range line)) is

word_no_digit : (c : ℕ) → is_word_byte c ≡ false → is_ascii_digit c ≡ false
word_no_digit c other = grind (arith, nat_tests)

word_no_x : (c : ℕ) → is_word_byte c ≡ false → (c == 120) ≡ false
word_no_x c other = grind (arith, nat_tests)

mark_no_digit : (c : ℕ) → is_fraction_mark c ≡ true → is_ascii_digit c ≡ false
mark_no_digit c mark = grind (arith, nat_tests)

mark_no_x : (c : ℕ) → is_fraction_mark c ≡ true → (c == 120) ≡ false
mark_no_x c mark = grind (arith, nat_tests)

start_no_digit : (c : ℕ) → is_word_start c ≡ true → is_ascii_digit c ≡ false
start_no_digit c starts = grind (arith, nat_tests)

start_word : (c : ℕ) → is_word_start c ≡ true → is_word_byte c ≡ true
start_word c starts = rw starts refl

-- a decimal numeral of the rules
shaped_decimal : (line : ℕ) (bytes after : List ℕ) → IsDecimal bytes after → piece line (bytes ++ after) ≡ number_of line bytes
shaped_decimal line bytes after is =
    let sides = or_parts (is_word_byte (get_or after 0 0)) (is_fraction_mark (get_or after 0 0)) is.ends in
    piece_decimal line bytes after is.some is.all (no_x bytes after is.some is.all (word_no_x (get_or after 0 0) sides.0))
    ∙ decimal_at line bytes after is.some is.all (word_no_digit (get_or after 0 0) sides.0)
    ∙ rw (sides.0, sides.1) refl

hexadecimal_at : (line : ℕ) (digits after : List ℕ) → AllPass is_ascii_hexdigit digits → is_ascii_hexdigit (get_or after 0 0) ≡ false
    → piece line (48 ∷ 120 ∷ (digits ++ after))
    ≡ cond (length digits == 0 || is_word_byte (get_or after 0 0)) (Err (BadByte line)) (number_of line (48 ∷ 120 ∷ digits))
unfolding piece numeral hexadecimal
hexadecimal_at line digits after all stops =
    let two : length digits + 2 ≡ suc (suc (length digits)) = omega arith in
    rw (run_exact is_ascii_hexdigit digits after all stops, two, take-append_seam digits after, seam digits after) refl
  where
    seam : (xs ys : List ℕ) → get_or (xs ++ ys) (length xs) 0 ≡ get_or ys 0 0
    seam [] ys = refl
    seam (x ∷ xs) ys = seam xs ys

word_no_hexdigit : (c : ℕ) → is_word_byte c ≡ false → is_ascii_hexdigit c ≡ false
word_no_hexdigit c other = grind (arith, nat_tests)

some_other : (n : ℕ) → 0 < n → (n == 0) ≡ false
some_other n some = grind (arith, nat_tests)

shaped_hexadecimal : (line : ℕ) (bytes after : List ℕ) → IsHexadecimal bytes after → piece line (bytes ++ after) ≡ number_of line bytes
shaped_hexadecimal line bytes after is =
    rw is.parts
    (hexadecimal_at line is.digits after is.all (word_no_hexdigit (get_or after 0 0) is.ends)
    ∙ rw (some_other (length is.digits) is.some, is.ends) refl)

pub decimal_covers : (line : ℕ) (bytes after : List ℕ) (number : ℤ) → IsDecimal bytes after → number_in bytes ≡ Some number
    → Covers line bytes after (Some (Number number))
decimal_covers line bytes after number is value =
    covers_whole line bytes after (Some (Number number)) (shaped_decimal line bytes after is ∙ number_is line bytes number value)

pub hexadecimal_covers : (line : ℕ) (bytes after : List ℕ) (number : ℤ) → IsHexadecimal bytes after → number_in bytes ≡ Some number
    → Covers line bytes after (Some (Number number))
hexadecimal_covers line bytes after number is value =
    covers_whole line bytes after (Some (Number number)) (shaped_hexadecimal line bytes after is ∙ number_is line bytes number value)

pub range_met : (line : ℕ) (bytes after : List ℕ) → IsDecimal bytes after ⊎ IsHexadecimal bytes after → number_in bytes ≡ None
    → piece line (bytes ++ after) ≡ Err (Range line)
range_met line bytes after shape value =
    ⊎_elim (λ is. shaped_decimal line bytes after is) (λ is. shaped_hexadecimal line bytes after is) shape ∙ number_is_not line bytes value

pub fraction_met : (line : ℕ) (digits after : List ℕ) → 0 < length digits → AllPass is_ascii_digit digits → is_fraction_mark (get_or after 0 0) ≡ true
    → piece line (digits ++ after) ≡ Err (Fraction line)
fraction_met line digits after some all mark =
    piece_decimal line digits after some all (no_x digits after some all (mark_no_x (get_or after 0 0) mark))
    ∙ decimal_at line digits after some all (mark_no_digit (get_or after 0 0) mark)
    ∙ rw mark refl

-- digits and an `x` are one digit and not `0`
one_digit : (digits after : List ℕ) → 0 < length digits → AllPass is_ascii_digit digits → ((rest : List ℕ) → digits ++ after ≢ 48 ∷ 120 ∷ rest)
    → (get_or (digits ++ after) 0 0 == 48 && get_or (digits ++ after) 1 0 == 120) ≡ false
one_digit digits after some all other = no_prefix (digits ++ after) other
  where
    no_prefix : (text : List ℕ) → ((rest : List ℕ) → text ≢ 48 ∷ 120 ∷ rest) → (get_or text 0 0 == 48 && get_or text 1 0 == 120) ≡ false
    no_prefix [] none = refl
    no_prefix (c ∷ []) none = false_from_ne_true (c == 48 && false) (λ is. absurd (clash (and_parts (c == 48) false is).1))
      where
        clash : false ≡ true → ⊥
        clash same = cc
    no_prefix (c ∷ d ∷ ds) none =
        false_from_ne_true (c == 48 && d == 120)
        (λ is. let both = and_parts (c == 48) (d == 120) is in none ds (rw (eqb-true c 48 both.0, eqb-true d 120 both.1) refl))

numeral_other : (line : ℕ) (text : List ℕ) → (get_or text 0 0 == 48 && get_or text 1 0 == 120) ≡ false → numeral line text ≡ decimal line text
unfolding numeral
numeral_other line text other = rw other refl

pub letter_met : (line : ℕ) (digits after : List ℕ) → 0 < length digits → AllPass is_ascii_digit digits → is_word_start (get_or after 0 0) ≡ true
    → is_fraction_mark (get_or after 0 0) ≡ false → ((rest : List ℕ) → digits ++ after ≢ 48 ∷ 120 ∷ rest)
    → piece line (digits ++ after) ≡ Err (BadByte line)
letter_met line digits after some all starts no_mark other =
    piece_digit line (digits ++ after) (digits_first digits after some all)
    ∙ numeral_other line (digits ++ after) (one_digit digits after some all other)
    ∙ decimal_at line digits after some all (start_no_digit (get_or after 0 0) starts)
    ∙ rw (no_mark, start_word (get_or after 0 0) starts) refl

pub no_hexadecimal_met : (line : ℕ) (digits after : List ℕ) → AllPass is_ascii_hexdigit digits → is_ascii_hexdigit (get_or after 0 0) ≡ false
    → (length digits ≡ 0) ⊎ (is_word_byte (get_or after 0 0) ≡ true) → piece line (48 ∷ 120 ∷ (digits ++ after)) ≡ Err (BadByte line)
no_hexadecimal_met line digits after all stops wrong =
    hexadecimal_at line digits after all stops ∙ rw (either wrong) refl
  where
    or_true : (b : Bool) → (b || true) ≡ true
    or_true true = refl
    or_true false = refl

    either : (length digits ≡ 0) ⊎ (is_word_byte (get_or after 0 0) ≡ true) → (length digits == 0 || is_word_byte (get_or after 0 0)) ≡ true
    either (inl none) = rw none refl
    either (inr word) = rw word (or_true (length digits == 0))
