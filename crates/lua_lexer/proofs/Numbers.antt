-- The number that the decimal digits of an escape write.
use Rattle.std.proofs.Common.{◌≡◌, ℕ, zero, suc, ◌+◌, ◌<◌, ◌≤◌, Bool, true, false, List, [], ◌∷◌, length, get_or, take, min, nat_lt, nat_le, ℤ, Option, Some, None, arith, refl, ap, ◌∙◌}
use Rattle.std.specs.Prelude.{pos}
use Rattle.std.specs.List.{prefix_len, list_all}
use Rattle.std.specs.Char.{digit_value, is_ascii_digit}
use Rattle.std.specs.Str.Parse.{digits_value, AllDigits}
use Rattle.std.proofs.lemmas.Bool.Decides.{nat_tests}
use Rattle.std.proofs.lemmas.List.{take_min, length-take, length-take-le}
use Rattle.std.proofs.lemmas.List.Sums.{prefix_len-le-length}
use Rattle.lua_numbers.specs.NumberText.{number_in}
use Rattle.lua_lexer.specs.Strings.{digits_escape}
use Rattle.lua_numbers.proofs.ReadBack.{digits_read}

digit_small : (c : ℕ) → is_ascii_digit c ≡ true → digit_value c < 10
digit_small c is = grind (arith, nat_tests)

-- the digits at the front of the first n bytes
abbrev pub front : ℕ → List ℕ → List ℕ
front n text = take (prefix_len is_ascii_digit (take n text)) text

front_more : (n c : ℕ) (cs : List ℕ) → is_ascii_digit c ≡ true → front (suc n) (c ∷ cs) ≡ c ∷ front n cs
front_more n c cs is =
    let one : 1 + prefix_len is_ascii_digit (take n cs) ≡ suc (prefix_len is_ascii_digit (take n cs)) = omega arith in
    rw (is, one) refl

front_none : (n c : ℕ) (cs : List ℕ) → is_ascii_digit c ≡ false → front (suc n) (c ∷ cs) ≡ []
front_none n c cs is = rw is refl

-- they are digits, and at most n
front_digits : (n : ℕ) (text : List ℕ) → AllDigits 10 (front n text) × (length (front n text) ≤ n)
front_digits zero text = (tt, omega arith)
front_digits (suc n) [] = (tt, omega arith)
front_digits (suc n) (c ∷ cs) = by (is_ascii_digit c) refl (front_digits n cs)
  where
    by : (b : Bool) → is_ascii_digit c ≡ b → AllDigits 10 (front n cs) × (length (front n cs) ≤ n)
        → AllDigits 10 (front (suc n) (c ∷ cs)) × (length (front (suc n) (c ∷ cs)) ≤ suc n)
    by true is more = rw (front_more n c cs is) ((digit_small c is, more.0), omega (arith, more.1))
    by false is more = rw (front_none n c cs is) (tt, omega arith)

front_len : (n : ℕ) (text : List ℕ) → length (front n text) ≡ prefix_len is_ascii_digit (take n text)
front_len n text =
    let within : prefix_len is_ascii_digit (take n text) ≤ length text = omega (arith, prefix_len-le-length is_ascii_digit (take n text), length-take n text) in
    length-take-le (prefix_len is_ascii_digit (take n text)) text within

front_some : (n : ℕ) (text : List ℕ) → is_ascii_digit (get_or text 0 0) ≡ true → 0 < length (front (suc n) text)
front_some n [] is = absurd (no_digit is)
  where
    no_digit : is_ascii_digit 0 ≡ true → ⊥
    no_digit same = cc
front_some n (c ∷ cs) is = rw (front_more n c cs is) (omega arith)

three_small : (ds : List ℕ) → AllDigits 10 ds → length ds ≤ 3 → digits_value 10 ds < 1_000
three_small [] all few = omega arith
three_small (a ∷ []) all few = omega (arith, all.0)
three_small (a ∷ b ∷ []) all few = omega (arith, all.0, all.1.0)
three_small (a ∷ b ∷ c ∷ []) all few = omega (arith, all.0, all.1.0, all.1.1.0)
three_small (a ∷ b ∷ c ∷ d ∷ ds) all few = absurd (omega arith)

all_digits : (ds : List ℕ) → AllDigits 10 ds → list_all (λ c. nat_lt (digit_value c) 10) ds ≡ true
all_digits [] all = refl
all_digits (c ∷ cs) all =
    let first : nat_lt (digit_value c) 10 ≡ true = below (digit_value c) all.0 in
    rw (first, all_digits cs all.1) refl where
      below : (n : ℕ) → n < 10 → nat_lt n 10 ≡ true
      below n small = grind (arith, nat_tests)

digits_worth : (ds : List ℕ) → 0 < length ds → AllDigits 10 ds → length ds ≤ 3 → number_in ds ≡ Some (pos (digits_value 10 ds))
digits_worth ds some all few =
    let small = three_small ds all few in
    let there : nat_lt 0 (length ds) ≡ true = above (length ds) some in
    let within : nat_le (digits_value 10 ds) 99_999_999_999_999 ≡ true = below (digits_value 10 ds) small in
    digits_read ds (some, all) ∙ rw (there, all_digits ds all, within) refl where
      above : (n : ℕ) → 0 < n → nat_lt 0 n ≡ true
      above n some = grind (arith, nat_tests)

      below : (n : ℕ) → n < 1_000 → nat_le n 99_999_999_999_999 ≡ true
      below n small = grind (arith, nat_tests)

least_front : (least : ℕ) (text few : List ℕ) → least ≡ min (length text) 3 → few ≡ take least text → few ≡ take 3 text
least_front least text few is taken =
    let turned : min (length text) 3 ≡ min 3 (length text) = omega arith in
    taken ∙ ap (λ n. take n text) (is ∙ turned) ∙ take_min 3 text

pub sized_so : (least size : ℕ) (text few : List ℕ) → least ≡ min (length text) 3 → few ≡ take least text → size ≡ prefix_len is_ascii_digit few
    → size ≡ prefix_len is_ascii_digit (take 3 text)
sized_so least size text few is taken sized = sized ∙ ap (prefix_len is_ascii_digit) (least_front least text few is taken)

-- one to three digits write a number
pub escape_number : (least size : ℕ) (text few digits : List ℕ) (read : Option ℤ) → least ≡ min (length text) 3 → few ≡ take least text
    → size ≡ prefix_len is_ascii_digit few → digits ≡ take size text → is_ascii_digit (get_or text 0 0) ≡ true → read ≡ number_in digits
    → read ≡ Some (pos (digits_value 10 (front 3 text)))
escape_number least size text few digits read is_least is_few sized taken is reads =
    let all = front_digits 3 text in
    reads ∙ ap number_in (taken ∙ ap (λ n. take n text) (sized_so least size text few is_least is_few sized))
    ∙ digits_worth (front 3 text) (front_some 2 text is) all.0 all.1

pub same_number : (read : Option ℤ) (value result : ℤ) (n : ℕ) → read ≡ Some value → read ≡ Some (pos n) → result ≡ value → result ≡ pos n
same_number read value result n is worth gives = cc

-- the byte of that number, if there is one
pub byte_read : (text : List ℕ) → digits_value 10 (front 3 text) ≤ 255
    → digits_escape text ≡ Some (record { byte = digits_value 10 (front 3 text); size = prefix_len is_ascii_digit (take 3 text) })
unfolding digits_escape
byte_read text small =
    let within : nat_le (digits_value 10 (front 3 text)) 255 ≡ true = grind (arith, nat_tests) in
    let sized : length (front 3 text) ≡ prefix_len is_ascii_digit (take 3 text) = front_len 3 text in
    rw (within, sized) refl

pub no_byte : (text : List ℕ) → 255 < digits_value 10 (front 3 text) → digits_escape text ≡ None
unfolding digits_escape
no_byte text wide =
    let within : nat_le (digits_value 10 (front 3 text)) 255 ≡ false = grind (arith, nat_tests) in
    rw within refl
