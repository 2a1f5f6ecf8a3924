-- The number that at most 15 digits write fits.
use Rattle.std.specs.Prelude.{true}
use Rattle.std.specs.Char.{is_ascii_digit}
use Rattle.std.specs.Int.{IsInRange}
use Rattle.std.specs.Str.{all_ascii_digits}
use Rattle.std.specs.Str.Parse.{digits_value}
use Rattle.std.proofs.Common.{◌≡◌, ℕ, ◌+◌, ◌*◌, ◌<◌, List, [], ◌∷◌, length, take, get_or, suc, zero, arith, rules}
use Rattle.std.proofs.lemmas.Bool.{leb-true, ltb-true, and_parts}
use Rattle.std.proofs.lemmas.Int.Digits.{digits_value_more}
use Rattle.std.proofs.lemmas.Str.{digit_value_digit}
use Rattle.std.proofs.lemmas.Str.Parse.{IsNumeralModel, numerals_by_value, digits_value_short, digits_value-take-le}
use Rattle.http_in.specs.Framing.{is_length}

digit-at : (text : List ℕ) (i : ℕ) → all_ascii_digits text ≡ true → i < length text → IsInRange 48 57 (get_or text i 0)
digit-at [] i h l = absurd (omega (arith, l))
digit-at (c ∷ text) zero h l = let range = and_parts _ _ (and_parts (is_ascii_digit c) (all_ascii_digits text) h).0 in (leb-true 48 c range.0, leb-true c 57 range.1)
digit-at (c ∷ text) (suc i) h l = digit-at text i (and_parts (is_ascii_digit c) (all_ascii_digits text) h).1 (omega (arith, l))

numerals : IsNumeralModel (λ ds. all_ascii_digits ds ≡ true) (digits_value 10)
numerals = numerals_by_value (λ ds. all_ascii_digits ds ≡ true) (search rules)

-- one digit more
pub one-more : (text : List ℕ) (i d : ℕ) → is_length text ≡ true → i < length text → d + 48 ≡ get_or text i 0 → digits_value 10 (take (i + 1) text) ≡ digits_value 10 (take i text) * 10 + d
one-more text i d h l e =
    let digits = (and_parts _ _ h).1 in
    let range = digit-at text i digits l in
    omega (arith, digits_value_more 10 text i l, digit_value_digit (get_or text i 0) range, e)

pub digit-is : (text : List ℕ) (i : ℕ) → is_length text ≡ true → i < length text → IsInRange 48 57 (get_or text i 0)
digit-is text i h l = digit-at text i (and_parts _ _ h).1 l

pub fits : (text : List ℕ) (i : ℕ) → is_length text ≡ true → digits_value 10 (take i text) < 1000000000000000
fits text i h =
    let short : length text < 16 = ltb-true (length text) 16 (and_parts _ _ (and_parts _ _ h).0).1 in
    omega (arith, digits_value-take-le 10 text i (omega arith), digits_value_short numerals text 15 (and_parts _ _ h).1 (omega arith))
