-- The decimal text of a number is read back.
use Rattle.std.proofs.Common.{◌≡◌, ℕ, suc, ◌<◌, ◌≤◌, List, [], ◌∷◌, ◌++◌, length, Bool, true, false, not, ◌&&◌, nat_lt, nat_le, ℤ, pos, negsuc, neg_ℤ, Some, arith, refl, ap, ◌∙◌, inl, inr, lit<}
use Rattle.std.specs.Prelude.{reverse, nat_eq, codes}
use Rattle.std.specs.Fmt.{decimal, signed_decimal}
use Rattle.std.specs.Option.{option_map}
use Rattle.std.specs.List.{list_all, starts_with}
use Rattle.std.specs.Char.{digit_value}
use Rattle.std.specs.Int.{IsOutOfRange}
use Rattle.std.specs.Str.Parse.{digits_value, AllDigits, IsNumeral}
use Rattle.std.proofs.lemmas.List.{reverse-reverse, reverse-append}
use Rattle.std.proofs.lemmas.Fmt.{decimal_is_IsNumeral}
use Rattle.std.proofs.lemmas.Str.Parse.{digit_from_value}
use Rattle.std.proofs.lemmas.Bool.Decides.{nat_tests}
use Rattle.std.proofs.lemmas.Int.{ints}
use Rattle.resty_base.specs.WholeNumber.{IsWhole}
use Rattle.lua_numbers.specs.NumberText.{is_blank, after_blanks, before_blanks, numeral_in, natural_in, integer_in, number_in}

-- ---- no blank stands at an end

-- a byte of a number's text
abbrev is_seen : ℕ → Bool
is_seen c = not (is_blank c)

after_seen : (text : List ℕ) → list_all is_seen text ≡ true → after_blanks text ≡ text
after_seen [] h = refl
after_seen (c ∷ cs) h = grind (arith, nat_tests)

seen-append : (s t : List ℕ) → list_all is_seen s ≡ true → list_all is_seen t ≡ true → list_all is_seen (s ++ t) ≡ true
seen-append [] t h k = k
seen-append (c ∷ cs) t h k =
    let f : list_all is_seen (cs ++ t) ≡ true = seen-append cs t (grind arith) k in
    grind arith

seen-reverse : (text : List ℕ) → list_all is_seen text ≡ true → list_all is_seen (reverse text) ≡ true
seen-reverse [] h = refl
seen-reverse (c ∷ cs) h =
    let first : is_seen c ≡ true = grind arith in
    let f : list_all is_seen (reverse cs) ≡ true = seen-reverse cs (grind arith) in
    let e : reverse (c ∷ cs) ≡ reverse cs ++ (c ∷ []) = reverse-append (c ∷ []) cs in
    rw e (seen-append (reverse cs) (c ∷ []) f (grind arith))

pub unblanked : (text : List ℕ) → list_all is_seen text ≡ true → before_blanks (after_blanks text) ≡ text
unblanked text h =
    ap before_blanks (after_seen text h) ∙ ap reverse (after_seen (reverse text) (seen-reverse text h)) ∙ reverse-reverse text

-- ---- decimal digits

digit_seen : (c : ℕ) → digit_value c < 10 → is_seen c ≡ true
digit_seen c h =
    let range = digit_from_value c h in
    grind (arith, nat_tests)

digits_seen : (ds : List ℕ) → AllDigits 10 ds → list_all is_seen ds ≡ true
digits_seen [] h = refl
digits_seen (c ∷ cs) h = rw (digit_seen c h.0, digits_seen cs h.1) refl

digits_all : (ds : List ℕ) → AllDigits 10 ds → list_all (λ c. nat_lt (digit_value c) 10) ds ≡ true
digits_all [] h = refl
digits_all (c ∷ cs) h =
    let first : nat_lt (digit_value c) 10 ≡ true = small (digit_value c) h.0 in
    rw (first, digits_all cs h.1) refl where
      small : (n : ℕ) → n < 10 → nat_lt n 10 ≡ true
      small n h = grind (arith, nat_tests)

-- a digit is neither a minus nor the `x` of a hexadecimal number
not_digit : (c d : ℕ) → digit_value d < 10 → IsOutOfRange 48 57 c → nat_eq c d ≡ false
not_digit c d h out =
    let range = digit_from_value d h in
    grind (arith, nat_tests)

not_hex : (ds : List ℕ) → AllDigits 10 ds → starts_with nat_eq ds (codes "0x") ≡ false
not_hex [] h = refl
not_hex (c ∷ []) h = both (nat_eq 48 c) where
  both : (a : Bool) → (a && false) ≡ false
  both true = refl
  both false = refl
not_hex (c ∷ d ∷ ds) h = rw (not_digit 120 d h.1.0 (inr (lit< tt))) (both (nat_eq 48 c)) where
  both : (a : Bool) → (a && false) ≡ false
  both true = refl
  both false = refl

not_minus : (ds : List ℕ) → 0 < length ds → AllDigits 10 ds → starts_with nat_eq ds (codes "-") ≡ false
not_minus [] h k = absurd (omega arith)
not_minus (c ∷ ds) h k = rw (not_digit 45 c k.0 (inl (lit< tt))) refl

-- a text of digits is read as what they write
digits_natural : (ds : List ℕ) (n : ℕ) → IsNumeral 10 ds → digits_value 10 ds ≡ n → n ≤ 99_999_999_999_999 → natural_in ds ≡ Some (pos n)
digits_natural ds n numeral value h =
    let all = digits_all ds numeral.1 in
    let some : nat_lt 0 (length ds) ≡ true = above (length ds) numeral.0 in
    let few : nat_le n 99_999_999_999_999 ≡ true = within n h in
    rw (not_hex ds numeral.1, some, all, value, few) refl where
      above : (n : ℕ) → 0 < n → nat_lt 0 n ≡ true
      above n h = grind (arith, nat_tests)

      within : (n : ℕ) → n ≤ 99_999_999_999_999 → nat_le n 99_999_999_999_999 ≡ true
      within n h = grind (arith, nat_tests)

-- digits alone have no blanks, no minus and no prefix
pub digits_read : (ds : List ℕ) → IsNumeral 10 ds → number_in ds ≡ numeral_in 10 ds
digits_read ds numeral =
    ap integer_in (unblanked ds (digits_seen ds numeral.1)) ∙ rw (not_minus ds numeral.0 numeral.1, not_hex ds numeral.1) refl

decimal_natural : (n : ℕ) → n ≤ 99_999_999_999_999 → natural_in (decimal n) ≡ Some (pos n)
decimal_natural n h =
    let d = decimal_is_IsNumeral n (omega arith) in
    digits_natural (decimal n) n d.0 d.1 h

pub read_back : (n : ℤ) → IsWhole n → number_in (signed_decimal n) ≡ Some n
read_back (pos n) h =
    let least : n ≤ 99_999_999_999_999 = omega (arith, ints) in
    let d = decimal_is_IsNumeral n (omega arith) in
    ap integer_in (unblanked (decimal n) (digits_seen (decimal n) d.0.1))
    ∙ rw (not_minus (decimal n) d.0.0 d.0.1) (decimal_natural n least)
read_back (negsuc n) h =
    let least : suc n ≤ 99_999_999_999_999 = omega (arith, ints) in
    let d = decimal_is_IsNumeral (suc n) (omega arith) in
    ap integer_in (unblanked (45 ∷ decimal (suc n)) (digits_seen (decimal (suc n)) d.0.1))
    ∙ ap (option_map neg_ℤ) (decimal_natural (suc n) least)
