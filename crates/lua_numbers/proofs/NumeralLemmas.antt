-- Digits read one after another.
use Rattle.std.proofs.Common.{◌≡◌, ℕ, ◌+◌, ◌*◌, ◌<◌, ◌≤◌, List, length, take, get_or, true, nat_lt, None, arith, refl, sym}
use Rattle.std.specs.List.{list_all}
use Rattle.std.specs.Char.{digit_value}
use Rattle.std.specs.Str.Parse.{digits_value}
use Rattle.std.proofs.lemmas.Int.Digits.{digits_value_more}
use Rattle.std.proofs.lemmas.List.Folds.{list_all_more}
use Rattle.std.proofs.lemmas.Str.Parse.{digits_value-take-le}
use Rattle.std.proofs.lemmas.Bool.Decides.{nat_tests}
use Rattle.lua_numbers.specs.NumberText.{numeral_in}

-- digits that write a number beyond the range are no numeral
beyond : (base : ℕ) (ds : List ℕ) → 99_999_999_999_999 < digits_value base ds → numeral_in base ds ≡ None
beyond base ds h = grind (arith, nat_tests)

-- nor are they where the first of them write such a number
pub passes : (base : ℕ) (ds : List ℕ) (i value digit : ℕ) → 1 ≤ base → i < length ds → value ≡ digits_value base (take i ds) → digit ≡ digit_value (get_or ds i 0) →
    99_999_999_999_999 < value * base + digit → numeral_in base ds ≡ None
passes base ds i value digit one inside e d h =
    let all = digits_value-take-le base ds (i + 1) one in
    let more = digits_value_more base ds i inside in
    let now : digits_value base (take (i + 1) ds) ≡ value * base + digit = rw (e, d) more in
    beyond base ds (omega arith)

-- one more digit after the first ones
pub value_more : (base : ℕ) (ds : List ℕ) (i value digit : ℕ) → i < length ds → value ≡ digits_value base (take i ds) → digit ≡ digit_value (get_or ds i 0) →
    value * base + digit ≡ digits_value base (take (i + 1) ds)
value_more base ds i value digit inside e d = rw (e, d) (sym (digits_value_more base ds i inside))

pub digits_more : (base : ℕ) (ds : List ℕ) (i : ℕ) → i < length ds → list_all (λ c. nat_lt (digit_value c) base) (take i ds) ≡ true → digit_value (get_or ds i 0) < base →
    list_all (λ c. nat_lt (digit_value c) base) (take (i + 1) ds) ≡ true
digits_more base ds i inside so_far below =
    let test : nat_lt (digit_value (get_or ds i 0)) base ≡ true = grind (arith, nat_tests) in
    rw (list_all_more (λ c. nat_lt (digit_value c) base) ds i 0 inside, so_far, test) refl
