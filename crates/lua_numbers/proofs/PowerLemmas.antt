-- Powers of integers.
use Rattle.std.proofs.Common.{◌≡◌, ◌≢◌, ℕ, suc, zero, ◌+◌, ◌-◌, ◌*◌, ◌/◌, ◌%◌, ◌<◌, ◌≤◌, ℤ, pos, negsuc, neg_ℤ, ◌*ℤ◌, Ok, Err, arith, ap, sym, ◌∙◌, zero-add}
use Rattle.std.proofs.Math.Nat.{mul_assoc, mul-le-mul_right, zero-mul}
use Rattle.std.proofs.Math.IntN.{*ℤ-negsuc, *ℤ-zero, *ℤ-one, *ℤ_comm, neg_ℤ-neg_ℤ, one}
use Rattle.std.proofs.lemmas.Int.{unsigned_abs-mul}
use Rattle.std.specs.Prelude.{unsigned_abs}
use Rattle.lua_numbers.specs.declared.faults.NumFault.{NumFault}
use Rattle.lua_numbers.specs.declared.faults.NumFault.TheVariants.{Range}
use Rattle.lua_numbers.specs.Arithmetic.{power, within_range}

-- ---- products are associative

mul-neg : (a b : ℤ) → a *ℤ neg_ℤ b ≡ neg_ℤ (a *ℤ b)
mul-neg a (pos zero) = *ℤ-zero a ∙ ap neg_ℤ (sym (*ℤ-zero a))
mul-neg a (pos (suc n)) = *ℤ-negsuc a n
mul-neg a (negsuc n) = sym (ap neg_ℤ (*ℤ-negsuc a n) ∙ neg_ℤ-neg_ℤ (a *ℤ pos (suc n)))

neg-mul : (a b : ℤ) → neg_ℤ a *ℤ b ≡ neg_ℤ (a *ℤ b)
neg-mul a b = *ℤ_comm (neg_ℤ a) b ∙ mul-neg b a ∙ ap neg_ℤ (*ℤ_comm b a)

assoc_above : (a : ℤ) (b c : ℕ) → (a *ℤ pos b) *ℤ pos c ≡ a *ℤ (pos b *ℤ pos c)
assoc_above (pos a) b c = ap pos (mul_assoc a b c)
assoc_above (negsuc a) b c =
    neg-mul (pos (suc a) *ℤ pos b) (pos c) ∙ ap neg_ℤ (ap pos (mul_assoc (suc a) b c))

assoc_middle : (a b : ℤ) (c : ℕ) → (a *ℤ b) *ℤ pos c ≡ a *ℤ (b *ℤ pos c)
assoc_middle a (pos b) c = assoc_above a b c
assoc_middle a (negsuc b) c =
    ap (λ x. x *ℤ pos c) (*ℤ-negsuc a b) ∙ neg-mul (a *ℤ pos (suc b)) (pos c)
    ∙ ap neg_ℤ (assoc_above a (suc b) c) ∙ sym (mul-neg a (pos (suc b) *ℤ pos c))

assoc : (a b c : ℤ) → (a *ℤ b) *ℤ c ≡ a *ℤ (b *ℤ c)
assoc a b (pos c) = assoc_middle a b c
assoc a b (negsuc c) =
    *ℤ-negsuc (a *ℤ b) c ∙ ap neg_ℤ (assoc_middle a b (suc c))
    ∙ sym (mul-neg a (b *ℤ pos (suc c))) ∙ ap (λ x. a *ℤ x) (sym (*ℤ-negsuc b c))

-- ---- powers of sums

power-add : (a : ℤ) (m n : ℕ) → power a (m + n) ≡ power a m *ℤ power a n
unfolding one
power-add a zero n = ap (power a) (zero-add n) ∙ sym (*ℤ_comm (pos 1) (power a n) ∙ *ℤ-one (power a n))
power-add a (suc m) n =
    let e : suc m + n ≡ suc (m + n) = omega arith in
    ap (power a) e ∙ ap (λ x. a *ℤ x) (power-add a m n) ∙ sym (assoc a (power a m) (power a n))

pub power_even : (a : ℤ) (n : ℕ) → n % 2 ≡ 0 → power a n ≡ power a (n / 2) *ℤ power a (n / 2)
power_even a n even =
    let e : n ≡ n / 2 + n / 2 = omega arith in
    ap (power a) e ∙ power-add a (n / 2) (n / 2)

pub power_odd : (a : ℤ) (n : ℕ) → n % 2 ≢ 0 → power a n ≡ power a (n / 2) *ℤ power a (n / 2) *ℤ a
power_odd a n odd =
    let e : n ≡ suc (n / 2 + n / 2) = omega arith in
    ap (power a) e ∙ ap (λ x. a *ℤ x) (power-add a (n / 2) (n / 2)) ∙ *ℤ_comm a (power a (n / 2) *ℤ power a (n / 2))

-- ---- a power that is out of range

pub out_of_range : (x : ℤ) → 99_999_999_999_999 < unsigned_abs x → within_range x ≡ Err Range
out_of_range x h = grind arith

fault_beyond : (x : ℤ) (f : NumFault) → Err f ≡ within_range x → (f ≡ Range) × (99_999_999_999_999 < unsigned_abs x)
fault_beyond x f h = grind arith

pub given_within : (x y : ℤ) → Ok y ≡ within_range x → y ≡ x
given_within x y h = grind arith

factor_positive : (x y : ℕ) → 0 < x * y → 1 ≤ x
factor_positive zero y h = absurd (omega (arith, zero-mul y))
factor_positive (suc x) y h = omega arith

base_positive : (a : ℤ) (m : ℕ) → 99_999_999_999_999 < unsigned_abs (power a m) → 1 ≤ unsigned_abs a
base_positive a zero h = absurd (omega arith)
base_positive a (suc m) h =
    factor_positive (unsigned_abs a) (unsigned_abs (power a m)) (omega (arith, unsigned_abs-mul a (power a m)))

-- one more factor doesn't bring a power back into the range
grows : (a : ℤ) (m : ℕ) → 99_999_999_999_999 < unsigned_abs (power a m) → 99_999_999_999_999 < unsigned_abs (power a (suc m))
grows a m h =
    let base = mul-le-mul_right (unsigned_abs (power a m)) (base_positive a m h) in
    omega (arith, unsigned_abs-mul a (power a m))

beyond_stays : (a : ℤ) (m k : ℕ) → 99_999_999_999_999 < unsigned_abs (power a m) → 99_999_999_999_999 < unsigned_abs (power a (k + m))
beyond_stays a m zero h = rw zero-add h
beyond_stays a m (suc k) h =
    let e : suc k + m ≡ suc (k + m) = omega arith in
    rw e (grows a (k + m) (beyond_stays a m k h))

-- a higher power of a base whose power is out of range is out of range
pub power_passes : (a : ℤ) (m n : ℕ) (f : NumFault) → m ≤ n → Err f ≡ within_range (power a m) → Err f ≡ within_range (power a n)
power_passes a m n f le h =
    let beyond = fault_beyond (power a m) f h in
    let e : n ≡ (n - m) + m = omega arith in
    ap Err beyond.0 ∙ sym (out_of_range (power a n) (rw e (beyond_stays a m (n - m) beyond.1)))

-- the square of half a power is out of range, and so is the power
pub square_passes : (a : ℤ) (n : ℕ) (half : ℤ) (f : NumFault) → Ok half ≡ within_range (power a (n / 2)) → Err f ≡ within_range (half *ℤ half) →
    Err f ≡ within_range (power a n)
square_passes a n half f is_half h =
    let e : half ≡ power a (n / 2) = given_within (power a (n / 2)) half is_half in
    let twice : half *ℤ half ≡ power a (n / 2 + n / 2) = ap (λ x. x *ℤ x) e ∙ sym (power-add a (n / 2) (n / 2)) in
    power_passes a (n / 2 + n / 2) n f (omega arith) (h ∙ ap within_range twice)

-- the square is the power
pub square_given : (a : ℤ) (n : ℕ) (half square : ℤ) → n % 2 ≡ 0 → Ok half ≡ within_range (power a (n / 2)) → Ok square ≡ within_range (half *ℤ half) →
    Ok square ≡ within_range (power a n)
square_given a n half square even is_half is_square =
    let e : half ≡ power a (n / 2) = given_within (power a (n / 2)) half is_half in
    is_square ∙ ap within_range (ap (λ x. x *ℤ x) e ∙ sym (power_even a n even))

-- the square and one more factor are the power
pub square_times : (a : ℤ) (n : ℕ) (half square : ℤ) → n % 2 ≢ 0 → Ok half ≡ within_range (power a (n / 2)) → Ok square ≡ within_range (half *ℤ half) →
    within_range (square *ℤ a) ≡ within_range (power a n)
square_times a n half square odd is_half is_square =
    let e : half ≡ power a (n / 2) = given_within (power a (n / 2)) half is_half in
    let s : square ≡ half *ℤ half = given_within (half *ℤ half) square is_square in
    ap within_range (ap (λ x. x *ℤ a) (s ∙ ap (λ x. x *ℤ x) e) ∙ sym (power_odd a n odd))
