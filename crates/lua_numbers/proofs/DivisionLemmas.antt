-- The quotient that is rounded down, and what it leaves.
use Rattle.std.proofs.Common.{◌≡◌, ◌≢◌, ℕ, suc, zero, ℤ, pos, negsuc, neg_ℤ, ◌-ℤ◌, ◌*ℤ◌, ◌<ℤ◌, arith, refl, ap, sym, ◌∙◌}
use Rattle.std.proofs.Math.IntN.{*ℤ-negsuc}
use Rattle.std.proofs.lemmas.Int.{ints, int_rem_euclid_is}
use Rattle.std.specs.Int.{int_div_euclid, int_rem_euclid}
use Rattle.std.proofs.Math.Nat.{mul-mod_left, zero-mod}
use Rattle.lua_numbers.specs.Arithmetic.{floor_quotient}

-- what a positive divisor leaves
rest_by_positive : (a : ℤ) (n : ℕ) →
    int_rem_euclid a (pos (suc n)) ≡ a -ℤ int_div_euclid a (pos (suc n)) *ℤ pos (suc n)
rest_by_positive (pos a) n = omega (arith, ints)
rest_by_positive (negsuc a) n = omega (arith, ints)

-- what a negative divisor leaves
pub rest_below : (a b : ℤ) → b <ℤ pos 0 →
    neg_ℤ (int_rem_euclid (neg_ℤ a) (neg_ℤ b)) ≡ a -ℤ floor_quotient a b *ℤ b
rest_below a (pos n) h = absurd (omega (arith, ints))
rest_below a (negsuc n) h =
    let e = *ℤ-negsuc (int_div_euclid (neg_ℤ a) (pos (suc n))) n in
    let f = rest_by_positive (neg_ℤ a) n in
    omega (arith, ints)

-- a multiple of a positive divisor leaves nothing
multiple_above : (n : ℤ) (m : ℕ) → int_rem_euclid (n *ℤ pos (suc m)) (pos (suc m)) ≡ pos 0
multiple_above (pos k) m = ap pos (mul-mod_left k (suc m))
multiple_above (negsuc k) m = int_rem_euclid_is (negsuc k *ℤ pos (suc m)) (pos (suc m)) (suc m) (suc k) 0 (omega arith) refl (omega (arith, ints)) ∙ ap pos (zero-mod (suc m))

-- nor of a negative one
multiple_below : (n : ℤ) (m : ℕ) → int_rem_euclid (neg_ℤ (n *ℤ negsuc m)) (pos (suc m)) ≡ pos 0
multiple_below n m =
    let e : neg_ℤ (n *ℤ negsuc m) ≡ n *ℤ pos (suc m) = omega (arith, ints, *ℤ-negsuc n m) in
    rw e (multiple_above n m)

-- so the quotient of a multiple is whole
pub multiple_divides : (a b n : ℤ) → b ≢ pos 0 → n *ℤ b ≡ a → floor_quotient a b *ℤ b ≡ a
multiple_divides a (pos zero) n ne e = absurd (ne refl)
multiple_divides a (pos (suc m)) n ne e =
    let f : int_rem_euclid a (pos (suc m)) ≡ pos 0 = rw (sym e) (multiple_above n m) in
    let g = rest_by_positive a m in
    omega (arith, ints)
multiple_divides a (negsuc m) n ne e =
    let f : int_rem_euclid (neg_ℤ a) (pos (suc m)) ≡ pos 0 = rw (sym e) (multiple_below n m) in
    let g = rest_below a (negsuc m) (omega (arith, ints)) in
    omega (arith, ints)
