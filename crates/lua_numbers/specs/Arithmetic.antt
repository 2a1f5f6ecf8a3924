-- Whole arithmetic, on integers (Lua 5.1 Reference Manual, 2.5.1, with whole numbers in a range instead of floats).
use Rattle.std.specs.Prelude.{ℕ, zero, suc, ℤ, pos, negsuc, ◌-ℤ◌, ◌*ℤ◌, neg_ℤ, unsigned_abs, nat_le, if◌then◌else◌, Result, Ok, Err}
use Rattle.std.specs.Ordering.{int_eq}
use Rattle.std.specs.Int.{int_div_euclid}
use Rattle.resty_base.specs.WholeNumber.{greatest_whole}
use Rattle.lua_numbers.specs.declared.faults.NumFault.{NumFault}
use Rattle.lua_numbers.specs.declared.faults.NumFault.TheVariants.{Range, Inexact, ByZero}

-- a result within 99,999,999,999,999 either way is given, and any other is out of range
abbrev pub within_range : ℤ → Result ℤ NumFault
within_range n = if nat_le (unsigned_abs n) greatest_whole then Ok n else Err Range

-- floor(a / b), the greatest integer that is at most a / b: by a negative divisor, that of -a by -b
abbrev pub floor_quotient : ℤ → ℤ → ℤ
floor_quotient a (pos b) = int_div_euclid a (pos b)
floor_quotient a (negsuc b) = int_div_euclid (neg_ℤ a) (pos (suc b))

-- a / b, where it is whole
abbrev pub quotient_of : ℤ → ℤ → Result ℤ NumFault
quotient_of a b =
    if int_eq b (pos 0) then Err ByZero
    else if int_eq (floor_quotient a b *ℤ b) a then Ok (floor_quotient a b) else Err Inexact

-- a % b, which is a - floor(a / b) * b
abbrev pub remainder_of : ℤ → ℤ → Result ℤ NumFault
remainder_of a b = if int_eq b (pos 0) then Err ByZero else Ok (a -ℤ floor_quotient a b *ℤ b)

-- a to the power n
abbrev pub power : ℤ → ℕ → ℤ
power a zero = pos 1
power a (suc n) = a *ℤ power a n

-- a ^ b, which is 1 / a ^ -b for a negative b
abbrev pub power_of : ℤ → ℤ → Result ℤ NumFault
power_of a (pos n) = within_range (power a n)
power_of a (negsuc n) = quotient_of (pos 1) (power a (suc n))
