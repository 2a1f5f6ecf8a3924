-- The whole numbers of the Lua profile.
use Rattle.std.specs.Prelude.{ℕ, ℤ, pos, negsuc, ◌≤ℤ◌}

-- the greatest, whose negation is the least
abbrev pub greatest_whole : ℕ
greatest_whole = 99_999_999_999_999

-- the number is within 99,999,999,999,999 either way
pub record IsWhole (n : ℤ) : Type 0 where
  pub least : negsuc 99_999_999_999_998 ≤ℤ n
  pub greatest : n ≤ℤ pos greatest_whole
