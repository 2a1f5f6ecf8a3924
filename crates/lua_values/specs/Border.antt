-- The length of a table (Lua 5.1 Reference Manual, section 2.5.5): of its borders the least.
use Rattle.std.specs.Prelude.{◌≡◌, ℕ, suc, zero, ◌+◌, ◌<◌, true, false, List, length, if◌then◌else◌}
use Rattle.lua_values.specs.declared.values.Value.{Value}
use Rattle.lua_values.specs.Values.{is_nil, number}
use Rattle.lua_values.specs.Pairs.{value_at}

-- n is a border where nothing is at n + 1, and the least where something is at each number before
pub record IsLeastBorder (ps : List (Value × Value)) (n : ℕ) : Type 0 where
  pub ends : is_nil (value_at ps (number (n + 1))) ≡ true
  pub full : (k : ℕ) → k < n → is_nil (value_at ps (number (k + 1))) ≡ false

-- the least of n, n + 1, .. with nothing after it, where `more` numbers are tried
abbrev pub border_from : List (Value × Value) → ℕ → ℕ → ℕ
border_from ps n zero = n
border_from ps n (suc more) = if is_nil (value_at ps (number (n + 1))) then n else border_from ps (n + 1) more

-- the least border: as many numbers are tried as there are pairs, which is enough, as a law says
abbrev pub border_of : List (Value × Value) → ℕ
border_of ps = border_from ps 0 (length ps)
