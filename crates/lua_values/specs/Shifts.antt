-- The values at the numbers from one to another, of which each moves one number up or down (Lua 5.1 Reference Manual, section 5.5, `table.insert` and
-- `table.remove`).
use Rattle.std.specs.Prelude.{◌≡◌, ℕ, zero, suc, ◌+◌, ◌-◌, ◌<◌, ◌≤◌, Bool, true, List, if◌then◌else◌}
use Rattle.lua_values.specs.declared.values.Value.{Value}
use Rattle.lua_values.specs.declared.shifts.Shift.{Shift}
use Rattle.lua_values.specs.Values.{number}
use Rattle.lua_values.specs.Pairs.{value_at, has_entry, with_value, needs_entry}

-- there is such a number, and all that are written are numbers of Lua, none of them below 0
pub record IsShift (shift : Shift) : Type 0 where
  pub later : 1 ≤ shift.from
  pub some : shift.from ≤ shift.to
  pub few : shift.to < 99_999_999_999_999

abbrev pub shift_of : ℕ → ℕ → Bool → Shift
shift_of from to up = record { from = from; to = to; up = up }

-- how many values move
abbrev pub moves : Shift → ℕ
moves shift = shift.to + 1 - shift.from

-- the numbers in the order in which they are written, each of which gets the value of the next: down from `to` + 1, or up from
-- `from` - 1
abbrev pub place : Shift → ℕ → ℕ
place shift i = if shift.up then shift.to + 1 - i else shift.from - 1 + i

-- the value that the i-th number gets: the one that the next had before
abbrev pub moved : List (Value × Value) → Shift → ℕ → Value
moved ps shift i = value_at ps (number (place shift (i + 1)))

-- each number whose value moves has an entry
abbrev pub HasSources : List (Value × Value) → Shift → Type 0
HasSources ps shift = (i : ℕ) → i < moves shift → has_entry ps (number (place shift (i + 1))) ≡ true

-- the pairs once the first n numbers are written
abbrev pub shifted_first : List (Value × Value) → Shift → ℕ → List (Value × Value)
shifted_first ps shift zero = ps
shifted_first ps shift (suc n) = with_value (shifted_first ps shift n) (number (place shift n)) (moved ps shift n)

-- and how many new entries these take
abbrev pub entries_first : List (Value × Value) → Shift → ℕ → ℕ
entries_first ps shift zero = 0
entries_first ps shift (suc n) = entries_first ps shift n + (if needs_entry ps (number (place shift n)) (moved ps shift n) then 1 else 0)

-- the same of all of them
abbrev pub shifted : List (Value × Value) → Shift → List (Value × Value)
shifted ps shift = shifted_first ps shift (moves shift)

abbrev pub new_entries : List (Value × Value) → Shift → ℕ
new_entries ps shift = entries_first ps shift (moves shift)
