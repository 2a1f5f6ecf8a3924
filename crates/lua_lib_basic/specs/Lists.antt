-- `select` and `unpack` (Lua 5.1 Reference Manual, 5.1).
use Rattle.std.specs.Prelude.{ℕ, zero, suc, ◌-◌, nat_lt, Bool, false, List, [], ◌∷◌, map, drop, length, codes, ℤ, pos, negsuc, ◌+ℤ◌, ◌-ℤ◌, Option, Some, None}
use Rattle.std.specs.Prelude.{if◌then◌else◌}
use Rattle.std.specs.List.{range_with_len}
use Rattle.lua_values.specs.declared.values.Value.{Value}
use Rattle.lua_values.specs.declared.values.Value.TheVariants.{Number, Text}
use Rattle.lua_values.specs.Heap.{Heap}
use Rattle.lua_values.specs.Values.{same, number}
use Rattle.lua_values.specs.Pairs.{value_at}
use Rattle.lua_values.specs.Border.{border_of}
use Rattle.lua_values.specs.StoreCalls.{pairs_of}
use Rattle.lua_lib_base.specs.declared.refusals.Refusal.TheVariants.{Index}
use Rattle.lua_lib_base.specs.Arguments.{argument, table_at, number_at, number_or_at}
use Rattle.lua_lib_base.specs.Work.{giving}
use Rattle.lua_lib_base.specs.Results.{LibraryResult, Gave, gives, refuses, with_argument}

-- the argument is the text `#`
abbrev pub asks_count : Option Value → Bool
asks_count None = false
asks_count (Some value) = same value (Text (codes "#"))

-- how many of so many values are passed over to come to an index: from 1 on, or from the end where it is negative
abbrev pub passed : ℕ → ℤ → Option ℕ
passed count (pos zero) = None
passed count (pos (suc k)) = Some k
passed count (negsuc k) = if nat_lt k count then Some (count - suc k) else None

abbrev pub selected_after : Heap → List Value → Option ℕ → LibraryResult
selected_after heap values (Some n) = gives (drop n values) heap
selected_after heap values None = refuses (Index 1) heap

abbrev pub selected : Heap → List Value → ℤ → LibraryResult
selected heap values index = selected_after heap values (passed (length values) index)

abbrev pub select : List Value → Heap → LibraryResult
select args heap =
    if asks_count (argument args 1) then gives (number (length (drop 1 args)) ∷ []) heap
    else with_argument (number_at args 1) heap (λ index. selected heap (drop 1 args) index)

-- a number that isn't negative, and 0 in place of any other
abbrev pub at_least_zero : ℤ → ℕ
at_least_zero (pos n) = n
at_least_zero (negsuc n) = 0

-- how many numbers there are from one to another
abbrev pub count_between : ℤ → ℤ → ℕ
count_between first last = at_least_zero ((last -ℤ first) +ℤ pos 1)

-- the values at n numbers from one on
abbrev pub elements : List (Value × Value) → ℤ → ℕ → List Value
elements ps first n = map (λ k. value_at ps (Number (first +ℤ pos k))) (range_with_len 0 n)

-- each value that `unpack` gives is counted
abbrev pub unpacked : Heap → ℕ → ℤ → ℤ → LibraryResult
unpacked heap t first last = Gave (elements (pairs_of heap t) first (count_between first last)) heap (giving (count_between first last))

abbrev pub unpack : List Value → Heap → LibraryResult
unpack args heap =
    with_argument (table_at args 1) heap (λ t.
    with_argument (number_or_at args 2 (pos 1)) heap (λ first.
    with_argument (number_or_at args 3 (pos (border_of (pairs_of heap t)))) heap (λ last. unpacked heap t first last)))
