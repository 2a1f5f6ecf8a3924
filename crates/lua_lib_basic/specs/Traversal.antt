-- `next`, `pairs`, `ipairs` and the function that `ipairs` gives (Lua 5.1 Reference Manual, 5.1).
use Rattle.std.specs.Prelude.{ℕ, List, [], ◌∷◌, ℤ, pos, ◌+ℤ◌, Option, Some, None, Result, Ok, Err, if◌then◌else◌}
use Rattle.lua_numbers.specs.declared.faults.NumFault.{NumFault}
use Rattle.lua_numbers.specs.Arithmetic.{within_range}
use Rattle.lua_values.specs.declared.values.Value.{Value}
use Rattle.lua_values.specs.declared.values.Value.TheVariants.{Nil, Number, Table, Native}
use Rattle.lua_values.specs.Heap.{Heap}
use Rattle.lua_values.specs.Values.{is_nil, number}
use Rattle.lua_values.specs.Pairs.{value_at, next_pair}
use Rattle.lua_values.specs.StoreCalls.{pairs_of}
use Rattle.lua_lib_base.specs.Arguments.{argument, table_at, number_at}
use Rattle.lua_lib_base.specs.Results.{LibraryResult, gives, with_argument}

-- the key and the value of a pair, nil where there is none
abbrev pub values_of : Option (Value × Value) → List Value
values_of None = Nil ∷ []
values_of (Some p) = p.0 ∷ p.1 ∷ []

-- what comes next after a key, and for nil first; nil after a key that has no entry
abbrev pub next_values : Heap → ℕ → Value → List Value
next_values heap t key = values_of (next_pair (pairs_of heap t) key)

-- a missing argument is nil
abbrev pub or_nil : Option Value → Value
or_nil None = Nil
or_nil (Some value) = value

abbrev pub next : List Value → Heap → LibraryResult
next args heap = with_argument (table_at args 1) heap (λ t. gives (next_values heap t (or_nil (argument args 2))) heap)

-- `next`, as a program finds it
abbrev pub pairs : List Value → Heap → LibraryResult
pairs args heap = with_argument (table_at args 1) heap (λ t. gives (Native 131 ∷ Table t ∷ Nil ∷ []) heap)

-- the step of `ipairs`, as a program finds it
abbrev pub ipairs : List Value → Heap → LibraryResult
ipairs args heap = with_argument (table_at args 1) heap (λ t. gives (Native 174 ∷ Table t ∷ number 0 ∷ []) heap)

-- an index and the value there, or nothing where that is nil
abbrev pub element_at : Heap → ℕ → ℤ → List Value
element_at heap t i = if is_nil (value_at (pairs_of heap t) (Number i)) then [] else Number i ∷ value_at (pairs_of heap t) (Number i) ∷ []

-- the same, unless the index is out of the range of numbers
abbrev pub element_within : Heap → ℕ → Result ℤ NumFault → List Value
element_within heap t (Ok i) = element_at heap t i
element_within heap t (Err fault) = []

-- the index after this one and the value there
abbrev pub element : Heap → ℕ → ℤ → List Value
element heap t i = element_within heap t (within_range (i +ℤ pos 1))

abbrev pub ipairs_step : List Value → Heap → LibraryResult
ipairs_step args heap = with_argument (table_at args 1) heap (λ t. with_argument (number_at args 2) heap (λ i. gives (element heap t i) heap))
