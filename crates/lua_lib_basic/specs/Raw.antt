-- `rawequal`, `rawget` and `rawset` (Lua 5.1 Reference Manual, 5.1): no metatable is asked.
use Rattle.std.specs.Prelude.{ℕ, List, [], ◌∷◌}
use Rattle.lua_values.specs.declared.values.Value.{Value}
use Rattle.lua_values.specs.declared.values.Value.TheVariants.{Truth, Table}
use Rattle.lua_values.specs.Heap.{Heap}
use Rattle.lua_values.specs.Values.{same}
use Rattle.lua_values.specs.Pairs.{value_at}
use Rattle.lua_values.specs.StoreCalls.{pairs_of, set_cause, with_pair}
use Rattle.lua_lib_base.specs.Arguments.{any_at, table_at}
use Rattle.lua_lib_base.specs.Results.{LibraryResult, gives, with_argument, unless_refused}

abbrev pub rawequal : List Value → Heap → LibraryResult
rawequal args heap = with_argument (any_at args 1) heap (λ a. with_argument (any_at args 2) heap (λ b. gives (Truth (same a b) ∷ []) heap))

abbrev pub rawget : List Value → Heap → LibraryResult
rawget args heap =
    with_argument (table_at args 1) heap (λ t. with_argument (any_at args 2) heap (λ key. gives (value_at (pairs_of heap t) key ∷ []) heap))

-- a value is set at a key of a table, and the table given
abbrev pub set_raw : Heap → ℕ → Value → Value → LibraryResult
set_raw heap t key value = unless_refused (set_cause heap t key value) heap (gives (Table t ∷ []) (with_pair heap t key value))

abbrev pub rawset : List Value → Heap → LibraryResult
rawset args heap =
    with_argument (table_at args 1) heap (λ t.
    with_argument (any_at args 2) heap (λ key.
    with_argument (any_at args 3) heap (λ value. set_raw heap t key value)))
