-- `getmetatable` and `setmetatable` (Lua 5.1 Reference Manual, 2.8 and 5.1).
use Rattle.std.specs.Prelude.{ℕ, List, [], ◌∷◌, Option, Some, None, if◌then◌else◌}
use Rattle.lua_values.specs.declared.values.Value.{Value}
use Rattle.lua_values.specs.declared.values.Value.TheVariants as value
use Rattle.lua_values.specs.declared.kinds.TypeKind.TheVariants as kind
use Rattle.lua_values.specs.Heap.{Heap}
use Rattle.lua_values.specs.Values.{is_nil}
use Rattle.lua_values.specs.Pairs.{value_at}
use Rattle.lua_values.specs.StoreCalls.{table_of, pairs_of, type_metatable_of, frozen_cause, with_metatable}
use Rattle.lua_operators.specs.declared.events.Event.TheVariants.{Metatable}
use Rattle.lua_operators.specs.Events.{key_of}
use Rattle.lua_lib_base.specs.declared.refusals.Refusal.TheVariants.{ProtectedMetatable}
use Rattle.lua_lib_base.specs.Arguments.{any_at, table_at, table_or_nil_at}
use Rattle.lua_lib_base.specs.Results.{LibraryResult, gives, refuses, with_argument, unless_refused}

-- of a table its own, and of a text or an object that of its kind
abbrev pub metatable_of : Heap → Value → Option ℕ
metatable_of heap (value.Table t) = (table_of heap t).meta
metatable_of heap (value.Text text) = type_metatable_of heap.metatables kind.Text
metatable_of heap (value.Object k n) = type_metatable_of heap.metatables (kind.Object k)
metatable_of heap v = None

-- its field `__metatable`, nil without one
abbrev pub protection : Heap → Option ℕ → Value
protection heap None = value.Nil
protection heap (Some t) = value_at (pairs_of heap t) (value.Text (key_of Metatable))

-- what is shown of it: this field, or else the metatable itself
abbrev pub shown : Heap → Option ℕ → Value
shown heap None = value.Nil
shown heap (Some t) = if is_nil (protection heap (Some t)) then value.Table t else protection heap (Some t)

abbrev pub getmetatable : List Value → Heap → LibraryResult
getmetatable args heap = with_argument (any_at args 1) heap (λ object. gives (shown heap (metatable_of heap object) ∷ []) heap)

-- a table gets a metatable, or nil takes it away, unless the one that it has is protected
abbrev pub set_metatable : Heap → ℕ → Option ℕ → LibraryResult
set_metatable heap t meta =
    if is_nil (protection heap (table_of heap t).meta)
    then unless_refused (frozen_cause heap.base.tables t) heap (gives (value.Table t ∷ []) (with_metatable heap t meta))
    else refuses ProtectedMetatable heap

abbrev pub setmetatable : List Value → Heap → LibraryResult
setmetatable args heap =
    with_argument (table_at args 1) heap (λ t. with_argument (table_or_nil_at args 2) heap (λ meta. set_metatable heap t meta))
