-- The tables that each run of a site has for itself, made next to one another: its globals (lua-nginx-module manual, "Lua Variable Scope") with their
-- metatable, and the modules that it requires (Lua 5.1 Reference Manual, section 5.3, `package.loaded`).
use Rattle.std.specs.Prelude.{ℕ, ◌+◌, length, codes, Ok}
use Rattle.lua_values.specs.declared.values.Value.TheVariants.{Text, Table}
use Rattle.lua_values.specs.Heap.{Heap}
use Rattle.lua_operators.specs.declared.events.Event.TheVariants.{Index}
use Rattle.lua_operators.specs.Events.{key_of}
use Rattle.lua_site.specs.Making.{Made, and_then, table_made, entry_set, metatable_set}

-- the table of the modules that the run requires, its global table, and the metatable of that
abbrev pub three_made : Heap → Made
three_made heap = and_then (table_made heap) (λ h. and_then (table_made h) table_made)

-- the global table is `_G` in itself, and the metatable's `__index` is the outer global table
abbrev pub names_set : Heap → ℕ → ℕ → ℕ → Made
names_set heap globals meta outer =
    and_then (entry_set heap globals (Text (codes "_G")) (Table globals)) (λ h. entry_set h meta (Text (key_of Index)) (Table outer))

abbrev pub globals_set : Heap → ℕ → ℕ → Made
globals_set heap globals meta = and_then (metatable_set heap globals meta) (λ h. Ok (record h { globals = globals }))

abbrev pub with_globals : Heap → ℕ → ℕ → ℕ → Made
with_globals heap globals meta outer = and_then (names_set heap globals meta outer) (λ h. globals_set h globals meta)

-- all three; what init left is the outer global table
abbrev pub run_tables_made : Heap → Made
run_tables_made heap = and_then (three_made heap) (λ h. with_globals h (length heap.tables + 1) (length heap.tables + 2) heap.globals)
