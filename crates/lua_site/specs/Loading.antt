-- The chunks of a site as closures of one heap (Lua 5.1 Reference Manual, 2.4.1), with the functions of the host: a form of this project.
use Rattle.std.specs.Prelude.{ℕ, ◌+◌, List, [], ◌∷◌, length, slice_index, Option, Some, None, Result, Ok, if◌then◌else◌}
use Rattle.std.specs.List.{range_with_len}
use Rattle.lua_values.specs.declared.values.Value.TheVariants.{Text, Table, Closure, Native}
use Rattle.lua_values.specs.Values.{number}
use Rattle.lua_values.specs.Heap.{Heap, StoreView}
use Rattle.lua_modules.specs.Sets.{Lists}
use Rattle.lua_modules.specs.declared.sets.Module.{Module}
use Rattle.lua_site.specs.Making.{Made, and_then, for_each, table_made, closure_made, entry_set}
use Rattle.lua_site.specs.Calls.{Life, called}

-- the number of the table of the functions of the host: it is the second that is made
abbrev pub natives_table : ℕ
natives_table = 1

-- a function of the host stands at the number after its own
abbrev pub native_set : Heap → ℕ → Made
native_set heap n = entry_set heap natives_table (number (n + 1)) (Native n)

abbrev pub natives_set : Heap → ℕ → Made
natives_set heap natives = for_each native_set heap (range_with_len 0 natives)

-- the table with so many functions
abbrev pub natives_made : Heap → ℕ → Made
natives_made heap natives = and_then (table_made heap) (λ h. natives_set h natives)

-- a prelude's chunk is called with this table
abbrev pub prelude_run : Life → Heap → ℕ → Made
prelude_run life heap function = and_then (closure_made heap function) (λ h. called life (Closure (length heap.closures)) (Table natives_table ∷ []) h)

-- A module's closure stands at its name in this table. At that of a built-in module this table stands, with which it is called.
abbrev pub module_named : Heap → Module → ℕ → Made
module_named heap m closure =
    and_then (entry_set heap natives_table (Text m.name) (Closure closure)) (λ h.
    if m.built_in then entry_set h natives_table (Closure closure) (Table natives_table) else Ok h)

abbrev pub module_made : Heap → Module → Made
module_made heap m = and_then (closure_made heap m.function) (λ h. module_named h m (length heap.closures))

-- the table, the preludes in order, and the modules
abbrev pub modules_ready : Life → ℕ → Lists → Heap → Made
modules_ready life natives lists heap =
    and_then (natives_made heap natives) (λ h1.
    and_then (for_each (prelude_run life) h1 lists.preludes) (λ h2. for_each module_made h2 lists.modules))

-- a heap, and the closures of the blocks in it
pub record Loaded : Type 0 where
  pub heap : Heap
  pub blocks : List ℕ

-- the closures of blocks that are made next
abbrev pub block_closures : Heap → List ℕ → List ℕ
block_closures heap functions = range_with_len (length heap.closures) (length functions)

abbrev pub blocks_made : List ℕ → Heap → Result Loaded (List ℕ)
blocks_made functions heap =
    and_then (for_each closure_made heap functions) (λ h. Ok (record { heap = h; blocks = block_closures heap functions }))

abbrev pub loaded : Life → ℕ → Lists → Heap → Result Loaded (List ℕ)
loaded life natives lists heap = and_then (modules_ready life natives lists heap) (blocks_made lists.blocks)

-- the heap of a store, and these closures
abbrev pub loaded_in : StoreView → List ℕ → Loaded
loaded_in store blocks = record { heap = store.heap; blocks = blocks }

-- init is one of the blocks, which is called without arguments
abbrev pub init_run : Life → List ℕ → Option ℕ → Heap → Made
init_run life blocks None heap = Ok heap
init_run life blocks (Some b) heap = called life (Closure (slice_index blocks b)) [] heap
