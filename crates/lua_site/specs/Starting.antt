-- How a site of Lua starts, as one function of its chunks (lua-nginx-module manual, `init_by_lua_block` and "Lua Variable Scope"). That what init
-- left is frozen is this project's choice.
use Rattle.std.specs.Prelude.{ℕ, List, Option, Result, Ok}
use Rattle.lua_values.specs.Heap.{Heap, StoreView}
use Rattle.lua_values.specs.StoreCalls.{new_store, frozen}
use Rattle.lua_modules.specs.Sets.{Lists}
use Rattle.lua_site.specs.Making.{and_then}
use Rattle.lua_site.specs.Calls.{Life}
use Rattle.lua_site.specs.Loading.{loaded, init_run}
use Rattle.lua_site.specs.RunTables.{run_tables_made}

-- what a site starts with: the store that each run begins with a copy of, and the closures of the blocks in it
pub record Start : Type 0 where
  pub store : StoreView
  pub blocks : List ℕ

-- what init left is frozen, a run's tables are made, and no steps are counted
abbrev pub begun : Heap → Result StoreView (List ℕ)
begun heap = and_then (run_tables_made (frozen heap)) (λ h. Ok (record { heap = h; steps = 0 }))

abbrev pub begun_with : List ℕ → Heap → Result Start (List ℕ)
begun_with blocks heap = and_then (begun heap) (λ store. Ok (record { store = store; blocks = blocks }))

-- the start in a heap
abbrev pub started_in : Heap → Life → ℕ → Lists → Option ℕ → Result Start (List ℕ)
started_in heap life natives lists init =
    and_then (loaded life natives lists heap) (λ site. and_then (init_run life site.blocks init site.heap) (begun_with site.blocks))

-- The start of a site whose program comes to this life in each of its calls, with so many functions of the host. It is refused
-- with the message of the first part that is.
abbrev pub started : Life → ℕ → Lists → Option ℕ → Result Start (List ℕ)
started life natives lists init = started_in new_store.heap life natives lists init
