-- Values that are set at keys of tables.
use Rattle.std.specs.Prelude.{ℕ, List, Option, Some, None}
use Rattle.lua_values.specs.declared.values.Value.{Value}
use Rattle.lua_values.specs.Heap.{StoreView}
use Rattle.lua_operators.specs.declared.faults.Fault.{Fault}
use Rattle.lua_meaning.specs.Works.{Caller, Slots, Work}
use Rattle.lua_meaning.specs.Setting.{Setting}
use Rattle.lua_meaning.specs.Positions.{raise_fault}
use Rattle.lua_meaning.specs.Indexing.{set_work}
use Rattle.lua_meaning.specs.Tables.{fill}
use Rattle.lua_frames.specs.Follows.{ComesTo}

-- a value is set at a key of a table, and the work goes on in the store with it; or a fault is raised
abbrev pub Sets : ℕ → Value → Value → StoreView → Option Fault → StoreView → Type 0
Sets t key x before None store =
    (S : Setting) (callers : List Caller) (s : Slots) (go : Work) → ComesTo S (set_work S callers t key x s go) before go store
Sets t key x before (Some fault) store =
    (S : Setting) (callers : List Caller) (s : Slots) (go : Work) → ComesTo S (set_work S callers t key x s go) before (raise_fault S callers fault s) store

-- values are set at the numbers of a table from n on, or a fault is raised at the first that isn't
abbrev pub Fills : ℕ → ℕ → List Value → StoreView → Option Fault → StoreView → Type 0
Fills t n vs before None store =
    (S : Setting) (callers : List Caller) (s : Slots) (go : Work) → ComesTo S (fill S callers t n vs s go) before go store
Fills t n vs before (Some fault) store =
    (S : Setting) (callers : List Caller) (s : Slots) (go : Work) → ComesTo S (fill S callers t n vs s go) before (raise_fault S callers fault s) store
