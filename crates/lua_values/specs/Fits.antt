-- Which numbers a heap has: nothing that is reached from values that fit leads to a table, a cell or a closure that
-- isn't there. A form of this project.
use Rattle.std.specs.Prelude.{ℕ, ◌<◌, ◌≤◌, List, length, Option, Some, None, All}
use Rattle.lua_values.specs.declared.values.Value.{Value}
use Rattle.lua_values.specs.declared.values.Value.TheVariants.{Table, Closure}
use Rattle.lua_values.specs.declared.kinds.TypeMetatables.{TypeMetatables}
use Rattle.lua_values.specs.Heap.{Heap, TableView}

-- the table or the closure that the value names is there
abbrev pub Fits : Heap → Value → Type 0
Fits heap (Table t) = t < length heap.tables
Fits heap (Closure c) = c < length heap.closures
Fits heap value = Unit {0}

-- the metatable is there, if one is given
abbrev pub FitsMeta : Heap → Option ℕ → Type 0
FitsMeta heap None = Unit {0}
FitsMeta heap (Some t) = t < length heap.tables

abbrev pub FitsPair : Heap → Value × Value → Type 0
FitsPair heap p = Fits heap p.0 × Fits heap p.1

abbrev pub FitsTable : Heap → TableView → Type 0
FitsTable heap table = All (FitsPair heap) table.pairs × FitsMeta heap table.meta

-- the cells are there
abbrev pub FitCells : Heap → List ℕ → Type 0
FitCells heap cells = All (λ c. c < length heap.cells) cells

-- the metatables of types are there
pub record FitTypes (heap : Heap) (metas : TypeMetatables) : Type 0 where
  pub text : FitsMeta heap metas.text
  pub socket : FitsMeta heap metas.socket
  pub reader : FitsMeta heap metas.reader
  pub semaphore : FitsMeta heap metas.semaphore
  pub zone : FitsMeta heap metas.zone

-- all that the other heap names is in this one, and no more is frozen there than this one has
pub record FitsHeap (heap other : Heap) : Type 0 where
  pub tables : All (FitsTable heap) other.tables
  pub cells : All (Fits heap) other.cells
  pub closures : All (λ closure. FitCells heap closure.cells) other.closures
  pub globals : other.globals < length heap.tables
  pub metatables : FitTypes heap other.metatables
  pub frozen_tables : other.base.tables ≤ length heap.tables
  pub frozen_cells : other.base.cells ≤ length heap.cells
  pub frozen_closures : other.base.closures ≤ length heap.closures

-- all that the heap names is in it
abbrev pub FitsItself : Heap → Type 0
FitsItself heap = FitsHeap heap heap

-- no list of the new heap is shorter
pub record IsNoShorter (old new : Heap) : Type 0 where
  pub tables : length old.tables ≤ length new.tables
  pub cells : length old.cells ≤ length new.cells
  pub closures : length old.closures ≤ length new.closures
