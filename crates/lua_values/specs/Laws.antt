-- What holds of the definitions, for all heaps and values: laws of this project's definitions.
use Rattle.std.specs.Prelude.{◌≡◌, ℕ, ◌+◌, ◌<◌, true, ◌↔◌, List, length, Option, IfSome, slice_get}
use Rattle.lua_values.specs.declared.values.Value.{Value}
use Rattle.lua_values.specs.declared.kinds.TypeKind.{TypeKind}
use Rattle.lua_values.specs.Values.{same}
use Rattle.lua_values.specs.Pairs.{value_at, next_pair}
use Rattle.lua_values.specs.Border.{IsLeastBorder, border_of}
use Rattle.lua_values.specs.Heap.{Heap}
use Rattle.lua_values.specs.Fits.{Fits, FitsPair, FitsMeta, FitCells, FitsHeap, FitsItself, IsNoShorter}
use Rattle.lua_values.specs.NativeCalls.{Meaning, both, IsLawful}
use Rattle.lua_values.specs.StoreCalls as calls

-- primitive equality is the equality of values
abbrev pub SameIsEqual : Type 0
SameIsEqual = (a b : Value) → (same a b ≡ true) ↔ (a ≡ b)

-- the border of a table is the least
abbrev pub BorderIsLeast : Type 0
BorderIsLeast = (ps : List (Value × Value)) → IsLeastBorder ps (border_of ps)

-- A heap in which no list is shorter has all that the other has. So a store and its copy, which are equal, still fit each
-- other whatever is written to either.
pub record StillFits : Type 0 where
  pub value : (old new : Heap) (value : Value) → IsNoShorter old new → Fits old value → Fits new value
  pub heap : (old new other : Heap) → IsNoShorter old new → FitsHeap old other → FitsHeap new other

-- the new heap fits itself, and no list of it is shorter
abbrev pub Keeps : Heap → Heap → Type 0
Keeps old new = FitsItself new × IsNoShorter old new

-- what a store is asked to write fits it still
pub record WritesKeepFitting : Type 0 where
  pub set : (heap : Heap) (t : ℕ) (key value : Value) → FitsItself heap → Fits heap key → Fits heap value → Keeps heap (calls.with_pair heap t key value)
  pub set_metatable : (heap : Heap) (t : ℕ) (meta : Option ℕ) → FitsItself heap → FitsMeta heap meta → Keeps heap (calls.with_metatable heap t meta)
  pub make_table : (heap : Heap) → FitsItself heap → Keeps heap (calls.with_table heap)
  pub make_cell : (heap : Heap) (value : Value) → FitsItself heap → Fits heap value → Keeps heap (calls.with_cell heap value)
  pub set_cell : (heap : Heap) (c : ℕ) (value : Value) → FitsItself heap → Fits heap value → Keeps heap (calls.with_cell_value heap c value)
  pub make_closure : (heap : Heap) (function : ℕ) (cells : List ℕ) → FitsItself heap → FitCells heap cells → Keeps heap (calls.with_closure heap function cells)
  pub freeze : (heap : Heap) → FitsItself heap → Keeps heap (calls.frozen heap)
  pub set_globals : (heap : Heap) (t : ℕ) → FitsItself heap → t < length heap.tables → Keeps heap (record heap { globals = t })
  pub set_type_metatable : (heap : Heap) (kind : TypeKind) (meta : Option ℕ) → FitsItself heap → FitsMeta heap meta
      → Keeps heap (record heap { metatables = calls.with_type_metatable heap.metatables kind meta })
  pub add_units : (heap : Heap) (n : ℕ) → FitsItself heap → Keeps heap (record heap { units = n })
  pub new : FitsItself calls.new_store.heap

-- what a store gives fits it
pub record ReadsFit : Type 0 where
  pub get : (heap : Heap) (t : ℕ) (key : Value) → FitsItself heap → Fits heap (value_at (calls.pairs_of heap t) key)
  pub next : (heap : Heap) (t : ℕ) (key : Value) → FitsItself heap → IfSome (next_pair (calls.pairs_of heap t) key) (FitsPair heap)
  pub metatable : (heap : Heap) (t : ℕ) → FitsItself heap → FitsMeta heap (calls.table_of heap t).meta
  pub cell : (heap : Heap) (c : ℕ) → FitsItself heap → Fits heap (calls.cell_of heap c)
  pub closure : (heap : Heap) (c : ℕ) → FitsItself heap → IfSome (slice_get heap.closures c) (λ closure. FitCells heap closure.cells)
  pub type_metatable : (heap : Heap) (kind : TypeKind) → FitsItself heap → FitsMeta heap (calls.type_metatable_of heap.metatables kind)

-- two libraries that are lawful below one bound are so as one
abbrev pub BothAreLawful : Type 0
BothAreLawful =
    (bound m n : ℕ) (first second : Meaning) → IsLawful bound m first → IsLawful bound n second → IsLawful bound (m + n) (both m first second)
