-- Which functions of the host values name: each by a number below a bound, which is how many a program may call. The numbers are this project's.
use Rattle.std.specs.Prelude.{ℕ, ◌<◌, All}
use Rattle.lua_values.specs.declared.values.Value.{Value}
use Rattle.lua_values.specs.declared.values.Value.TheVariants.{Native}
use Rattle.lua_values.specs.Heap.{Heap, TableView}

-- the value is no native, or one below the bound
abbrev pub NamesBelow : ℕ → Value → Type 0
NamesBelow bound (Native n) = n < bound
NamesBelow bound value = Unit {0}

-- so are the keys and the values of a table
abbrev pub TableNamesBelow : ℕ → TableView → Type 0
TableNamesBelow bound table = All (λ p. NamesBelow bound p.0 × NamesBelow bound p.1) table.pairs

-- and all values of a heap
pub record HeapNamesBelow (bound : ℕ) (heap : Heap) : Type 0 where
  pub tables : All (TableNamesBelow bound) heap.tables
  pub cells : All (NamesBelow bound) heap.cells
