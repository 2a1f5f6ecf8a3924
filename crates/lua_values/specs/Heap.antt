-- What a store holds: lists of tables, of cells (the variables that closures share: Lua 5.1 Reference Manual, section 2.6) and of closures.
use Rattle.std.specs.Prelude.{ℕ, List, Option}
use Rattle.lua_values.specs.declared.values.Value.{Value}
use Rattle.lua_values.specs.declared.kinds.TypeMetatables.{TypeMetatables}

-- a table: its pairs in order, and its metatable
pub record TableView : Type 0 where
  pub pairs : List (Value × Value)
  pub meta : Option ℕ

-- a closure: the number of its function, and the cells that it captured
pub record ClosureView : Type 0 where
  pub function : ℕ
  pub cells : List ℕ

-- how many tables, cells and closures are frozen, each from the first on
pub record Base : Type 0 where
  pub tables : ℕ
  pub cells : ℕ
  pub closures : ℕ

pub record Heap : Type 0 where
  pub tables : List TableView
  pub cells : List Value
  pub closures : List ClosureView
  pub base : Base
  pub globals : ℕ
  pub metatables : TypeMetatables
  pub units : ℕ

-- the steps stand apart, so that what speaks of the heap alone can't lower them
pub record StoreView : Type 0 where
  pub heap : Heap
  pub steps : ℕ

-- the most steps of a run, and the most units of a store
abbrev pub step_limit : ℕ
step_limit = 1_000_000

-- the bytes of texts that one step pays for
abbrev pub bytes_of_a_step : ℕ
bytes_of_a_step = 64

abbrev pub unit_limit : ℕ
unit_limit = 1_048_576
