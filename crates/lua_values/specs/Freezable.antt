-- A list whose first items may be frozen: a form of this project, by which what init left is shared by all runs.
use Rattle.std.specs.Prelude.{ℕ, List, length, slice_set}

-- the items, and how many of them are frozen, from the first on
pub record Freezable (T : Type 0) : Type 0 where
  pub items : List T
  pub frozen : ℕ

module _ {T : Type 0} where
  -- the list with another item at an index
  abbrev pub with_item : Freezable T → ℕ → T → Freezable T
  with_item list index item = record list { items = slice_set list.items index item }

  -- all items are frozen
  abbrev pub all_frozen : Freezable T → Freezable T
  all_frozen list = record list { frozen = length list.items }
