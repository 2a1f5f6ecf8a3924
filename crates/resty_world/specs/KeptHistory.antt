-- What contracts see of a history.
use Rattle.std.specs.Prelude.{ℕ, List}
use Rattle.resty_world.specs.declared.entry.Entry.{Entry}

-- the entries, the newest first, and how many more are taken without memory
pub record Kept : Type 0 where
  pub entries : List Entry
  pub room : ℕ
