-- What a freezable list ends as, where a `&mut` to one of its items is returned.
use Rattle.std.specs.Prelude.{ℕ}
use Rattle.std.specs.Borrow.{Lends, Fml, RattleType, MutBor}
use Rattle.lua_values.specs.Freezable.{Freezable, with_item}
use Rattle.lua_values.specs.contracts.freezable.FreezableList.{the_row}

-- once the borrow r ends, the item at the index is the last value written through r
abbrev pub lends_item : (T : RattleType) → MutBor (Freezable T.Denot) → ℕ → MutBor T.Denot → Fml
lends_item T list index r = Lends (the_row T) T list r (with_item list.now index)
