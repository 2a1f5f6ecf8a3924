-- What keeps the numbers of a store small: a form of this project.
use Rattle.std.specs.Prelude.{ℕ, ◌+◌, ◌*◌, ◌≤◌}
use Rattle.lua_values.specs.Heap.{step_limit, unit_limit}

-- the units count at least these lists, and units and steps are within their limits
pub record IsWithin (tables cells closures units steps : ℕ) : Type 0 where
  pub counted : 32 * tables + 16 * cells + 32 * closures ≤ units
  pub few_units : units ≤ unit_limit
  pub few_steps : steps ≤ step_limit
