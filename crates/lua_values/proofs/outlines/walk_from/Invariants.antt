use Rattle.std.proofs.Common.{◌≡◌, ◌<◌, ◌≤◌, ℕ, false}
use Rattle.lua_values.specs.Flags.{flag_at}
use Rattle.lua_values.specs.TableFlags.{lives}
use Rattle.lua_values.proofs.outlines.walk_from.Given as goal

abbrev pub invariant-loop-index : goal.invariant-loop-index
invariant-loop-index l = (k : ℕ) → l.from ≤ k → k < l.index → flag_at (lives l.pairs) k ≡ false
