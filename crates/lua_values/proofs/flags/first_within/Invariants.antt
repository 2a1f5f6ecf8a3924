use Rattle.std.proofs.Common.{◌≡◌, ℕ, ◌≤◌, ◌<◌, false}
use Rattle.lua_values.specs.Flags.{flag_at}
use Rattle.lua_values.proofs.flags.first_within.Given as goal

abbrev pub invariant-loop-place : goal.invariant-loop-place
invariant-loop-place l = (k : ℕ) → l.from ≤ k → k < l.place → flag_at l.flags k ≡ false
