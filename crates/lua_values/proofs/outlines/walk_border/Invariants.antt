use Rattle.std.proofs.Common.{◌≡◌, ◌<◌, ◌+◌, ℕ, false}
use Rattle.lua_values.specs.Values.{is_nil, number}
use Rattle.lua_values.specs.Pairs.{value_at}
use Rattle.lua_values.proofs.outlines.walk_border.Given as goal

abbrev pub invariant-loop-n : goal.invariant-loop-n
invariant-loop-n l = (k : ℕ) → k < l.n → is_nil (value_at l.pairs (number (k + 1))) ≡ false
