use Rattle.std.proofs.Common.{◌≡◌, ◌++◌, drop}
use Rattle.lua_patterns.specs.Captures.{closed_ones}
use Rattle.lua_patterns.proofs.captures.closed_ones.Given as goal

abbrev pub invariant-loop-capture : goal.invariant-loop-capture
invariant-loop-capture l = l.caps.items ++ closed_ones (drop l.capture-index l.captures) ≡ closed_ones l.captures
