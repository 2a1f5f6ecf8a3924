use Rattle.std.proofs.Common.{◌≡◌, drop}
use Rattle.lua_patterns.specs.Captures.{first_open}
use Rattle.lua_patterns.proofs.captures.first_open.Given as goal

abbrev pub invariant-loop-capture : goal.invariant-loop-capture
invariant-loop-capture l = first_open (drop l.capture-index l.captures) ≡ first_open l.captures
