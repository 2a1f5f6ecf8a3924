use Rattle.std.proofs.Common.{◌≡◌, take}
use Rattle.lua_patterns.specs.Captures.{last_open}
use Rattle.lua_patterns.proofs.captures.last_open.Given as goal

abbrev pub invariant-loop-index : goal.invariant-loop-index
invariant-loop-index l = l.found ≡ last_open (take l.index l.captures)
