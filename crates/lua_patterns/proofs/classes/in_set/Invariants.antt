use Rattle.std.proofs.Common.{◌≡◌, length}
use Rattle.lua_patterns.specs.Classes.{in_set}
use Rattle.lua_patterns.proofs.classes.in_set.Given as goal

abbrev pub invariant-loop-rest : goal.invariant-loop-rest
invariant-loop-rest l = in_set l.byte l.rest ≡ in_set l.byte l.inside

abbrev pub decreases-loop-rest : goal.decreases-loop-rest
decreases-loop-rest l = length l.rest
