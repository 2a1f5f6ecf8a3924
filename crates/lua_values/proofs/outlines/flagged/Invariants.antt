use Rattle.lua_values.specs.TableFlags.{IsFlaggedTo}
use Rattle.lua_values.proofs.outlines.flagged.Given as goal

abbrev pub invariant-loop-index : goal.invariant-loop-index
invariant-loop-index l = IsFlaggedTo l.pairs l.live l.holes l.index
