use Rattle.std.proofs.Common.{◌≤◌, [], length, Result}
use Rattle.lua_patterns.specs.declared.answers.PatFault.{PatFault}
use Rattle.lua_patterns.specs.Searches.{Outcome}
use Rattle.lua_patterns.specs.Matching.{Before}
use Rattle.lua_patterns.proofs.matcher.Search.resume.Given as goal

abbrev pub invariant-loop-pending : goal.invariant-loop-pending
invariant-loop-pending l =
    ((expected : Result Outcome PatFault)
    → Before l.self l.fn.state [] expected
    → Before l.self l.state [] expected)
    × (l.fn.state.tests ≤ l.state.tests)

abbrev pub decreases-loop-pending : goal.decreases-loop-pending
decreases-loop-pending l = length l.state.pending.items
