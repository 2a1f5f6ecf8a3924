use Rattle.std.proofs.Common.{◌+◌, ◌-◌, ◌*◌, length, Result}
use Rattle.lua_patterns.specs.declared.answers.PatFault.{PatFault}
use Rattle.lua_patterns.specs.Searches.{Outcome}
use Rattle.lua_patterns.specs.Matching.{Before, ahead}
use Rattle.lua_patterns.specs.Balance.{AreRight}
use Rattle.lua_patterns.proofs.matcher.Search.run.Given as goal

abbrev pub invariant-loop-balance : goal.invariant-loop-balance
invariant-loop-balance l =
    AreRight l.self.subject.now l.balance.pairs.items
    × ((expected : Result Outcome PatFault)
    → Before l.self l.fn.state (ahead l.self l.fn.state) expected
    → Before l.self l.state (ahead l.self l.state) expected)

abbrev pub decreases-loop-balance : goal.decreases-loop-balance
decreases-loop-balance l =
    (l.self.limit - l.state.tests) * (length l.self.pattern.now + 2) + (length l.self.pattern.now + 1 - l.state.at)
