use Rattle.std.proofs.Common.{ap, is_ok, arith}
use Rattle.std.proofs.ResultArms.{chosen}
use Rattle.lua_patterns.proofs.Stepping.{fewer_last, fewer_steps}
use Rattle.lua_patterns.proofs.matcher.Search.fewer.Goals as goal

pub returns-then-index-lowest : goal.returns-then-index-lowest
returns-then-index-lowest c = λ expected before.
    (fewer_last c.args.self.now c.args.state.now c.args.after c.args.lowest c.args.index expected c.if-index-lowest.true before, omega arith)

pub returns : goal.returns
returns c = λ expected before.
    (fewer_steps c.args.self.now c.args.state.now c.args.after c.args.lowest c.args.index _ expected (omega arith) (chosen _ _ _ _ c.push.ensures.items (ap is_ok c.in_ok-push.was)) before, omega arith)
