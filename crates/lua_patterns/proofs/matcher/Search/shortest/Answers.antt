use Rattle.std.proofs.Common.{ap, is_ok}
use Rattle.std.proofs.ResultArms.{chosen}
use Rattle.lua_patterns.proofs.Stepping.{shortest_steps}
use Rattle.lua_patterns.proofs.matcher.Search.shortest.Goals as goal

pub returns : goal.returns
returns c = λ expected.
    shortest_steps c.args.self.now c.args.state.now c.args.class c.args.after _ expected c.requires.further c.requires.within (chosen _ _ _ _ c.push.ensures.items (ap is_ok c.in_ok-push.was))
