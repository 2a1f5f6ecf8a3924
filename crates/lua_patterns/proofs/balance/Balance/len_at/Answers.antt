use Rattle.lua_patterns.proofs.Balancing.{more_right}
use Rattle.lua_patterns.proofs.balance.Balance.len_at.Goals as goal

pub returns-clause-right : goal.returns-clause-right
returns-clause-right c = more_right c.args.subject.now c.args.self.now.pairs.items _ _ c.in_ok-push.ensures.items c.requires c.in_ok-pair.ensures.right.2
