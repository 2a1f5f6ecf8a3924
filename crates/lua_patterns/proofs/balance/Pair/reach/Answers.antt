use Rattle.std.proofs.Common.{sym}
use Rattle.lua_patterns.proofs.Balancing.{last_none, last_some, takes_none, takes_other, reach_none, reach_more}
use Rattle.lua_patterns.proofs.balance.Pair.reach.Goals as goal

pub returns-in_ok-push-2-clause-ok : goal.returns-in_ok-push-2-clause-ok
returns-in_ok-push-2-clause-ok c = λ text size small waiting are.
    let last = last_some c.args.ends.now _ (sym c.in-Some.ensures.value) in
    reach_more c.args.self.now.opening c.args.self.now.closing c.args.byte c.args.suffix _ _ _ text c.args.ends.now c.args.self.now.suffixes.items
    c.args.self.now.lens.items _ _ size small c.if-byte-self.true last.0 last.1 c.saturating_sub.ensures c.saturating_add.ensures
    c.in_ok-push.ensures.items c.in_ok-push-2.ensures.items waiting are

pub returns-in_default-clause-ok : goal.returns-in_default-clause-ok
returns-in_default-clause-ok c = λ text size small waiting are.
    reach_none c.args.self.now.opening c.args.self.now.closing c.args.byte text c.args.self.now.suffixes.items c.args.self.now.lens.items
    (takes_none _ _ _ text c.args.ends.now c.if-byte-self.true (last_none c.args.ends.now (sym c.in_default.ensures.value)) waiting) are

pub returns-else-byte-self-clause-ok : goal.returns-else-byte-self-clause-ok
returns-else-byte-self-clause-ok c = λ text size small waiting are.
    reach_none c.args.self.now.opening c.args.self.now.closing c.args.byte text c.args.self.now.suffixes.items c.args.self.now.lens.items
    (takes_other _ _ _ text c.if-byte-self.false) are
