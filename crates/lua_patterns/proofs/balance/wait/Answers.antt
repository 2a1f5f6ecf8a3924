use Rattle.lua_patterns.proofs.Balancing.{popped_len, wait_closes, wait_opens, wait_passes}
use Rattle.std.specs.Option.{option_to_list}
use Rattle.std.proofs.Common.{arith}
use Rattle.lua_patterns.proofs.balance.wait.Goals as goal

pub returns-in_ok-push-clause-ok : goal.returns-in_ok-push-clause-ok
returns-in_ok-push-clause-ok c = λ text size waiting.
    wait_closes c.args.opening c.args.closing c.args.byte c.args.suffix text c.args.ends.now.items _ size c.if-byte-closing.true c.in_ok-push.ensures.items waiting

pub returns-then-byte-opening-clause-ok : goal.returns-then-byte-opening-clause-ok
returns-then-byte-opening-clause-ok c = λ text size waiting.
    wait_opens c.args.opening c.args.closing c.args.byte text c.args.ends.now.items c.pop.new.self.items (option_to_list c.pop.result)
    c.if-byte-closing.false c.if-byte-opening.true c.pop.ensures.items (omega (arith, popped_len c.pop.result _ _ c.pop.ensures.cases)) waiting

pub returns-else-byte-opening-clause-ok : goal.returns-else-byte-opening-clause-ok
returns-else-byte-opening-clause-ok c = λ text size waiting.
    wait_passes c.args.opening c.args.closing c.args.byte text c.args.ends.now.items c.if-byte-closing.false c.if-byte-opening.false waiting
