use Rattle.lua_run.proofs.RunTurns.{reply-made}
use Rattle.lua_run.proofs.run.replying.Goals as goal

pub returns-clause-does : goal.returns-clause-does
returns-clause-does c = λ b.
    reply-made c.args.replied.line c.args.replied.sent _ _ _ c.push_back-3.new.self.items b (c.in_ok-turn.ensures.does b)
    c.in_ok-push_back.ensures.items c.in_ok-push_back-2.ensures.items c.in_ok-push_back-3.ensures.items
