use Rattle.lua_threads.proofs.FramesRise.{ends_counted}
use Rattle.lua_threads.proofs.turns.step.Goals as goal

pub returns-in_default-clause-counts : goal.returns-in_default-clause-counts
returns-in_default-clause-counts g c =
    ends_counted (g.H.Host.setting c.args.host.now) c.args.frames.now c.loop.frames c.turn.new.frames c.args.store.now c.loop.store c.turn.new.store c.in_ok-flow.flow
    c.loop.invariant c.in_ok-flow.ensures.follows c.in_default.not-Went c.in_default.not-Spent
