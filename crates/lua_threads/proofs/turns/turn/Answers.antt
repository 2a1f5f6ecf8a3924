use Rattle.std.proofs.Common.{refl}
use Rattle.lua_threads.proofs.FrameForms.{item_turns, same_turns}
use Rattle.lua_threads.proofs.turns.turn.Goals as goal

pub returns-in-Some : goal.returns-in-Some
returns-in-Some g c =
    item_turns (g.H.Host.setting c.args.host.now) c.in-Some.item c.args.frames.now (record c.args.frames.now { top = record c.args.frames.now.top { items = c.pop.new.self } }) c.apply.new.frames c.args.store.now c.apply.new.store c.apply.result
    (record { below = refl; kind = refl; function = refl; cells = refl; extras = refl; slots = refl; items = rw c.in-Some.is at c.pop.ensures.items }) refl c.apply.ensures

pub returns-in-None : goal.returns-in-None
returns-in-None g c =
    same_turns (g.H.Host.setting c.args.host.now) c.args.frames.now c.leave.new.frames c.pop.new.self c.args.store.now c.args.store.now c.leave.result (rw c.in-None.is at c.pop.ensures.items) (c.leave.ensures.turns (g.H.Host.setting c.args.host.now) c.args.store.now)
