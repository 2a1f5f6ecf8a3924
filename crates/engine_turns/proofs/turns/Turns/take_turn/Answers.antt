use Rattle.engine_turns.proofs.Seats.{done-of}
use Rattle.engine_turns.proofs.turns.Turns.take_turn.Goals as goal

pub put_back-requires : goal.put_back-requires
put_back-requires g c = (c.args.site.now, done-of _ c.args.connection c.in-Some.next c.show.new.self (g.W.World.book c.show.new.world) c.in-Some.ensures.lives)

pub returns-in-Some-clause-standing : goal.returns-in-Some-clause-standing
returns-in-Some-clause-standing g c = c.put_back.ensures.standing c.args.site.now (done-of _ c.args.connection c.in-Some.next c.show.new.self (g.W.World.book c.show.new.world) c.in-Some.ensures.lives)
