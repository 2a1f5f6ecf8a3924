use Rattle.engine_turns.proofs.turns.Turns.offer_place.Goals as goal

pub returns-in-Sock-clause-standing : goal.returns-in-Sock-clause-standing
returns-in-Sock-clause-standing g c = c.give_up.ensures.standing c.args.site.now c.requires.falls
