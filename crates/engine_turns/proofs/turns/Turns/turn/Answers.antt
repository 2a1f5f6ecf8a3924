use Rattle.std.proofs.Common.{refl, rules}
use Rattle.engine_turns.proofs.Seats.{to-runs, to-offers}
use Rattle.engine_turns.proofs.turns.Turns.turn.Goals as goal

pub run_next-requires-clause-standing : goal.run_next-requires-clause-standing
run_next-requires-clause-standing g c =
    let s = c.offer_next.ensures.standing in
    (s.0, to-runs _ _ _ _ _ s.0 s.1 (c.if-offer_next.ensures.none refl) refl)

pub offer_next-requires-else-self-clause-standing : goal.offer_next-requires-else-self-clause-standing
offer_next-requires-else-self-clause-standing g c =
    let s = c.run_next-else-self.ensures.standing in
    (s.0, to-offers _ _ _ _ _ s.0 s.1 (c.if-run_next.ensures.none refl) refl)

pub offer_next-requires-clause-in_offers : goal.offer_next-requires-clause-in_offers
offer_next-requires-clause-in_offers g c = search rules
