use Rattle.std.proofs.Common.{refl}
use Rattle.engine_turns.proofs.Seats.{to-runs}
use Rattle.engine_turns.proofs.turns.Turns.settle.Goals as goal

pub returns-clause-rests : goal.returns-clause-rests
returns-clause-rests g c =
    let nil = c.loop-test.ensures.none refl in
    let s = c.loop-test.ensures.standing in
    (s.0, to-runs _ _ _ _ _ s.0 s.1 nil.1 refl, (nil.0, nil.1, refl, c.loop-test.ensures.to_come))
