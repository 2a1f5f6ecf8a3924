use Rattle.std.proofs.Common.{refl, ◌∙◌}
use Rattle.engine_base.proofs.Deadlines.{stands-woken}
use Rattle.engine_turns.proofs.turns.Turns.wake.Goals as goal

pub returns-clause-standing : goal.returns-clause-standing
returns-clause-standing g c =
    let s = c.loop-test.ensures.standing in
    (s.0, stands-woken _ _ s.0 _ _ s.1 (c.loop-test.ensures.phase.1 ∙ c.loop.invariant.to_come) (g.met.S.StrandContract.quiet c.args.site.now) _ (c.loop-test.ensures.none refl) refl)
