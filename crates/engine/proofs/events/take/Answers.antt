use Rattle.std.proofs.Common.{◌∷◌, refl, subst, arith}
use Rattle.resty_world.specs.declared.event.Event.{Event}
use Rattle.resty_world.specs.declared.event.Event.TheVariants as event
use Rattle.resty_world.specs.Given.{Gave}
use Rattle.strand_contract.specs.Actions.{Moment, Stop}
use Rattle.executions.specs.Executions.{Everyone}
use Rattle.engine_base.proofs.Words.{stands-told}
use Rattle.engine.proofs.events.take.Goals as goal

pub end_all-requires-clause-standing : goal.end_all-requires-clause-standing
end_all-requires-clause-standing g c =
    let r = c.requires.1 in
    let gave : Gave c.requires.0 (g.W.World.book c.args.world.now) event.Stop = subst (λ (e : Event). Gave c.requires.0 (g.W.World.book c.args.world.now) e) c.in-Stop.is c.requires.2 in (
      Everyone Stop ∷ r.0,
      stands-told _ _ r.0 _ c.requires.0 r.1 r.2.0 r.2.1 r.2.2 r.2.3 (g.met.S.StrandContract.keeps c.args.site.now) (g.met.S.StrandContract.still c.args.site.now) (g.met.S.StrandContract.quiet c.args.site.now) Stop _ (g.W.World.book c.args.world.now) (λ s. refl) refl refl refl refl refl refl refl gave.history gave.offered
          (record { is_open = gave.is_open; has_ended = gave.has_ended; id_aside = gave.id_aside; strand_aside = gave.strand_aside; arrivals = omega (arith, gave.arrivals); dials = gave.dials }),
    )

pub wake-requires-clause-standing : goal.wake-requires-clause-standing
wake-requires-clause-standing g c =
    let r = c.requires.1 in
    let gave : Gave c.requires.0 (g.W.World.book c.args.world.now) (event.Moment c.in-Moment.now) = subst (λ (e : Event). Gave c.requires.0 (g.W.World.book c.args.world.now) e) c.in-Moment.is c.requires.2 in (
      Everyone (Moment c.in-Moment.now.0) ∷ r.0,
      stands-told _ _ r.0 _ c.requires.0 r.1 r.2.0 r.2.1 r.2.2 r.2.3 (g.met.S.StrandContract.keeps c.args.site.now) (g.met.S.StrandContract.still c.args.site.now) (g.met.S.StrandContract.quiet c.args.site.now) (Moment c.in-Moment.now.0) _ (g.W.World.book c.args.world.now) (λ s. refl) refl refl refl c.max.ensures refl refl refl gave.history gave.offered
          (record { is_open = gave.is_open; has_ended = gave.has_ended; id_aside = gave.id_aside; strand_aside = gave.strand_aside; arrivals = omega (arith, gave.arrivals); dials = gave.dials }),
    )
