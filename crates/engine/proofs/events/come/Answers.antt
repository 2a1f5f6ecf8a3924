use Rattle.std.proofs.Common.{Some, refl, sym, ap, ◌∙◌}
use Rattle.engine_base.proofs.Events.{turn-shown}
use Rattle.engine.proofs.events.come.Goals as goal

pub take_turn-requires : goal.take_turn-requires
take_turn-requires g c =
    let q = c.requires in
    let r = q.2 in
    let k = c.in-Conn.connection in (
      r.0,
      turn-shown _ _ r.0 _ q.0 r.1 r.2.0 r.2.1 r.2.3 (g.met.S.StrandContract.keeps c.args.site.now) (g.met.S.StrandContract.asks_last c.args.site.now) k c.in-Some.seat _ (g.W.World.book c.args.world.now) (sym c.in-Some.ensures.value) r.2.2 c.take.ensures.rest refl refl refl refl refl refl refl q.1 c.args.seen q.3 (q.4 ∙ ap (λ i. Some (i, c.args.seen)) c.in-Conn.is),
    )
