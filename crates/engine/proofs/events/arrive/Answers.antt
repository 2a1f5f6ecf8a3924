use Rattle.std.proofs.Common.{◌<◌, ◌≤◌, None, ◌∷◌, refl, arith}
use Rattle.resty_base.specs.declared.names.Id.TheVariants as id
use Rattle.resty_base.specs.declared.names.StrandId.TheVariants as strand
use Rattle.strand_contract.specs.declared.turns.Start.TheVariants as start
use Rattle.strand_contract.specs.Actions.{Began}
use Rattle.executions.specs.Executions.{Of, TurnedAway}
use Rattle.engine_base.proofs.Arrivals.{falls-begun, busy-begun, stands-turned}
use Rattle.engine_turns.proofs.Seats.{done-of}
use Rattle.engine_turns.proofs.Going.{goes-joins, goes-work, turned-work, closed-work, forgot-work}
use Rattle.engine.proofs.events.arrive.Goals as goal

pub returns-then-from-turns-clause-standing : goal.returns-then-from-turns-clause-standing
returns-then-from-turns-clause-standing g c =
    let r = c.requires.1 in
    let gave = c.requires.2 in
    let k = c.args.connection in
    let full : (g.S.StrandContract.meaning c.args.site.now).behavior.connections ≤ c.args.turns.now.connections = omega (arith) in (
      TurnedAway k ∷ r.0,
      stands-turned _ _ r.0 _ c.requires.0 r.1 r.2.0 r.2.1 r.2.2 r.2.3 (g.met.S.StrandContract.keeps c.args.site.now) k gave.fit (g.W.World.book c.args.world.now) _ _ _ _ gave full c.note.ensures.notes c.hang_up.ensures.hangs_up c.forget.ensures.forgets,
    )

pub returns-then-from-turns-clause-works : goal.returns-then-from-turns-clause-works
returns-then-from-turns-clause-works g c =
    goes-joins g.W.World.same g.W.World.book _ c.hang_up.new.self _ _ _ _ (g.met.W.World.joins _ _ _)
    (goes-joins g.W.World.same g.W.World.book _ c.note.new.self _ _ _ _ (g.met.W.World.joins _ _ _)
    (goes-work g.W.World.same g.W.World.book _ _ _ _ c.note.ensures.same (turned-work c.args.connection) c.note.ensures.notes.history c.note.ensures.notes.counts.faults c.note.ensures.notes.course.port)
    (goes-work g.W.World.same g.W.World.book _ _ _ _ c.hang_up.ensures.same (closed-work (id.Conn c.args.connection)) c.hang_up.ensures.hangs_up.history c.hang_up.ensures.hangs_up.counts.faults c.hang_up.ensures.hangs_up.course.port))
    (forgot-work g.W.World.same g.W.World.book _ _ _ (strand.Conn c.args.connection) c.forget.ensures.same c.forget.ensures.forgets)

pub carry-requires : goal.carry-requires
carry-requires g c =
    let r = c.requires.1 in
    let gave = c.requires.2 in
    let room : c.args.turns.now.connections < (g.S.StrandContract.meaning c.args.site.now).behavior.connections = omega (arith) in (
      c.args.site.now,
      (
        Of (strand.Conn c.args.connection) (Began c.args.turns.now.now.0 (start.Client c.args.connection)) None ∷ r.0,
        busy-begun _ _ r.0 _ c.requires.0 r.1 r.2.0 r.2.1 r.2.2 r.2.3 (g.met.S.StrandContract.keeps c.args.site.now) c.args.connection gave.fit (g.W.World.book c.args.world.now) gave _ room refl (g.met.S.StrandContract.asks_last c.args.site.now) _ _ c.in-Ok.ensures.0 c.in-Ok.ensures.1,
      ),
    )

pub begin-requires-in-Some : goal.begin-requires-in-Some
begin-requires-in-Some g c =
    let r = c.requires.1 in
    let gave = c.requires.2 in
    let room : c.args.turns.now.connections < (g.S.StrandContract.meaning c.args.site.now).behavior.connections = omega (arith) in (
      c.args.site.now,
      done-of _ c.args.connection c.in-Some.next c.carry.new.self (g.W.World.book c.carry.new.world) (c.in-Some.ensures.lives c.args.site.now (
        Of (strand.Conn c.args.connection) (Began c.args.turns.now.now.0 (start.Client c.args.connection)) None ∷ r.0,
        busy-begun _ _ r.0 _ c.requires.0 r.1 r.2.0 r.2.1 r.2.2 r.2.3 (g.met.S.StrandContract.keeps c.args.site.now) c.args.connection gave.fit (g.W.World.book c.args.world.now) gave _ room refl (g.met.S.StrandContract.asks_last c.args.site.now) _ _ c.in-Ok.ensures.0 c.in-Ok.ensures.1,
      )),
    )

pub returns-in-Some-clause-standing : goal.returns-in-Some-clause-standing
returns-in-Some-clause-standing g c =
    let r = c.requires.1 in
    let gave = c.requires.2 in
    let room : c.args.turns.now.connections < (g.S.StrandContract.meaning c.args.site.now).behavior.connections = omega (arith) in
    c.begin-in-Some.ensures.standing c.args.site.now (done-of _ c.args.connection c.in-Some.next c.carry.new.self (g.W.World.book c.carry.new.world) (c.in-Some.ensures.lives c.args.site.now (
      Of (strand.Conn c.args.connection) (Began c.args.turns.now.now.0 (start.Client c.args.connection)) None ∷ r.0,
      busy-begun _ _ r.0 _ c.requires.0 r.1 r.2.0 r.2.1 r.2.2 r.2.3 (g.met.S.StrandContract.keeps c.args.site.now) c.args.connection gave.fit (g.W.World.book c.args.world.now) gave _ room refl (g.met.S.StrandContract.asks_last c.args.site.now) _ _ c.in-Ok.ensures.0 c.in-Ok.ensures.1,
    )))

pub returns-in_default-clause-standing : goal.returns-in_default-clause-standing
returns-in_default-clause-standing g c =
    let r = c.requires.1 in
    let gave = c.requires.2 in
    let room : c.args.turns.now.connections < (g.S.StrandContract.meaning c.args.site.now).behavior.connections = omega (arith) in
    c.in_default.ensures.lives c.args.site.now (
      Of (strand.Conn c.args.connection) (Began c.args.turns.now.now.0 (start.Client c.args.connection)) None ∷ r.0,
      busy-begun _ _ r.0 _ c.requires.0 r.1 r.2.0 r.2.1 r.2.2 r.2.3 (g.met.S.StrandContract.keeps c.args.site.now) c.args.connection gave.fit (g.W.World.book c.args.world.now) gave _ room refl (g.met.S.StrandContract.asks_last c.args.site.now) _ _ c.in-Ok.ensures.0 c.in-Ok.ensures.1,
    )

pub give_up-requires : goal.give_up-requires
give_up-requires g c =
    let r = c.requires.1 in
    let gave = c.requires.2 in
    let room : c.args.turns.now.connections < (g.S.StrandContract.meaning c.args.site.now).behavior.connections = omega (arith) in (
      c.args.site.now,
      (
        Of (strand.Conn c.args.connection) (Began c.args.turns.now.now.0 (start.Client c.args.connection)) None ∷ r.0,
        falls-begun _ _ r.0 _ c.requires.0 r.1 r.2.0 r.2.1 r.2.2 r.2.3 (g.met.S.StrandContract.keeps c.args.site.now) c.args.connection gave.fit (g.W.World.book c.args.world.now) gave _ room refl,
      ),
    )

pub returns-in-Err-clause-standing : goal.returns-in-Err-clause-standing
returns-in-Err-clause-standing g c =
    let r = c.requires.1 in
    let gave = c.requires.2 in
    let room : c.args.turns.now.connections < (g.S.StrandContract.meaning c.args.site.now).behavior.connections = omega (arith) in
    c.give_up.ensures.standing c.args.site.now (
      Of (strand.Conn c.args.connection) (Began c.args.turns.now.now.0 (start.Client c.args.connection)) None ∷ r.0,
      falls-begun _ _ r.0 _ c.requires.0 r.1 r.2.0 r.2.1 r.2.2 r.2.3 (g.met.S.StrandContract.keeps c.args.site.now) c.args.connection gave.fit (g.W.World.book c.args.world.now) gave _ room refl,
    )
