use Rattle.std.proofs.Common.{◌≡◌, ◌<◌, [], true, length, sym, ◌∙◌, arith}
use Rattle.std.proofs.lemmas.Grind.{common_steps}
use Rattle.resty_base.specs.declared.names.StrandId.TheVariants as strand
use Rattle.strand_contract.specs.declared.turns.Place.TheVariants as place
use Rattle.strand_contract.specs.Alone.{piece}
use Rattle.executions.specs.Executions.{projection}
use Rattle.engine_base.proofs.Writes.{is-not-offered, turn-put, turn-later, turn-lost}
use Rattle.resty_base.specs.declared.names.Id.TheVariants as id
use Rattle.resty_world.specs.declared.answers.Wrote.TheVariants as wrote
use Rattle.engine_base.proofs.Acts.{near-falls, falls-kept}
use Rattle.engine_base.proofs.Lists.{told-nothing}
use Rattle.engine_turns.proofs.Going.{goes-joins, goes-put}
use Rattle.engine_turns.proofs.turns.Turns.offer.Goals as goal

pub show-requires : goal.show-requires
show-requires g c =
    let ms = c.loop-piece.invariant.busy.0 in
    let y = c.loop-piece.invariant.busy.1 in
    let now : c.queued-piece.result.now ≡ piece (g.S.StrandContract.meaning c.args.site.now).behavior place.Client (projection (strand.Conn c.args.connection) ms) = c.queued-piece.ensures (projection (strand.Conn c.args.connection) ms) y.stands (y.near.around.common.alone (strand.Conn c.args.connection)) y.near.around.alive y.near.to_do in
    let fits = rw now at c.in-Took.ensures.puts.piece in
    (ms, turn-put _ _ (g.met.S.StrandContract.asks_last c.args.site.now) c.args.connection _ _ _ _ (g.W.World.book c.put_bytes.new.self) ms y c.in-Took.ensures.puts.ids c.in-Took.count fits.0 fits.1 (rw now at c.in-Took.ensures.puts.history) (rw now at c.in-Took.ensures.puts.offered))

pub take_turn-requires : goal.take_turn-requires
take_turn-requires g c =
    let ms = c.loop-piece.invariant.busy.0 in
    let y = c.loop-piece.invariant.busy.1 in
    let now : c.queued-piece.result.now ≡ piece (g.S.StrandContract.meaning c.args.site.now).behavior place.Client (projection (strand.Conn c.args.connection) ms) = c.queued-piece.ensures (projection (strand.Conn c.args.connection) ms) y.stands (y.near.around.common.alone (strand.Conn c.args.connection)) y.near.around.alive y.near.to_do in
    let some : 0 < length c.queued-piece.result.now = grind (arith, common_steps) in
    (ms, turn-later _ _ (g.met.S.StrandContract.asks_last c.args.site.now) c.args.connection _ _ _ _ (g.W.World.book c.put_bytes.new.self) ms y c.in-Later.ensures.puts.ids (rw now at some) c.in-Later.ensures.puts.history (rw now at c.in-Later.ensures.puts.offered))

pub take_turn-requires-in-Broken : goal.take_turn-requires-in-Broken
take_turn-requires-in-Broken g c =
    let ms = c.loop-piece.invariant.busy.0 in
    let y = c.loop-piece.invariant.busy.1 in
    let now : c.queued-piece.result.now ≡ piece (g.S.StrandContract.meaning c.args.site.now).behavior place.Client (projection (strand.Conn c.args.connection) ms) = c.queued-piece.ensures (projection (strand.Conn c.args.connection) ms) y.stands (y.near.around.common.alone (strand.Conn c.args.connection)) y.near.around.alive y.near.to_do in
    let some : 0 < length c.queued-piece.result.now = grind (arith, common_steps) in
    (ms, turn-lost _ _ (g.met.S.StrandContract.asks_last c.args.site.now) c.args.connection _ _ _ _ (g.W.World.book c.put_bytes.new.self) ms y c.in-Broken.ensures.puts.ids (rw now at some) c.in-Broken.ensures.puts.history c.in-Broken.ensures.puts.offered)

pub returns-then-is_empty-clause-works : goal.returns-then-is_empty-clause-works
returns-then-is_empty-clause-works g c = goes-joins g.W.World.same g.W.World.book _ _ _ _ _ _ (g.met.W.World.joins _ _ _) c.loop-piece.invariant.works c.put_back.ensures.works

pub returns-in-None-clause-works : goal.returns-in-None-clause-works
returns-in-None-clause-works g c =
    goes-joins g.W.World.same g.W.World.book _ _ _ _ _ _ (g.met.W.World.joins _ _ _)
    (goes-put g.W.World.same g.W.World.book _ _ c.put_bytes.new.self _ _ (g.met.W.World.joins _ _ _) c.loop-piece.invariant.works (id.Conn c.args.connection) c.queued-piece.result.now (wrote.Took c.in-Took.count) c.in-Took.ensures.same c.in-Took.ensures.puts.history c.in-Took.ensures.puts.faults c.in-Took.ensures.puts.course.port)
    c.show.ensures.works

pub returns-in-Later-clause-works : goal.returns-in-Later-clause-works
returns-in-Later-clause-works g c =
    goes-joins g.W.World.same g.W.World.book _ _ _ _ _ _ (g.met.W.World.joins _ _ _)
    (goes-put g.W.World.same g.W.World.book _ _ c.put_bytes.new.self _ _ (g.met.W.World.joins _ _ _) c.loop-piece.invariant.works (id.Conn c.args.connection) c.queued-piece.result.now wrote.Later c.in-Later.ensures.same c.in-Later.ensures.puts.history c.in-Later.ensures.puts.faults c.in-Later.ensures.puts.course.port)
    c.take_turn.ensures.works

pub returns-in-Broken-clause-works : goal.returns-in-Broken-clause-works
returns-in-Broken-clause-works g c =
    goes-joins g.W.World.same g.W.World.book _ _ _ _ _ _ (g.met.W.World.joins _ _ _)
    (goes-put g.W.World.same g.W.World.book _ _ c.put_bytes.new.self _ _ (g.met.W.World.joins _ _ _) c.loop-piece.invariant.works (id.Conn c.args.connection) c.queued-piece.result.now wrote.Broken c.in-Broken.ensures.same c.in-Broken.ensures.puts.history c.in-Broken.ensures.puts.faults c.in-Broken.ensures.puts.course.port)
    c.take_turn-in-Broken.ensures.works

pub returns-in-Memory-clause-works : goal.returns-in-Memory-clause-works
returns-in-Memory-clause-works g c =
    goes-joins g.W.World.same g.W.World.book _ _ _ _ _ _ (g.met.W.World.joins _ _ _)
    (goes-put g.W.World.same g.W.World.book _ _ c.put_bytes.new.self _ _ (g.met.W.World.joins _ _ _) c.loop-piece.invariant.works (id.Conn c.args.connection) c.queued-piece.result.now wrote.Memory c.in-Memory.ensures.same c.in-Memory.ensures.puts.history c.in-Memory.ensures.puts.faults c.in-Memory.ensures.puts.course.port)
    c.give_up.ensures.works

pub returns-then-is_empty-clause-standing : goal.returns-then-is_empty-clause-standing
returns-then-is_empty-clause-standing g c =
    let ms = c.loop-piece.invariant.busy.0 in
    let y = c.loop-piece.invariant.busy.1 in
    let k = c.args.connection in
    let now : c.queued-piece.result.now ≡ piece (g.S.StrandContract.meaning c.args.site.now).behavior place.Client (projection (strand.Conn k) ms) = c.queued-piece.ensures (projection (strand.Conn k) ms) y.stands (y.near.around.common.alone (strand.Conn k)) y.near.around.alive y.near.to_do in
    let nil : c.queued-piece.result.now ≡ [] = grind (arith, common_steps) in
    c.put_back.ensures.standing c.args.site.now (true, ms, y, is-not-offered (g.S.StrandContract.meaning c.args.site.now).behavior (projection (strand.Conn k) ms) true c.loop-piece.seat.is_open (sym now ∙ nil) y.near.offer)

pub returns-in-Memory-clause-standing : goal.returns-in-Memory-clause-standing
returns-in-Memory-clause-standing g c =
    let ms = c.loop-piece.invariant.busy.0 in
    let y = c.loop-piece.invariant.busy.1 in
    let k = c.args.connection in
    let puts = c.in-Memory.ensures.puts in
    c.give_up.ensures.standing c.args.site.now (ms, falls-kept _ _ k _ _ (g.W.World.book c.loop-piece.world) (g.W.World.book c.put_bytes.new.self) ms (near-falls _ _ k [] true _ _ _ ms y.near) puts.ids (record { history = puts.history ∙ told-nothing _; offered = puts.offered ∙ told-nothing _ }))
