use Rattle.std.proofs.Common.{◌≡◌, ◌∙◌, true, false, None, [], ◌∷◌, ◌++◌, length, refl, ap, arith, length-append}
use Rattle.resty_base.specs.declared.names.StrandId.TheVariants as strand
use Rattle.resty_world.specs.declared.answers.Logged.TheVariants as logged
use Rattle.strand_contract.specs.declared.turns.Place.TheVariants as place
use Rattle.strand_contract.specs.Actions.{Close, Log, Gone}
use Rattle.executions.specs.Executions.{Of}
use Rattle.wakes.specs.Queue.{QueueView}
use Rattle.executions.specs.Queues.{without_thread}
use Rattle.engine_base.proofs.Deadlines.{busy-armed, busy-cancelled, falls-disarmed, busy-unready}
use Rattle.engine_base.proofs.Lists.{told-nothing}
use Rattle.executions.specs.Agenda.{OfStrand, without_one, without_those, is_number, is_of}
use Rattle.engine_base.proofs.Agendas.{not-longer, all-not-longer}
use Rattle.engine_turns.specs.Turns.{view_of, seat_left}
use Rattle.engine_turns.proofs.Seats.{without-same, thread-not-longer, vacant-ends}
use Rattle.engine_base.proofs.Acts.{busy-ready, busy-offer, busy-closed, busy-logged, standing-gone, near-falls, falls-kept, client-open, nothing-open, gone-closed}
use Rattle.engine_turns.proofs.Going.{forgot-work, goes-work, goes-failed, logged-work}
use Rattle.engine_turns.proofs.turns.Turns.carry_out.Goals as goal

pub returns-in-Ok-clause-carried : goal.returns-in-Ok-clause-carried
returns-in-Ok-clause-carried g c = λ site rest go y.
    let items : c.push.new.self.threads ≡ c.args.self.now.run_queue.threads ++ (strand.Conn c.args.connection, c.in-Ready.thread) ∷ [] =
    ap (λ (q : QueueView). q.threads) c.push.ensures ∙ ap (λ l. l ++ (strand.Conn c.args.connection, c.in-Ready.thread) ∷ []) c.in-Ok.ensures.threads in
    (y.0, busy-ready _ _ c.args.connection _ c.in-Ready.thread rest go _ _ _ _ y.0 (rw c.in-Ready.is at y.1) (rw items refl))

pub returns-in-Ready-clause-carried : goal.returns-in-Ready-clause-carried
returns-in-Ready-clause-carried g c = λ site rest go y.
    (y.0, rw c.in-Err.ensures.threads (near-falls _ _ c.args.connection (c.args.act ∷ rest) go _ _ _ y.0 y.1.near))

pub returns-in-Unready-clause-carried : goal.returns-in-Unready-clause-carried
returns-in-Unready-clause-carried g c = λ site rest go y.
    let items : c.remove.new.self.threads ≡ without_thread (strand.Conn c.args.connection) c.in-Unready.thread c.args.self.now.run_queue.threads =
    ap (λ (q : QueueView). q.threads) c.remove.ensures ∙ without-same (strand.Conn c.args.connection) c.in-Unready.thread c.args.self.now.run_queue.threads in
    (y.0, busy-unready _ _ c.args.connection _ c.in-Unready.thread rest go _ _ _ _ y.0 (rw c.in-Unready.is at y.1) (rw items refl))

pub returns-in-Ok-arm-clause-carried : goal.returns-in-Ok-arm-clause-carried
returns-in-Ok-arm-clause-carried g c = λ site rest go y.
    (y.0, busy-armed _ _ c.args.connection _ c.in-Arm.number c.in-Arm.at rest go _ _ _ _ y.0 (rw c.in-Arm.is at y.1) (rw c.in-Ok-arm.ensures.done refl))

pub returns-in-Arm-clause-carried : goal.returns-in-Arm-clause-carried
returns-in-Arm-clause-carried g c = λ site rest go y.
    (y.0, falls-disarmed _ _ c.args.connection c.in-Arm.number _ _ _ _ y.0 (near-falls _ _ c.args.connection (c.args.act ∷ rest) go _ _ _ y.0 y.1.near) (rw c.in-Err-arm.ensures.refused refl))

pub returns-in-Cancel-clause-carried : goal.returns-in-Cancel-clause-carried
returns-in-Cancel-clause-carried g c = λ site rest go y.
    (y.0, busy-cancelled _ _ c.args.connection _ c.in-Cancel.number rest go _ _ _ _ y.0 (rw c.in-Cancel.is at y.1) (rw c.cancel.ensures refl))

pub returns-in-Ok-push_back-clause-carried : goal.returns-in-Ok-push_back-clause-carried
returns-in-Ok-push_back-clause-carried g c = λ site rest go y.
    let items : c.push_back.new.self.items ≡ c.args.self.now.offer_queue.items ++ (strand.Conn c.args.connection, c.in-Offer.place) ∷ [] = c.in-Ok-push_back.ensures.items in
    (y.0, busy-offer _ _ c.args.connection _ c.in-Offer.place rest go _ _ _ _ y.0 (rw c.in-Offer.is at y.1) (rw items refl))

pub returns-in-Offer-clause-carried : goal.returns-in-Offer-clause-carried
returns-in-Offer-clause-carried g c = λ site rest go y.
    (y.0, rw c.in-Err-push_back.ensures.items (near-falls _ _ c.args.connection (c.args.act ∷ rest) go _ _ _ y.0 y.1.near))

pub returns-in-Client-clause-carried : goal.returns-in-Client-clause-carried
returns-in-Client-clause-carried g c = λ site rest go y.
    let k = c.args.connection in
    let z = rw (c.in-HangUp.is, c.in-Client.is) at y.1 in
    let on : c.args.seat.now.is_open ≡ true = client-open _ _ k (g.met.S.StrandContract.hangs_up_open site) _ rest go _ _ _ y.0 z in (
      Of (strand.Conn k) (Close place.Client) None ∷ y.0,
      busy-closed _ _ k (g.met.S.StrandContract.still site) (g.met.S.StrandContract.quiet site) _ rest go _ _ (g.W.World.book c.args.world.now) (g.W.World.book c.hang_up.new.self) y.0 (rw on at z) c.hang_up.ensures.hangs_up (rw c.saturating_sub-self.ensures refl),
    )

pub returns-in-HangUp-clause-carried : goal.returns-in-HangUp-clause-carried
returns-in-HangUp-clause-carried g c = λ site rest go y.
    (y.0, near-falls _ _ c.args.connection (c.args.act ∷ rest) go _ _ _ y.0 y.1.near)

pub returns-in-Done-clause-carried : goal.returns-in-Done-clause-carried
returns-in-Done-clause-carried g c = λ site rest go y.
    let line = c.as_slice.ensures in
    let logs = rw line at c.in-Done.ensures.logs in (
      Of (strand.Conn c.args.connection) (Log c.in-Log.line true) None ∷ y.0,
      busy-logged _ _ c.args.connection (g.met.S.StrandContract.still site) (g.met.S.StrandContract.quiet site) _ c.in-Log.line logged.Done rest go _ _ _ (g.W.World.book c.write_log.new.self) y.0 (rw c.in-Log.is at y.1) (λ e. cc) logs,
    )

pub returns-in-Failed-clause-carried : goal.returns-in-Failed-clause-carried
returns-in-Failed-clause-carried g c = λ site rest go y.
    let line = c.as_slice.ensures in
    let logs = rw line at c.in-Failed.ensures.logs in (
      Of (strand.Conn c.args.connection) (Log c.in-Log.line false) None ∷ y.0,
      busy-logged _ _ c.args.connection (g.met.S.StrandContract.still site) (g.met.S.StrandContract.quiet site) _ c.in-Log.line logged.Failed rest go _ _ _ (g.W.World.book c.write_log.new.self) y.0 (rw c.in-Log.is at y.1) (λ e. cc) logs,
    )

pub returns-in-Log-clause-carried : goal.returns-in-Log-clause-carried
returns-in-Log-clause-carried g c = λ site rest go y.
    let logs = c.in-Memory.ensures.logs in
    (y.0, falls-kept _ _ c.args.connection _ _ (g.W.World.book c.args.world.now) (g.W.World.book c.write_log.new.self) y.0 (near-falls _ _ c.args.connection (c.args.act ∷ rest) go _ _ _ y.0 y.1.near) logs.ids (record { history = logs.history ∙ told-nothing _; offered = logs.offered }))

pub forget-requires : goal.forget-requires
forget-requires g c =
    let y = c.requires in
    gone-closed _ _ c.args.connection (g.met.S.StrandContract.leaves_nothing_open y.0) _ y.1 y.2 _ _ _ y.3.0 (rw c.in-Gone.is at y.3.1)

pub returns-in-Gone-clause-carried : goal.returns-in-Gone-clause-carried
returns-in-Gone-clause-carried g c = λ site rest go y.
    let z = rw c.in-Gone.is at y.1 in
    let off : c.args.seat.now.is_open ≡ false = nothing-open _ _ c.args.connection (g.met.S.StrandContract.leaves_nothing_open site) _ rest go _ _ _ y.0 z in (
      Of (strand.Conn c.args.connection) Gone None ∷ y.0,
      standing-gone _ _ c.args.connection (g.met.S.StrandContract.still site) (g.met.S.StrandContract.quiet site) _ rest go _ _ _ _ y.0 (rw off at z) c.forget.ensures.forgets
          (rw c.end.ensures (ap (λ seats. record (view_of c.args.self.now) { seats = seats; agenda = without_those (is_of (strand.Conn c.args.connection)) c.args.self.now.agenda })
          (vacant-ends c.args.self.now.seats c.end-in-Gone.new.self (strand.Conn c.args.connection) c.end-in-Gone.ensures.seats y.1.near.around.out))),
    )

pub returns-clause-carried : goal.returns-clause-carried
returns-clause-carried g c = λ site rest go y.
    (y.0, near-falls _ _ c.args.connection (c.args.act ∷ rest) go _ _ _ y.0 y.1.near)

pub returns-in-Gone-clause-works : goal.returns-in-Gone-clause-works
returns-in-Gone-clause-works g c = forgot-work g.W.World.same g.W.World.book _ _ _ (strand.Conn c.args.connection) c.forget.ensures.same c.forget.ensures.forgets

pub returns-in-Done-clause-works : goal.returns-in-Done-clause-works
returns-in-Done-clause-works g c =
    let logs = c.in-Done.ensures.logs in
    goes-work g.W.World.same g.W.World.book _ _ _ _ c.in-Done.ensures.same (logged-work (strand.Conn c.args.connection) _) logs.history logs.faults logs.course.port

pub returns-in-Failed-clause-works : goal.returns-in-Failed-clause-works
returns-in-Failed-clause-works g c =
    let logs = c.in-Failed.ensures.logs in
    goes-failed g.W.World.same g.W.World.book _ _ _ (strand.Conn c.args.connection) _ c.in-Failed.ensures.same logs.history logs.faults logs.course.port

pub returns-in-Ok-clause-work : goal.returns-in-Ok-clause-work
returns-in-Ok-clause-work g c =
    let items : c.push.new.self.threads ≡ c.args.self.now.run_queue.threads ++ (strand.Conn c.args.connection, c.in-Ready.thread) ∷ [] =
    ap (λ (q : QueueView). q.threads) c.push.ensures ∙ ap (λ l. l ++ (strand.Conn c.args.connection, c.in-Ready.thread) ∷ []) c.in-Ok.ensures.threads in
    omega (arith, ap length items, length-append c.args.self.now.run_queue.threads ((strand.Conn c.args.connection, c.in-Ready.thread) ∷ []))

pub returns-in-Unready-clause-work : goal.returns-in-Unready-clause-work
returns-in-Unready-clause-work g c =
    let items : c.remove.new.self.threads ≡ without_thread (strand.Conn c.args.connection) c.in-Unready.thread c.args.self.now.run_queue.threads =
    ap (λ (q : QueueView). q.threads) c.remove.ensures ∙ without-same (strand.Conn c.args.connection) c.in-Unready.thread c.args.self.now.run_queue.threads in
    omega (arith, ap length items, thread-not-longer (strand.Conn c.args.connection) c.in-Unready.thread c.args.self.now.run_queue.threads)

pub returns-in-Ok-arm-clause-work : goal.returns-in-Ok-arm-clause-work
returns-in-Ok-arm-clause-work g c =
    let so = is_number (strand.Conn c.args.connection) c.in-Arm.number in
    omega (arith, ap length c.in-Ok-arm.ensures.done, length-append (without_one so c.args.self.now.agenda) ((OfStrand (strand.Conn c.args.connection) c.in-Arm.number, c.in-Arm.at.0) ∷ []), not-longer so c.args.self.now.agenda)

pub returns-in-Arm-clause-work : goal.returns-in-Arm-clause-work
returns-in-Arm-clause-work g c =
    omega (arith, ap length c.in-Err-arm.ensures.refused, not-longer (is_number (strand.Conn c.args.connection) c.in-Arm.number) c.args.self.now.agenda)

pub returns-in-Cancel-clause-work : goal.returns-in-Cancel-clause-work
returns-in-Cancel-clause-work g c =
    omega (arith, ap length c.cancel.ensures, not-longer (is_number (strand.Conn c.args.connection) c.in-Cancel.number) c.args.self.now.agenda)

pub returns-in-Gone-clause-work : goal.returns-in-Gone-clause-work
returns-in-Gone-clause-work g c = omega (arith, ap length c.end.ensures, all-not-longer (is_of (strand.Conn c.args.connection)) c.args.self.now.agenda, c.end-in-Gone.ensures.total (seat_left g.S.StrandContract.left))
