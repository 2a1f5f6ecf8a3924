use Rattle.std.proofs.Common.{None, ◌∷◌, ◌-◌, refl, ap, arith}
use Rattle.resty_base.specs.declared.names.Id.TheVariants as id
use Rattle.resty_base.specs.declared.names.StrandId.TheVariants as strand
use Rattle.strand_contract.specs.declared.turns.Place.TheVariants as place
use Rattle.strand_contract.specs.Actions.{Close, Dropped}
use Rattle.executions.specs.Executions.{Of}
use Rattle.executions.specs.Agenda.{is_of, without_those}
use Rattle.engine_base.proofs.Agendas.{all-not-longer}
use Rattle.engine_base.proofs.Acts.{fallen-open, fallen-shut}
use Rattle.engine_turns.specs.Turns.{view_of, seat_left}
use Rattle.engine_turns.proofs.Seats.{vacant-ends}
use Rattle.engine_turns.proofs.Going.{goes-joins, goes-work, dropped-work, closed-work, forgot-work}
use Rattle.engine_turns.proofs.turns.Turns.give_up.Goals as goal
use Rattle.engine_turns.proofs.turns.Turns.give_up.Goals.{then-is_open, else-is_open}

pub returns-clause-standing : goal.returns-clause-standing
returns-clause-standing g c = λ site f.
    let k = c.args.connection in
    let same = vacant-ends c.args.self.now.seats c.end-2.new.self (strand.Conn k) c.end-2.ensures.seats f.1.around.out in
    elim c.if-is_open.branch [
      | then-is_open w ↦ (
        Of (strand.Conn k) (Close place.Client) None ∷ Of (strand.Conn k) Dropped None ∷ f.0,
        fallen-open _ _ k (g.met.S.StrandContract.quiet site) _ _ (g.W.World.book c.args.world.now) (g.W.World.book c.note.new.self) (g.W.World.book w.hang_up.new.self) (g.W.World.book c.forget.new.self) _ f.0 (rw w.if-is_open.true at f.1)
            c.note.ensures.notes w.hang_up.ensures.hangs_up (rw w.world-is at c.forget.ensures.forgets) (rw (w.self-is, w.saturating_sub-self.ensures, c.end.ensures) (ap (λ seats. record (view_of c.args.self.now) { seats = seats; connections = c.args.self.now.connections - 1; agenda = without_those (is_of (strand.Conn k)) c.args.self.now.agenda }) same)),
      )
      | else-is_open w ↦ (
        Of (strand.Conn k) Dropped None ∷ f.0,
        fallen-shut _ _ k (g.met.S.StrandContract.quiet site) _ _ (g.W.World.book c.args.world.now) (g.W.World.book c.note.new.self) (g.W.World.book c.forget.new.self) _ f.0 (rw w.if-is_open.false at f.1)
            c.note.ensures.notes (rw w.world-is at c.forget.ensures.forgets) (rw (w.self-is, c.end.ensures) (ap (λ seats. record (view_of c.args.self.now) { seats = seats; agenda = without_those (is_of (strand.Conn k)) c.args.self.now.agenda }) same)),
      )
    ]

pub returns-clause-works : goal.returns-clause-works
returns-clause-works g c =
    let noted = goes-work g.W.World.same g.W.World.book _ _ c.args.self.now.log_failed _ c.note.ensures.same (dropped-work (strand.Conn c.args.connection)) c.note.ensures.notes.history c.note.ensures.notes.counts.faults c.note.ensures.notes.course.port in
    let forgot = forgot-work g.W.World.same g.W.World.book _ _ c.args.self.now.log_failed (strand.Conn c.args.connection) c.forget.ensures.same c.forget.ensures.forgets in
    elim c.if-is_open.branch [
      | then-is_open w ↦ rw w.self-is (goes-joins g.W.World.same g.W.World.book _ w.hang_up.new.self _ _ _ _ (g.met.W.World.joins _ _ _)
          (goes-joins g.W.World.same g.W.World.book _ c.note.new.self _ _ _ _ (g.met.W.World.joins _ _ _) noted
          (goes-work g.W.World.same g.W.World.book _ _ _ _ w.hang_up.ensures.same (closed-work (id.Conn c.args.connection)) w.hang_up.ensures.hangs_up.history w.hang_up.ensures.hangs_up.counts.faults w.hang_up.ensures.hangs_up.course.port))
          (rw w.world-is at forgot))
      | else-is_open w ↦ rw w.self-is (goes-joins g.W.World.same g.W.World.book _ c.note.new.self _ _ _ _ (g.met.W.World.joins _ _ _) noted (rw w.world-is at forgot))
    ]

pub returns-clause-work : goal.returns-clause-work
returns-clause-work g c =
    let fewer = all-not-longer (is_of (strand.Conn c.args.connection)) c.args.self.now.agenda in
    let less = c.end-2.ensures.total (seat_left g.S.StrandContract.left) in
    elim c.if-is_open.branch [
      | then-is_open w ↦ rw (w.self-is, c.end.ensures) (omega (arith, fewer, less))
      | else-is_open w ↦ rw (w.self-is, c.end.ensures) (omega (arith, fewer, less))
    ]

pub returns-clause-kept : goal.returns-clause-kept
returns-clause-kept g c = elim c.if-is_open.branch [
  | then-is_open w ↦ rw (w.self-is, c.end.ensures) refl
  | else-is_open w ↦ rw (w.self-is, c.end.ensures) refl
]
