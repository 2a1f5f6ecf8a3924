use Rattle.std.proofs.Common.{◌≡◌, Some, None, if◌then◌else◌, length, refl, sym, ap, subst, ◌∙◌, arith}
use Rattle.resty_base.specs.declared.names.StrandId.{StrandId}
use Rattle.resty_base.specs.declared.names.StrandId.TheVariants as strand
use Rattle.resty_world.specs.Ids.{same_strand}
use Rattle.executions.specs.Agenda.{OfStrand, without_one, is_number, least, whose}
use Rattle.engine_tables.specs.Seats.{seat_at}
use Rattle.engine_base.proofs.Agendas.{shorter}
use Rattle.engine_base.proofs.Deadlines.{turn-due, due-seated}
use Rattle.engine_turns.specs.Turns.{seat_left}
use Rattle.engine_turns.proofs.turns.Turns.wake_next.Goals as goal

pub take_turn-requires : goal.take_turn-requires
take_turn-requires g c =
    let ms = c.requires.standing.0 in
    let k = c.in-Conn.connection in
    let first : whose (least c.args.self.now.now.0 c.args.self.now.agenda) ≡ Some (OfStrand (strand.Conn k) c.in-Some.number) = sym c.in-Some.ensures.whose ∙ ap (λ w. Some (OfStrand w c.in-Some.number)) c.in-Conn.is in
    let here : seat_at c.args.self.now.seats (strand.Conn k) ≡ Some c.in-Some-take.seat = subst (λ (w : StrandId). seat_at c.args.self.now.seats w ≡ Some c.in-Some-take.seat) c.in-Conn.is (sym c.in-Some-take.ensures.value) in (
      ms,
      turn-due _ _ ms _ _ c.requires.standing.1 c.requires.to_come (g.met.S.StrandContract.quiet c.args.site.now) (g.met.S.StrandContract.asks_last c.args.site.now) k c.in-Some.number c.in-Some-take.seat _ first here c.requires.in_offers
          (λ s. subst (λ (w : StrandId). seat_at c.take.new.self s ≡ (if same_strand s w then None else seat_at c.args.self.now.seats s)) c.in-Conn.is (c.take.ensures.rest s)) refl refl refl refl refl refl
          (subst (λ (w : StrandId). c.due.new.self ≡ without_one (is_number w c.in-Some.number) c.args.self.now.agenda) c.in-Conn.is c.in-Some.ensures.left),
    )

pub returns-clause-less : goal.returns-clause-less
returns-clause-less g c = λ more.
    let fewer = shorter c.in-Some.who c.in-Some.number c.args.self.now.now.0 c.args.self.now.agenda (sym c.in-Some.ensures.whose) in
    omega (arith, c.take_turn.ensures.work refl, c.in-Some-take.ensures.total (seat_left g.S.StrandContract.left), ap length c.in-Some.ensures.left, fewer)

pub returns-in_default-take-clause-standing : goal.returns-in_default-take-clause-standing
returns-in_default-take-clause-standing g c =
    absurd (due-seated _ _ c.requires.standing.0 _ _ c.requires.standing.1 c.requires.to_come (g.met.S.StrandContract.quiet c.args.site.now) c.in-Some.who c.in-Some.number (sym c.in-Some.ensures.whose) (sym c.in_default-take.ensures.value))

pub returns-in_default-take-clause-less : goal.returns-in_default-take-clause-less
returns-in_default-take-clause-less g c = λ more.
    absurd (due-seated _ _ c.requires.standing.0 _ _ c.requires.standing.1 c.requires.to_come (g.met.S.StrandContract.quiet c.args.site.now) c.in-Some.who c.in-Some.number (sym c.in-Some.ensures.whose) (sym c.in_default-take.ensures.value))
