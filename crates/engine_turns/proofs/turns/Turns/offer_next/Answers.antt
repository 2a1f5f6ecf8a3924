use Rattle.std.proofs.Common.{◌≡◌, ◌∷◌, length, Some, None, if◌then◌else◌, refl, sym, ap, subst, ◌∙◌, arith, rules}
use Rattle.resty_base.specs.declared.names.StrandId.{StrandId}
use Rattle.resty_base.specs.declared.names.StrandId.TheVariants as strand
use Rattle.resty_world.specs.Ids.{same_strand}
use Rattle.strand_contract.specs.declared.turns.Place.TheVariants as place
use Rattle.strand_contract.specs.Actions.{Offer}
use Rattle.executions.specs.Executions.{Of}
use Rattle.engine_tables.specs.Seats.{seat_at}
use Rattle.engine_turns.specs.Turns.{seat_left}
use Rattle.engine_base.proofs.Turns.{busy-offered, falls-offered, skip-offer}
use Rattle.engine_turns.proofs.turns.Turns.offer_next.Goals as goal

pub offer_place-requires-clause-client : goal.offer_place-requires-clause-client
offer_place-requires-clause-client g c = λ client.
    let ms = c.loop-who.invariant.standing.0 in
    let k = c.in-Conn.connection in
    let now : c.loop-who.self.offer_queue.items ≡ (c.in-Some.who, c.in-Some.place) ∷ c.pop_front.new.self.items = c.in-Some.ensures.items in
    let front : c.loop-who.self.offer_queue.items ≡ (strand.Conn k, place.Client) ∷ c.pop_front.new.self.items = now ∙ ap (λ w. (w, c.in-Some.place) ∷ c.pop_front.new.self.items) c.in-Conn.is ∙ ap (λ p. (strand.Conn k, p) ∷ c.pop_front.new.self.items) client in
    let here : seat_at c.loop-who.self.seats (strand.Conn k) ≡ Some c.in-Some-take.seat = subst (λ (w : StrandId). seat_at c.loop-who.self.seats w ≡ Some c.in-Some-take.seat) c.in-Conn.is (sym c.in-Some-take.ensures.value) in (
      Of (strand.Conn k) (Offer place.Client) None ∷ ms,
      busy-offered _ _ ms _ _ c.loop-who.invariant.standing.1 (g.met.S.StrandContract.still c.args.site.now) (g.met.S.StrandContract.quiet c.args.site.now) k c.pop_front.new.self.items c.in-Some-take.seat _ front here c.loop-who.invariant.in_offers c.loop-who.invariant.to_come
          (λ s. subst (λ (w : StrandId). seat_at c.take.new.self s ≡ (if same_strand s w then None else seat_at c.loop-who.self.seats s)) c.in-Conn.is (c.take.ensures.rest s)) refl refl refl refl refl refl refl,
    )

pub offer_place-requires-clause-falls : goal.offer_place-requires-clause-falls
offer_place-requires-clause-falls g c =
    let ms = c.loop-who.invariant.standing.0 in
    let k = c.in-Conn.connection in
    let now : c.loop-who.self.offer_queue.items ≡ (c.in-Some.who, c.in-Some.place) ∷ c.pop_front.new.self.items = c.in-Some.ensures.items in
    let front : c.loop-who.self.offer_queue.items ≡ (strand.Conn k, c.in-Some.place) ∷ c.pop_front.new.self.items = now ∙ ap (λ w. (w, c.in-Some.place) ∷ c.pop_front.new.self.items) c.in-Conn.is in
    let here : seat_at c.loop-who.self.seats (strand.Conn k) ≡ Some c.in-Some-take.seat = subst (λ (w : StrandId). seat_at c.loop-who.self.seats w ≡ Some c.in-Some-take.seat) c.in-Conn.is (sym c.in-Some-take.ensures.value) in (
      Of (strand.Conn k) (Offer c.in-Some.place) None ∷ ms,
      falls-offered _ _ ms _ _ c.loop-who.invariant.standing.1 (g.met.S.StrandContract.quiet c.args.site.now) k c.in-Some.place c.pop_front.new.self.items c.in-Some-take.seat _ front here c.loop-who.invariant.in_offers c.loop-who.invariant.to_come
          (λ s. subst (λ (w : StrandId). seat_at c.take.new.self s ≡ (if same_strand s w then None else seat_at c.loop-who.self.seats s)) c.in-Conn.is (c.take.ensures.rest s)) refl refl refl refl refl refl refl,
    )

pub loop-who-preserved : goal.loop-who-preserved
loop-who-preserved g c =
    let ms = c.loop-who.invariant.standing.0 in
    let now : c.loop-who.self.offer_queue.items ≡ (c.in-Some.who, c.in-Some.place) ∷ c.pop_front.new.self.items = c.in-Some.ensures.items in
    record {
      standing = (ms, skip-offer _ _ ms _ _ c.loop-who.invariant.standing.1 _ c.in-Some.who c.in-Some.place c.pop_front.new.self.items now (sym c.in_default-take.ensures.value) c.take.ensures.rest refl refl refl refl refl refl refl);
      works = c.loop-who.invariant.works;
      in_offers = c.loop-who.invariant.in_offers;
      to_come = c.loop-who.invariant.to_come;
      run_queue = c.loop-who.invariant.run_queue;
      less = omega (arith, ap length now, c.in_default-take.ensures.total (seat_left g.S.StrandContract.left), c.loop-who.invariant.less);
    }

pub loop-who-init : goal.loop-who-init
loop-who-init g c = search rules
