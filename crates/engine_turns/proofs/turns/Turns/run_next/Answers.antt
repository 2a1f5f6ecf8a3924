use Rattle.std.proofs.Common.{◌≡◌, ◌∷◌, length, Some, None, if◌then◌else◌, refl, sym, ap, subst, ◌∙◌, arith, rules}
use Rattle.resty_base.specs.declared.names.StrandId.{StrandId}
use Rattle.resty_base.specs.declared.names.StrandId.TheVariants as strand
use Rattle.resty_world.specs.Ids.{same_strand}
use Rattle.engine_tables.specs.Seats.{seat_at}
use Rattle.engine_turns.specs.Turns.{seat_left}
use Rattle.engine_base.proofs.Turns.{turn-run, skip-run}
use Rattle.engine_turns.proofs.Seats.{popped}
use Rattle.engine_turns.proofs.turns.Turns.run_next.Goals as goal

pub take_turn-requires : goal.take_turn-requires
take_turn-requires g c =
    let ms = c.loop-who.invariant.standing.0 in
    let k = c.in-Conn.connection in
    let now = popped c.loop-who.self.run_queue c.pop.new.self c.in-Some.who c.in-Some.thread c.in-Some.ensures.first c.in-Some.ensures.rest in
    let front : c.loop-who.self.run_queue.threads ≡ (strand.Conn k, c.in-Some.thread) ∷ c.pop.new.self.threads = now ∙ ap (λ w. (w, c.in-Some.thread) ∷ c.pop.new.self.threads) c.in-Conn.is in
    let here : seat_at c.loop-who.self.seats (strand.Conn k) ≡ Some c.in-Some-take.seat = subst (λ (w : StrandId). seat_at c.loop-who.self.seats w ≡ Some c.in-Some-take.seat) c.in-Conn.is (sym c.in-Some-take.ensures.value) in (
      ms,
      turn-run _ _ ms _ _ c.loop-who.invariant.standing.1 (g.met.S.StrandContract.asks_last c.args.site.now) k c.in-Some.thread c.pop.new.self.threads c.in-Some-take.seat _ front here c.loop-who.invariant.in_offers c.loop-who.invariant.to_come
          (λ s. subst (λ (w : StrandId). seat_at c.take.new.self s ≡ (if same_strand s w then None else seat_at c.loop-who.self.seats s)) c.in-Conn.is (c.take.ensures.rest s)) refl refl refl refl refl refl refl,
    )

pub loop-who-preserved : goal.loop-who-preserved
loop-who-preserved g c =
    let ms = c.loop-who.invariant.standing.0 in
    let now = popped c.loop-who.self.run_queue c.pop.new.self c.in-Some.who c.in-Some.thread c.in-Some.ensures.first c.in-Some.ensures.rest in
    record {
      standing = (ms, skip-run _ _ ms _ _ c.loop-who.invariant.standing.1 _ c.in-Some.who c.in-Some.thread c.pop.new.self.threads now (sym c.in_default-take.ensures.value) c.take.ensures.rest refl refl refl refl refl refl refl);
      works = c.loop-who.invariant.works;
      in_offers = c.loop-who.invariant.in_offers;
      to_come = c.loop-who.invariant.to_come;
      offer_queue = c.loop-who.invariant.offer_queue;
      less = omega (arith, ap length now, c.in_default-take.ensures.total (seat_left g.S.StrandContract.left), c.loop-who.invariant.less);
    }

pub loop-who-init : goal.loop-who-init
loop-who-init g c = search rules
