use Rattle.std.proofs.Common.{◌≡◌, ℕ, true, false, Option, Some, None, is_some, refl, ap, sym}
use Rattle.std.specs.Ordering.{nat_cmp}
use Rattle.std.specs.BTreeMap.{get}
use Rattle.resty_base.specs.declared.names.StrandId.TheVariants as strand
use Rattle.engine_tables.specs.declared.seats.Seats.{Seats}
use Rattle.engine_tables.specs.Seats.{content, seat_at, has_seat}
use Rattle.engine_base.specs.declared.seats.ToCome.TheVariants as coming
use Rattle.engine_turns.specs.Turns.{view_of}
use Rattle.engine_turns.proofs.Seats.{vacant-ends}
use Rattle.engine_base.proofs.Words.{turn-halt, stands-ended, stands-passed}
use Rattle.engine.proofs.events.end_all.Goals as goal

-- where there is no seat there is no strand
no-seat : {X : Type 0} (seats : Seats X) (t : ℕ) → has_seat seats t ≡ false → seat_at seats (strand.Conn t) ≡ None
no-seat {X} seats t h = put (get nat_cmp seats.by_connection t) h
  where
    put : (o : Option (Option X)) → is_some o ≡ false → content o ≡ None
    put None g = refl
    put (Some x) g = absurd (let e : true ≡ false = g in cc)

pub take_turn-requires : goal.take_turn-requires
take_turn-requires g c =
    let i = c.loop-connection.invariant in
    let f = c.in-Some.ensures in (
      i.standing.0,
      turn-halt _ _ i.standing.0 _ _ i.standing.1 c.loop-connection.last i.to_come (g.met.S.StrandContract.asks_last c.args.site.now) c.in-Some.connection c.in-Some-take.seat _ f.after (λ t on less. no-seat c.loop-connection.turns.seats t (f.first t on less)) (sym c.in-Some-take.ensures.value) i.in_offers c.take.ensures.rest refl refl refl refl refl refl refl,
    )

pub loop-connection-preserved : goal.loop-connection-preserved
loop-connection-preserved g c =
    let i = c.loop-connection.invariant in
    let f = c.in-Some.ensures in
    let k = c.in-Some.connection in
    let seats = c.loop-connection.turns.seats in
    let gone : seat_at seats (strand.Conn k) ≡ None = sym c.in_default-take.ensures.value in
    record {
      standing = (
        i.standing.0,
        stands-passed _ _ i.standing.0 _ _ i.standing.1 c.loop-connection.last i.to_come k _ f.after (λ t on less. no-seat seats t (f.first t on less)) gone
            (ap (λ rest. record (view_of c.loop-connection.turns) { seats = rest; to_come = coming.Endings (Some k) }) (vacant-ends seats c.take.new.self (strand.Conn k) c.take.ensures.rest gone)),
      );
      works = i.works;
      in_offers = i.in_offers;
      to_come = refl;
    }

pub returns : goal.returns
returns g c =
    let i = c.loop-connection.invariant in
    record {
      standing = (i.standing.0, stands-ended _ _ i.standing.0 _ _ i.standing.1 c.loop-connection.last i.to_come _ (λ t on. no-seat c.loop-connection.turns.seats t (c.in_default.ensures.none refl t on)) refl);
      works = i.works;
      to_come = refl;
    }
