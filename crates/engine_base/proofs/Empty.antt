-- The execution in which nothing happens.
use Rattle.std.proofs.Common.{◌≡◌, true, false, refl, []}
use Rattle.resty_base.specs.declared.names.Id.TheVariants as id
use Rattle.resty_world.specs.Book.{Book}
use Rattle.strand_contract.specs.Behaviors.{Behavior}
use Rattle.engine_base.specs.Right.{IsFresh, IsRight}

pub fresh-right : {J : Type 0} (b : Behavior J) (book : Book) → IsFresh book → IsRight b book
fresh-right b book fresh = record {
  execution = [];
  history = fresh.history;
  offered = fresh.offered;
  lawful = record {
    alone = λ s. tt;
    begins = tt;
    given = tt;
    rests = record {
      each = λ s. record { idle = λ on. absurd (let e : false ≡ true = on in cc); closed = λ off. refl };
      waits = record { settled = tt; no_thread = refl; no_place = refl };
    };
  };
  kept = (tt, λ s on. absurd (let e : false ≡ true = on in cc));
  plain = tt;
  aside = fresh.none_aside;
  forgotten = λ c off. fresh.none_ended (id.Conn c);
  ordered = tt;
  served = tt;
}
