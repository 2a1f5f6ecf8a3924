-- What contracts see of a live world: it reports nothing but its counts, and how its ids and strands stand.
use Rattle.std.specs.Prelude.{◌≡◌, Bool, false, None}
use Rattle.resty_base.specs.declared.names.Id.{Id}
use Rattle.resty_base.specs.declared.names.Id.TheVariants as id
use Rattle.resty_base.specs.declared.names.StrandId.{StrandId}
use Rattle.resty_base.specs.declared.names.StrandId.TheVariants as strand
use Rattle.resty_world.specs.Book.{Book}
use Rattle.live_world.specs.declared.accounts.Accounts.{Accounts}
use Rattle.live_world.specs.Standings.{standing_at, has_job}

-- room is set aside for a strand
abbrev pub is_aside : Accounts → StrandId → Bool
is_aside a (strand.Conn c) = (standing_at a.standings.ids (id.Conn c)).is_aside
is_aside a (strand.Job n) = has_job a.standings.jobs n

abbrev pub book_of : Accounts → Book
book_of a = record {
  history = None;
  offered = None;
  schedule = None;
  passed = 0;
  spare = a.spare;
  is_open = λ x. (standing_at a.standings.ids x).is_open;
  has_ended = λ x. (standing_at a.standings.ids x).has_ended;
  id_aside = λ x. (standing_at a.standings.ids x).is_open;
  strand_aside = is_aside a;
  arrivals = a.arrivals;
  dials = a.dials;
  faults = a.faults;
  losses = a.losses;
  port = a.port;
}

-- a world at which nothing has happened
pub record IsNew (book : Book) : Type 0 where
  pub history : book.history ≡ None
  pub offered : book.offered ≡ None
  pub schedule : book.schedule ≡ None
  pub is_open : (x : Id) → book.is_open x ≡ false
  pub has_ended : (x : Id) → book.has_ended x ≡ false
  pub id_aside : (x : Id) → book.id_aside x ≡ false
  pub strand_aside : (s : StrandId) → book.strand_aside s ≡ false
  pub arrivals : book.arrivals ≡ 0
  pub dials : book.dials ≡ 0
  pub faults : book.faults ≡ 0
  pub losses : book.losses ≡ 0
  pub port : book.port ≡ None
