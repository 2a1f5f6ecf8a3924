-- What contracts see of a replay.
use Rattle.std.specs.Prelude.{◌≡◌, ℕ, ◌+◌, ◌^◌, ◌<◌, ◌≤◌, false, ◌&&◌, not, List, [], length, take, reverse, slice_get, Some, None}
use Rattle.resty_base.specs.declared.names.Id.{Id}
use Rattle.resty_base.specs.declared.names.StrandId.{StrandId}
use Rattle.resty_world.specs.declared.schedule_line.SchedLine.{SchedLine}
use Rattle.resty_world.specs.Book.{Book}
use Rattle.resty_world.specs.Ids.{same_id}
use Rattle.schedule.specs.declared.replay.Replay.{Replay}
use Rattle.schedule.specs.declared.ahead.Ahead.TheVariants as ahead
use Rattle.schedule.specs.Ahead.{ahead_of}
use Rattle.schedule.specs.Aside.{is_aside, rooms}
use Rattle.schedule.specs.Counts.{losses_in, counted}
use Rattle.schedule.specs.Peers.{peer_at, ended, room_in, put_fails_in}
use Rattle.schedule.specs.OpenIds.{has, open_ids}
use Rattle.schedule.specs.Steps.{Step, AreSteps, Dialling, Logging, Writing, history_of, lines_of, offers_of, room_of, unspent}
use Rattle.schedule.specs.Steps.{begins_by_failing, has_listened_in_vain, port_of, within_asking, faults_in}

abbrev pub book_of : Replay → Book
book_of w = record {
  history = Some w.history.entries;
  offered = Some (reverse w.offered.items);
  schedule = Some w.course;
  passed = w.passed;
  spare = w.spare;
  is_open = λ x. has same_id x (open_ids w.history.entries);
  has_ended = λ x. ended (peer_at w.peers x);
  id_aside = λ x. has same_id x (open_ids w.history.entries);
  strand_aside = is_aside w.aside;
  arrivals = length w.peers.connections;
  dials = length w.peers.sockets;
  faults = w.faults;
  losses = w.losses;
  port = w.port;
}

-- the steps that brought a replay where it stands, which are of some kind, with the rooms and the unspent `fail` lines that it keeps
pub record StandsBy (kind : List Step → Type 0) (w : Replay) : Type 0 where
  pub steps : List Step
  pub right : AreSteps w.course steps
  pub passed : lines_of steps ≡ take w.passed w.course
  pub history : history_of steps ≡ w.history.entries
  pub offered : offers_of steps ≡ reverse w.offered.items
  pub faults : w.faults ≡ counted (faults_in steps)
  pub losses : w.losses ≡ counted (losses_in w.history.entries)
  pub rooms : (x : Id) → room_in (peer_at w.peers x) ≡ room_of x steps
  pub put_fails : (x : Id) → put_fails_in (peer_at w.peers x) ≡ unspent (Writing x) steps
  pub dial_fails : w.dial_fails ≡ unspent Dialling steps
  pub log_fails : w.log_fails ≡ unspent Logging steps
  pub listen_fails : w.listen_fails ≡ (begins_by_failing w.course && not (has_listened_in_vain steps))
  pub port : w.port ≡ port_of steps
  pub kept : kind steps

-- a replay stands where no asking has begun that isn't answered, or anywhere
abbrev pub Stands : Replay → Type 0
Stands w = StandsBy (λ steps. within_asking steps ≡ false) w

abbrev pub StandsAnywhere : Replay → Type 0
StandsAnywhere w = StandsBy (λ steps. Unit {0}) w

-- the second is the first, some calls later: where the first stood at steps, so does the second
pub record IsLater (before now : Replay) : Type 0 where
  pub schedule : now.course ≡ before.course
  pub passed : before.passed ≤ now.passed
  pub stands : Stands before → Stands now

-- there is room for the entry of any event, and for all that an arrival sets aside
pub record IsReady (w : Replay) : Type 0 where
  pub room : rooms w.open_count w.aside w.spare + 3 ≤ w.history.room
  pub counted : rooms w.open_count w.aside w.spare + 3 < 2 ^ 64
  pub strand : w.spare + 1 ≤ w.aside.free
  pub connection : 0 < w.peers.free

-- the lines from the next up to this index are passed, and give no event
abbrev pub IsQuietTo : Replay → ℕ → Type 0
IsQuietTo w index = (k : ℕ) → w.passed ≤ k → k < index → ahead_of w.history.entries (slice_get w.course k) ≡ ahead.Quiet

-- the second is the first after some lines more, of which none gave an event
pub record IsPast (before now : Replay) : Type 0 where
  pub book : book_of now ≡ record (book_of before) { passed = now.passed }
  pub passed : before.passed ≤ now.passed
  pub schedule : now.course ≡ before.course
  pub entries : now.history.entries ≡ before.history.entries
  pub reached : StandsAnywhere before → StandsAnywhere now
  pub ready : IsReady before → IsReady now

-- the second is the first after the answer of an asking, which may have passed lines before
pub record HasAnswered (before now : Replay) : Type 0 where
  pub schedule : now.course ≡ before.course
  pub passed : before.passed ≤ now.passed
  pub stands : StandsAnywhere before → Stands now

-- a world of which nothing was asked yet
pub record IsFresh (lines : List SchedLine) (book : Book) : Type 0 where
  pub history : book.history ≡ Some []
  pub offered : book.offered ≡ Some []
  pub schedule : book.schedule ≡ Some lines
  pub passed : book.passed ≡ 0
  pub spare : book.spare ≡ 0
  pub is_open : (x : Id) → book.is_open x ≡ false
  pub has_ended : (x : Id) → book.has_ended x ≡ false
  pub id_aside : (x : Id) → book.id_aside x ≡ false
  pub strand_aside : (s : StrandId) → book.strand_aside s ≡ false
  pub arrivals : book.arrivals ≡ 0
  pub dials : book.dials ≡ 0
  pub faults : book.faults ≡ 0
  pub losses : book.losses ≡ 0
  pub port : book.port ≡ None
