-- What is kept of connections and sockets agrees with the history.
use Rattle.std.specs.Prelude.{◌≡◌, true, false, List, length}
use Rattle.resty_base.specs.declared.names.Id.{Id}
use Rattle.resty_world.specs.declared.entry.Entry.{Entry}
use Rattle.resty_world.specs.Ids.{same_id}
use Rattle.schedule.specs.Counts.{arrived_in, dials_in}
use Rattle.schedule.specs.Peers.{Roll, peer_at, opened, closed, ended}
use Rattle.schedule.specs.OpenIds.{has, are_distinct, open_ids, hung_up, has_ended}

-- There are so many as arrived and were dialled. Of each it is known whether it is open and whether it was hung up, and where it wasn't,
-- whether it ended or broke; each is opened once.
pub record Knows (roll : Roll) (history : List Entry) : Type 0 where
  pub arrived : length roll.connections ≡ arrived_in history
  pub dialled : length roll.sockets ≡ dials_in history
  pub are_open : (x : Id) → opened (peer_at roll x) ≡ has same_id x (open_ids history)
  pub are_closed : (x : Id) → closed (peer_at roll x) ≡ hung_up history x
  pub are_ended : (x : Id) → closed (peer_at roll x) ≡ false → ended (peer_at roll x) ≡ has_ended history x
  pub distinct : are_distinct same_id (open_ids history) ≡ true
