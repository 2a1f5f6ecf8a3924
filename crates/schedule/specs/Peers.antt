-- The connections that arrived and the sockets that were dialled, each found by its number.
use Rattle.std.specs.Prelude.{◌≡◌, ℕ, ◌-◌, ◌==◌, Bool, true, false, not, ◌&&◌, List, slice_get, Option, Some, None, if◌then◌else◌}
use Rattle.resty_base.specs.declared.names.Id.{Id}
use Rattle.resty_base.specs.declared.names.Id.TheVariants as id
use Rattle.resty_world.specs.Ids.{same_id, is_socket}
use Rattle.schedule.specs.declared.peer.Peer.{Peer}

-- the connections and the sockets in order, and how many connections more need no memory
pub record Roll : Type 0 where
  pub connections : List Peer
  pub sockets : List Peer
  pub free : ℕ

-- the element of that number, from 1
abbrev pub numbered : List Peer → ℕ → Option Peer
numbered peers n = if n == 0 then None else slice_get peers (n - 1)

-- what is kept of an id, none where it was never there
abbrev pub peer_at : Roll → Id → Option Peer
peer_at roll (id.Conn c) = numbered roll.connections c
peer_at roll (id.Sock n) = numbered roll.sockets n

-- of the id this is kept now, and of each other what was kept
abbrev pub IsChanged : Id → Option Peer → Roll → Roll → Type 0
IsChanged i q old new = (x : Id) → peer_at new x ≡ (if same_id x i then q else peer_at old x)

-- one that is new: it is open, and takes all
abbrev pub fresh : Peer
fresh = record { is_open = true; has_ended = false; room = None; put_fails = 0 }

-- the same, once it was hung up as this id: of a socket no end is known any more
abbrev pub closed_peer : Id → Peer → Peer
closed_peer i p = record p { is_open = false; has_ended = p.has_ended && not (is_socket i) }

-- what is kept, of which no end is known
abbrev pub unended : Option Peer → Option Peer
unended None = None
unended (Some p) = Some (record p { has_ended = false })

-- it is open; it was hung up; no bytes of it come any more
abbrev pub opened : Option Peer → Bool
opened None = false
opened (Some p) = p.is_open

abbrev pub closed : Option Peer → Bool
closed None = false
closed (Some p) = not p.is_open

abbrev pub ended : Option Peer → Bool
ended None = false
ended (Some p) = p.has_ended

-- the room that a line left it, and how many `fail` lines for its writes aren't spent
abbrev pub room_in : Option Peer → Option ℕ
room_in None = None
room_in (Some p) = p.room

abbrev pub put_fails_in : Option Peer → ℕ
put_fails_in None = 0
put_fails_in (Some p) = p.put_fails
