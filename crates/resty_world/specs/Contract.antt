-- What each call of a world does to its book.
use Rattle.std.specs.Prelude.{◌≡◌, ℕ, ◌+◌, ◌<◌, true, false, ◌&&◌, List, [], ◌∷◌, length, Option, if◌then◌else◌}
use Rattle.resty_base.specs.Counting.{RoseWhere}
use Rattle.resty_base.specs.declared.names.Id.{Id}
use Rattle.resty_base.specs.declared.names.StrandId.{StrandId}
use Rattle.resty_world.specs.declared.entry.Entry.{Entry}
use Rattle.resty_world.specs.declared.entry.Entry.TheVariants as entry
use Rattle.resty_world.specs.declared.answers.Wrote.{Wrote}
use Rattle.resty_world.specs.declared.answers.Dial.{Dial}
use Rattle.resty_world.specs.declared.answers.Logged.{Logged}
use Rattle.resty_world.specs.declared.answers.Listened.{Listened}
use Rattle.resty_world.specs.declared.answers.Noted.{Noted}
use Rattle.resty_world.specs.declared.answers.Noted.TheVariants as noted
use Rattle.resty_world.specs.Book.{Book, told, KeepsTold, KeepsNumbers, KeepsIds, KeepsCourse, KeepsCounts}
use Rattle.resty_world.specs.Calls.{port_after, listen_failed, wrote_entry, wrote_offer, IsPiece, write_lost, dial_entry, dials_id, dials_of}
use Rattle.resty_world.specs.Calls.{IsNextSocket, dial_failed, log_entry, log_failed, uses_aside, room_of, sets_aside, is_strand, handed_back}
use Rattle.resty_world.specs.Ids.{same_id, same_strand, is_socket, is_own}

-- it listens on a port, or listening fails
pub record Listens (port : ℕ) (answer : Listened) (old new : Book) : Type 0 where
  pub entered : KeepsTold old new
  pub ids : KeepsIds old new
  pub schedule : new.schedule ≡ old.schedule
  pub passed : new.passed ≡ old.passed
  pub listens : new.port ≡ port_after port answer old.port
  pub faults : RoseWhere (listen_failed answer) old.faults new.faults
  pub losses : new.losses ≡ old.losses

-- bytes are offered to an open id
pub record Puts (i : Id) (bytes : List ℕ) (answer : Wrote) (old new : Book) : Type 0 where
  pub history : new.history ≡ told (wrote_entry i bytes answer) old.history
  pub offered : new.offered ≡ told (wrote_offer bytes answer) old.offered
  pub piece : IsPiece (length bytes) answer
  pub ids : KeepsIds old new
  pub course : KeepsCourse old new
  pub faults : new.faults ≡ old.faults
  pub losses : RoseWhere (write_lost answer) old.losses new.losses

-- a socket is dialled for a strand: it is open, and room is set aside for its closing
pub record Dials (who : StrandId) (host : List ℕ) (port : ℕ) (answer : Dial) (old new : Book) : Type 0 where
  pub history : new.history ≡ told (dial_entry who host port answer) old.history
  pub offered : new.offered ≡ old.offered
  pub next : IsNextSocket old.dials answer
  pub is_open : (x : Id) → new.is_open x ≡ (if dials_id answer x then true else old.is_open x)
  pub has_ended : (x : Id) → new.has_ended x ≡ (if dials_id answer x then false else old.has_ended x)
  pub id_aside : (x : Id) → new.id_aside x ≡ (if dials_id answer x then true else old.id_aside x)
  pub strand_aside : (s : StrandId) → new.strand_aside s ≡ old.strand_aside s
  pub arrivals : new.arrivals ≡ old.arrivals
  pub dials : new.dials ≡ old.dials + dials_of answer
  pub course : KeepsCourse old new
  pub faults : new.faults ≡ old.faults
  pub losses : RoseWhere (dial_failed answer) old.losses new.losses

-- an id is closed, by the room that was set aside for it; of a socket nothing more is reported, of a connection whether it ended
pub record HangsUp (i : Id) (old new : Book) : Type 0 where
  pub history : new.history ≡ told (entry.Close i ∷ []) old.history
  pub offered : new.offered ≡ old.offered
  pub spare : new.spare ≡ old.spare
  pub is_open : (x : Id) → new.is_open x ≡ (if same_id x i then false else old.is_open x)
  pub has_ended : (x : Id) → new.has_ended x ≡ (if is_socket i && same_id x i then false else old.has_ended x)
  pub id_aside : (x : Id) → new.id_aside x ≡ (if same_id x i then false else old.id_aside x)
  pub strand_aside : (s : StrandId) → new.strand_aside s ≡ old.strand_aside s
  pub numbers : KeepsNumbers old new
  pub course : KeepsCourse old new
  pub counts : KeepsCounts old new

-- a strand is over: its room is given up, and what was reported of the end of its connection
pub record Forgets (who : StrandId) (old new : Book) : Type 0 where
  pub entered : KeepsTold old new
  pub spare : new.spare ≡ old.spare
  pub is_open : (x : Id) → new.is_open x ≡ old.is_open x
  pub has_ended : (x : Id) → new.has_ended x ≡ (if is_own who x then false else old.has_ended x)
  pub id_aside : (x : Id) → new.id_aside x ≡ old.id_aside x
  pub strand_aside : (s : StrandId) → new.strand_aside s ≡ (if same_strand s who then false else old.strand_aside s)
  pub numbers : KeepsNumbers old new
  pub course : KeepsCourse old new
  pub counts : KeepsCounts old new

-- a log line of a strand is written, or that fails
pub record Logs (who : StrandId) (line : List ℕ) (answer : Logged) (old new : Book) : Type 0 where
  pub history : new.history ≡ told (log_entry who line answer) old.history
  pub offered : new.offered ≡ old.offered
  pub ids : KeepsIds old new
  pub course : KeepsCourse old new
  pub faults : RoseWhere (log_failed answer) old.faults new.faults
  pub losses : new.losses ≡ old.losses

-- there is spare room for an entry, or memory ran out
pub record MakesRoom (answer : Noted) (old new : Book) : Type 0 where
  pub done : answer ≡ noted.Done → 0 < new.spare
  pub entered : KeepsTold old new
  pub ids : KeepsIds old new
  pub course : KeepsCourse old new
  pub counts : KeepsCounts old new

-- an entry is noted, on the room that is set aside for it or on spare room; it may set room aside
pub record Notes (e : Entry) (back : Option Entry) (old new : Book) : Type 0 where
  pub history : new.history ≡ told (e ∷ []) old.history
  pub handed_back : back ≡ handed_back old.history e
  pub offered : new.offered ≡ old.offered
  pub spare : new.spare + room_of (uses_aside e) ≡ old.spare
  pub is_open : (x : Id) → new.is_open x ≡ old.is_open x
  pub has_ended : (x : Id) → new.has_ended x ≡ old.has_ended x
  pub id_aside : (x : Id) → new.id_aside x ≡ old.id_aside x
  pub strand_aside :
      (s : StrandId)
      → new.strand_aside s ≡ (if is_strand (sets_aside e) s then true else if is_strand (uses_aside e) s then false else old.strand_aside s)
  pub numbers : KeepsNumbers old new
  pub course : KeepsCourse old new
  pub counts : KeepsCounts old new
