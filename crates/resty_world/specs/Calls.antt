-- The entries of a world's calls, and what else their answers say.
use Rattle.std.specs.Prelude.{◌≡◌, ℕ, ◌<◌, ◌≤◌, Bool, true, false, List, [], ◌∷◌, take, length, Option, Some, None, ◌+◌}
use Rattle.resty_base.specs.declared.names.Id.{Id}
use Rattle.resty_base.specs.declared.names.Id.TheVariants as id
use Rattle.resty_base.specs.declared.names.StrandId.{StrandId}
use Rattle.resty_base.specs.declared.names.StrandId.TheVariants as strand
use Rattle.resty_world.specs.declared.entry.Entry.{Entry}
use Rattle.resty_world.specs.declared.entry.Entry.TheVariants as entry
use Rattle.resty_world.specs.declared.answers.Wrote.{Wrote}
use Rattle.resty_world.specs.declared.answers.Wrote.TheVariants as wrote
use Rattle.resty_world.specs.declared.answers.Dial.{Dial}
use Rattle.resty_world.specs.declared.answers.Dial.TheVariants as dial
use Rattle.resty_world.specs.declared.answers.Logged.{Logged}
use Rattle.resty_world.specs.declared.answers.Logged.TheVariants as logged
use Rattle.resty_world.specs.declared.answers.Listened.{Listened}
use Rattle.resty_world.specs.declared.answers.Listened.TheVariants as listened
use Rattle.resty_world.specs.declared.answers.TimerAnswer.TheVariants as timer
use Rattle.resty_world.specs.Book.{Book}
use Rattle.resty_world.specs.Ids.{same_id, same_strand}

-- listening: the port that the world listens on after it, and whether it failed
abbrev pub port_after : ℕ → Listened → Option ℕ → Option ℕ
port_after port listened.Up before = Some port
port_after port answer before = before

abbrev pub listen_failed : Listened → Bool
listen_failed listened.Failed = true
listen_failed answer = false

-- a write: its entry, the length of the piece that it answered, and whether something was lost
abbrev pub wrote_entry : Id → List ℕ → Wrote → List Entry
wrote_entry i bytes (wrote.Took n) = entry.Put i (take n bytes) ∷ []
wrote_entry i bytes wrote.Later = entry.Later i ∷ []
wrote_entry i bytes wrote.Broken = entry.Lost i ∷ []
wrote_entry i bytes wrote.Memory = []

abbrev pub wrote_offer : List ℕ → Wrote → List ℕ
wrote_offer bytes (wrote.Took n) = length bytes ∷ []
wrote_offer bytes wrote.Later = length bytes ∷ []
wrote_offer bytes answer = []

-- from one byte to all of the piece are taken
abbrev pub IsPiece : ℕ → Wrote → Type 0
IsPiece offered (wrote.Took n) = (0 < n) × (n ≤ offered)
IsPiece offered answer = Unit {0}

abbrev pub write_lost : Wrote → Bool
write_lost wrote.Broken = true
write_lost answer = false

-- dialling: its entry, the socket that it opens, and whether it failed
abbrev pub dial_entry : StrandId → List ℕ → ℕ → Dial → List Entry
dial_entry who host port (dial.Started n) = entry.Dial who host port (Some n) ∷ []
dial_entry who host port dial.Failed = entry.Dial who host port None ∷ []
dial_entry who host port dial.Memory = []

abbrev pub dials_id : Dial → Id → Bool
dials_id (dial.Started n) x = same_id x (id.Sock n)
dials_id answer x = false

abbrev pub dials_of : Dial → ℕ
dials_of (dial.Started n) = 1
dials_of answer = 0

abbrev pub IsNextSocket : ℕ → Dial → Type 0
IsNextSocket dials (dial.Started n) = n ≡ dials + 1
IsNextSocket dials answer = Unit {0}

abbrev pub dial_failed : Dial → Bool
dial_failed dial.Failed = true
dial_failed answer = false

-- a log line
abbrev pub log_entry : StrandId → List ℕ → Logged → List Entry
log_entry who line logged.Done = entry.Log who line true ∷ []
log_entry who line logged.Failed = entry.Log who line false ∷ []
log_entry who line logged.Memory = []

abbrev pub log_failed : Logged → Bool
log_failed logged.Failed = true
log_failed answer = false

-- the strand whose room an entry uses: one that is dropped, or one that is turned away
abbrev pub uses_aside : Entry → Option StrandId
uses_aside (entry.Dropped s) = Some s
uses_aside (entry.Turned c) = Some (strand.Conn c)
uses_aside e = None

-- what `note` needs: the room that is set aside for the entry, else spare room
abbrev pub HasRoom : Book → Option StrandId → Type 0
HasRoom book (Some s) = book.strand_aside s ≡ true
HasRoom book None = 0 < book.spare

-- how much of the spare room a note takes
abbrev pub room_of : Option StrandId → ℕ
room_of (Some s) = 0
room_of None = 1

-- the strand for which an entry sets room aside: the job that was accepted
abbrev pub sets_aside : Entry → Option StrandId
sets_aside (entry.Timer who due (timer.Job n)) = Some (strand.Job n)
sets_aside e = None

abbrev pub is_strand : Option StrandId → StrandId → Bool
is_strand None s = false
is_strand (Some t) s = same_strand s t

-- the entry comes back where the world reports no history
abbrev pub handed_back : {A : Type 0} → Option A → Entry → Option Entry
handed_back None e = Some e
handed_back (Some h) e = None

-- the entry is one that is noted; the others are the world's own, of what it gave and what its calls did
abbrev pub is_noted : Entry → Bool
is_noted (entry.Given e) = false
is_noted (entry.Put i bytes) = false
is_noted (entry.Later i) = false
is_noted (entry.Lost i) = false
is_noted (entry.Close i) = false
is_noted (entry.Dial who host port n) = false
is_noted (entry.Log who line written) = false
is_noted e = true
