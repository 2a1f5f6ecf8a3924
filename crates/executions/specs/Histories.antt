-- The history of an execution: what it leaves written down, the newest first.
use Rattle.std.specs.Prelude.{ℕ, List, [], ◌∷◌, ◌++◌, length, Option, Some, None, if◌then◌else◌}
use Rattle.resty_base.specs.declared.names.Id.TheVariants as id
use Rattle.resty_base.specs.declared.names.StrandId.{StrandId}
use Rattle.resty_world.specs.declared.event.Event.TheVariants as event
use Rattle.resty_world.specs.declared.entry.Entry.{Entry}
use Rattle.resty_world.specs.declared.entry.Entry.TheVariants as entry
use Rattle.strand_contract.specs.declared.turns.Start.{Start}
use Rattle.strand_contract.specs.declared.turns.Start.TheVariants as start
use Rattle.strand_contract.specs.Actions.{Word, Moment, Stop, Action, Began, Bytes, Ended, Broken, Ready, Dialled, Refused, Put, Later, Lost, Close, Log}
use Rattle.strand_contract.specs.Actions.{Dict, Take, Dial, Keep, Timer, Dropped, LocalAction, Told, Did, is_internal}
use Rattle.strand_contract.specs.Behaviors.{Behavior}
use Rattle.strand_contract.specs.Alone.{piece}
use Rattle.executions.specs.Executions.{GlobalAction, Of, Everyone, TurnedAway, IdleGave, IdleClosed, projection}
use Rattle.executions.specs.Sockets.{id_at, socket_at, closed_by}

-- a strand's execution without what leaves no entry
abbrev pub without_internal : {J : Type 0} → List (LocalAction J) → List (LocalAction J)
without_internal [] = []
without_internal (Told w ∷ es) = Told w ∷ without_internal es
without_internal (Did x ∷ es) = if is_internal x then without_internal es else Did x ∷ without_internal es

-- a strand's part of the history
abbrev pub part : {J : Type 0} → StrandId → List (GlobalAction J) → List (LocalAction J)
part s ms = without_internal (projection s ms)

-- the entry of a strand's beginning
abbrev pub start_entry : {J : Type 0} → Start J → Entry
start_entry (start.Client c) = entry.Given (event.Arrive c)
start_entry (start.Job j premature job) = entry.Start j

-- the number and the uses of a socket that was taken
abbrev pub found : Option ℕ → Option ℕ → Option (ℕ × ℕ)
found (Some n) (Some uses) = Some (n, uses)
found n uses = None

-- the closing of a socket, where one is closed
abbrev pub closing : Option ℕ → List Entry
closing None = []
closing (Some n) = entry.Close (id.Sock n) ∷ []

-- the entry of a strand's beginning, and of what it is told of its connection or of a socket
abbrev pub told_entries : {J : Type 0} → StrandId → Action J → List (GlobalAction J) → List Entry
told_entries s (Began now how) ms = start_entry how ∷ []
told_entries s (Bytes q bytes) ms = entry.Given (event.Bytes (id_at s q ms) bytes) ∷ []
told_entries s (Ended q) ms = entry.Given (event.Ended (id_at s q ms)) ∷ []
told_entries s (Broken q) ms = entry.Given (event.Broken (id_at s q ms)) ∷ []
told_entries s (Ready q) ms = entry.Given (event.Ready (id_at s q ms)) ∷ []
told_entries s (Dialled k) ms = entry.Given (event.Dialled (socket_at s k ms).sock) ∷ []
told_entries s (Refused k) ms = entry.Given (event.Refused (socket_at s k ms).sock) ∷ []
told_entries s x ms = []

-- the entry of what became of a piece that was offered, and of a closing
abbrev pub sent_entries : {J : Type 0} → StrandId → Action J → List (GlobalAction J) → List Entry
sent_entries s (Put q bytes) ms = entry.Put (id_at s q ms) bytes ∷ []
sent_entries s (Later q) ms = entry.Later (id_at s q ms) ∷ []
sent_entries s (Lost q) ms = entry.Lost (id_at s q ms) ∷ []
sent_entries s (Close q) ms = entry.Close (id_at s q ms) ∷ []
sent_entries s x ms = []

-- the entries of a strand's calls, and of its being dropped; what a socket that is kept crowds out is closed with it
abbrev pub call_entries : {J : Type 0} → Behavior J → StrandId → Action J → Option ℕ → List (GlobalAction J) → List Entry
call_entries b s (Log line done) n ms = entry.Log s line done ∷ []
call_entries b s (Dict z call answer) n ms = entry.Dict s (b.zone_name z) call answer ∷ []
call_entries b s (Take key uses) n ms = entry.Take s key (found n uses) ∷ []
call_entries b s (Dial host port done) n ms = entry.Dial s host port n ∷ []
call_entries b s (Keep k key idle size) n ms = closing n ++ entry.Keep s (socket_at s k ms).sock key idle size n ∷ []
call_entries b s (Timer at answer) n ms = entry.Timer s at answer ∷ []
call_entries b s Dropped n ms = entry.Dropped s ∷ []
call_entries b s x n ms = []

-- the entries of an action of a strand
abbrev pub entries_at : {J : Type 0} → Behavior J → StrandId → Action J → Option ℕ → List (GlobalAction J) → List Entry
entries_at b s x n ms = told_entries s x ms ++ sent_entries s x ms ++ call_entries b s x n ms

-- the entry of what all are told
abbrev pub word_entry : Word → Entry
word_entry (Moment t) = entry.Given (event.Moment (record { 0 = t }))
word_entry Stop = entry.Given event.Stop

-- the entries of any action, the newest first
abbrev pub entries_of : {J : Type 0} → Behavior J → GlobalAction J → List (GlobalAction J) → List Entry
entries_of b (Of s x n) ms = entries_at b s x n ms
entries_of b (Everyone w) ms = word_entry w ∷ []
entries_of b (TurnedAway c) ms = entry.Close (id.Conn c) ∷ entry.Turned c ∷ entry.Given (event.Arrive c) ∷ []
entries_of b (IdleGave e) ms = closing (closed_by e) ++ entry.Given e ∷ []
entries_of b (IdleClosed n) ms = entry.Close (id.Sock n) ∷ []

-- the history of an execution
abbrev pub external : {J : Type 0} → Behavior J → List (GlobalAction J) → List Entry
external b [] = []
external b (m ∷ ms) = entries_of b m ms ++ external b ms

-- how long the piece was that a write was offered, if it was taken or put off
abbrev pub offered_at : {J : Type 0} → Behavior J → Action J → List (LocalAction J) → List ℕ
offered_at b (Put q bytes) es = length (piece b q es) ∷ []
offered_at b (Later q) es = length (piece b q es) ∷ []
offered_at b x es = []

-- the same of any action
abbrev pub lengths_of : {J : Type 0} → Behavior J → GlobalAction J → List (GlobalAction J) → List ℕ
lengths_of b (Of s x n) ms = offered_at b x (projection s ms)
lengths_of b m ms = []

-- the lengths of all pieces that were offered, the newest first
abbrev pub offered_lengths : {J : Type 0} → Behavior J → List (GlobalAction J) → List ℕ
offered_lengths b [] = []
offered_lengths b (m ∷ ms) = lengths_of b m ms ++ offered_lengths b ms
