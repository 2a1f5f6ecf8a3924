-- Sockets: which strand holds which, and which are idle.
use Rattle.std.specs.Prelude.{ℕ, ◌==◌, ◌&&◌, true, List, [], ◌∷◌, ◌++◌, Option, Some, None, if◌then◌else◌}
use Rattle.resty_base.specs.declared.names.Ms.{Ms}
use Rattle.resty_base.specs.declared.names.Id.{Id}
use Rattle.resty_base.specs.declared.names.Id.TheVariants as id
use Rattle.resty_base.specs.declared.names.StrandId.{StrandId}
use Rattle.resty_base.specs.declared.names.StrandId.TheVariants as strand
use Rattle.resty_world.specs.Ids.{same_strand}
use Rattle.resty_world.specs.declared.event.Event.{Event}
use Rattle.resty_world.specs.declared.event.Event.TheVariants as event
use Rattle.strand_contract.specs.declared.turns.Place.{Place}
use Rattle.strand_contract.specs.declared.turns.Place.TheVariants as place
use Rattle.shared_rules.specs.declared.sockets.Idle.{Idle}
use Rattle.shared_rules.specs.Pool.{taken_from, kept_in, idle_until, without_socket, without_any}
use Rattle.strand_contract.specs.Actions.{Action, Close, Take, Dial, Keep}
use Rattle.strand_contract.specs.Alone.{socket_count}
use Rattle.executions.specs.Executions.{GlobalAction, Of, IdleGave, IdleClosed, projection, present}
use Rattle.executions.specs.Queues.{only}

-- a socket that a strand holds: its place by the strand's own count, its number, and how often it was taken
pub record Socket : Type 0 where
  pub at : ℕ
  pub sock : ℕ
  pub uses : ℕ

-- without the socket at a strand's place
abbrev pub without_held : StrandId → Place → List (StrandId × Socket) → List (StrandId × Socket)
without_held s place.Client l = l
without_held s (place.Sock k) [] = []
without_held s (place.Sock k) (e ∷ l) = if same_strand s e.0 && (k == e.1.at) then l else e ∷ without_held s (place.Sock k) l

-- a strand gets a socket of this number, if there is one
abbrev pub got : StrandId → ℕ → Option ℕ → ℕ → List (StrandId × Socket) → List (StrandId × Socket)
got s k None uses l = l
got s k (Some n) uses l = l ++ (s, record { at = k; sock = n; uses = uses }) ∷ []

-- what an action changes of the sockets that are held: one is dialled or taken, closed or kept
abbrev pub held_by : {J : Type 0} → StrandId → Action J → Option ℕ → ℕ → List (StrandId × Socket) → List (StrandId × Socket)
held_by s (Dial host port true) n k l = got s k n 0 l
held_by s (Take key (Some uses)) n k l = got s k n uses l
held_by s (Close q) n k l = without_held s q l
held_by s (Keep j key idle size) n k l = without_held s (place.Sock j) l
held_by s x n k l = l

-- the same of any action; a strand counts its sockets from 0
abbrev pub sockets_by : {J : Type 0} → GlobalAction J → List (GlobalAction J) → List (StrandId × Socket) → List (StrandId × Socket)
sockets_by (Of s x n) ms l = held_by s x n (socket_count (projection s ms)) l
sockets_by m ms l = l

-- the sockets that strands hold, as they were got
abbrev pub sockets : {J : Type 0} → List (GlobalAction J) → List (StrandId × Socket)
sockets [] = []
sockets (m ∷ ms) = sockets_by m ms (sockets ms)

-- those of one strand, in order
abbrev pub holds : {J : Type 0} → StrandId → List (GlobalAction J) → List Socket
holds s ms = only s (sockets ms)

-- of these sockets, whose the number is
abbrev pub holder_in : ℕ → List (StrandId × Socket) → Option (StrandId × ℕ)
holder_in n [] = None
holder_in n (e ∷ l) = if n == e.1.sock then Some (e.0, e.1.at) else holder_in n l

-- who holds the socket of a number, and at which place
abbrev pub owner : {J : Type 0} → ℕ → List (GlobalAction J) → Option (StrandId × ℕ)
owner n ms = holder_in n (sockets ms)

-- of these sockets the one at a place; its number is 0 where there is none
abbrev pub at_place : ℕ → List Socket → Socket
at_place k [] = record { at = k; sock = 0; uses = 0 }
at_place k (h ∷ hs) = if k == h.at then h else at_place k hs

-- the socket at a strand's place
abbrev pub socket_at : {J : Type 0} → StrandId → ℕ → List (GlobalAction J) → Socket
socket_at s k ms = at_place k (holds s ms)

-- the id that a place of a strand stands for
abbrev pub id_at : {J : Type 0} → StrandId → Place → List (GlobalAction J) → Id
id_at (strand.Conn c) place.Client ms = id.Conn c
id_at (strand.Job j) place.Client ms = id.Conn 0
id_at s (place.Sock k) ms = id.Sock (socket_at s k ms).sock

-- the number of a socket, none for a connection
abbrev pub of_id : Id → Option ℕ
of_id (id.Sock n) = Some n
of_id (id.Conn c) = None

-- the socket that an event is of
abbrev pub event_socket : Event → Option ℕ
event_socket (event.Bytes i bytes) = of_id i
event_socket (event.Ended i) = of_id i
event_socket (event.Broken i) = of_id i
event_socket (event.Ready i) = of_id i
event_socket (event.Dialled n) = Some n
event_socket (event.Refused n) = Some n
event_socket e = None

-- the idle socket that an event closes
abbrev pub closed_by : Event → Option ℕ
closed_by (event.Bytes i bytes) = of_id i
closed_by (event.Ended i) = of_id i
closed_by (event.Broken i) = of_id i
closed_by e = None

-- a socket as it is idle from now on
abbrev pub idle_of : ℕ → List ℕ → Ms → Socket → Idle
idle_of now key idle h = record { key = key; sock = h.sock; uses = h.uses; until = idle_until now idle.0 }

-- a take and a keep change the pool by the plain rules
abbrev pub pool_at : {J : Type 0} → StrandId → Action J → List (GlobalAction J) → List Idle → List Idle
pool_at s (Take key uses) ms pool = taken_from key pool
pool_at s (Keep k key idle size) ms pool = kept_in (idle_of (present ms) key idle (socket_at s k ms)) size pool
pool_at s x ms pool = pool

-- and an idle socket that is closed leaves it
abbrev pub pool_by : {J : Type 0} → GlobalAction J → List (GlobalAction J) → List Idle → List Idle
pool_by (Of s x n) ms pool = pool_at s x ms pool
pool_by (IdleGave e) ms pool = without_any (closed_by e) pool
pool_by (IdleClosed n) ms pool = without_socket n pool
pool_by m ms pool = pool

-- the idle sockets, the most recent first
abbrev pub pool : {J : Type 0} → List (GlobalAction J) → List Idle
pool [] = []
pool (m ∷ ms) = pool_by m ms (pool ms)
