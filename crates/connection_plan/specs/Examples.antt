-- A small site for worked rows, and what a client may send to it.
use Rattle.std.specs.Prelude.{◌≡◌, ℕ, ◌≤◌, not, Bool, true, false, List, [], ◌∷◌, codes, drop, Some, None, if◌then◌else◌}
use Rattle.resty_base.specs.declared.names.Pair2.{Pair2}
use Rattle.uri_args.specs.declared.targets.Target.{Target}
use Rattle.http_in.specs.declared.framing.BodyKind.{BodyKind}
use Rattle.http_in.specs.declared.heads.Head.{Head}
use Rattle.http_in.specs.Ends.{head_end}
use Rattle.client_line.specs.declared.requests.LineOut.TheVariants as out
use Rattle.client_line.specs.Requests.{IsOf}
use Rattle.strand_contract.specs.declared.turns.Place.TheVariants as place
use Rattle.strand_contract.specs.declared.turns.Start.TheVariants as start
use Rattle.strand_contract.specs.declared.turns.Act.{Act}
use Rattle.strand_contract.specs.Actions.{LocalAction, Did, Began, Bytes, Put}
use Rattle.strand_plans.specs.Ledgers.{Ledger, has}
use Rattle.strand_plans.specs.Plans.{state_of, acts_of}
use Rattle.run_contract.specs.declared.turns.RunSeen.{RunSeen}
use Rattle.run_contract.specs.declared.turns.RunSeen.TheVariants as seen
use Rattle.run_contract.specs.declared.turns.Said.TheVariants as said
use Rattle.run_contract.specs.declared.turns.Asking.TheVariants as asking
use Rattle.run_contract.specs.Deeds.{Ready, Say, Turn, Nothing, Within}
use Rattle.run_contract.specs.Runs.{Waits, RunPlan, waits_at_first}
use Rattle.run_contract.specs.Alike.{own_deadlines}
use Rattle.run_contract.specs.Conditions.{IsUnused}
use Rattle.connection_plan.specs.Clients.{Times}
use Rattle.connection_plan.specs.Services.{Service}
use Rattle.connection_plan.specs.Connections.{connection_plan}

-- how far a run has come that replies with the path of its request, or with its body, of at most five bytes
pub data Echo : Type 0 where
  Fresh : Echo
  -- it asked for the body and has no answer; it was told that the body isn't there yet
  Asked : (keep : Bool) → Echo
  Reading : (keep : Bool) → Echo
  Replied : Echo
  -- its client is gone
  Left : Echo

abbrev pub echo_waits : Echo → Waits
echo_waits (Asked keep) = record { body = false; taken = false; client = true; asks = Some (asking.Body 5) }
echo_waits (Reading keep) = record { body = true; taken = false; client = true; asks = None }
echo_waits Left = waits_at_first false
echo_waits e = waits_at_first true

abbrev pub echo_told : Echo → ℕ
echo_told (Asked keep) = 3
echo_told (Reading keep) = 2
echo_told Left = 0
echo_told e = 1

abbrev pub silent : {J : Type 0} → Echo → Turn J Echo
silent r = record { does = []; asks = Nothing; run = r }

-- the whole reply, after which nothing is left
abbrev pub replies : {J : Type 0} → List ℕ → Bool → Turn J Echo
replies bytes keep = record { does = Say (said.Send bytes) ∷ Say (said.Ended (not keep)) ∷ Say said.Over ∷ []; asks = Nothing; run = Replied }

-- its client is gone, and a thread of it runs to end it
abbrev pub leaves : {J : Type 0} → Turn J Echo
leaves = record { does = Ready 0 ∷ []; asks = Nothing; run = Left }

abbrev pub echo_begun : {J : Type 0} → Bool → Head → Target → Turn J Echo
echo_begun reads head target = if reads then record { does = []; asks = Within (asking.Body 5); run = Asked head.keep } else replies target.path head.keep

abbrev pub echo_turn : {J : Type 0} → ℕ → RunSeen → Ledger J → Echo → Turn J Echo
echo_turn now (seen.Body content waited) b (Asked keep) = replies content keep
echo_turn now (seen.Body content waited) b (Reading keep) = replies content keep
echo_turn now (seen.BodyRefused code) b r = replies (code ∷ []) false
echo_turn now seen.NotYet b (Asked keep) = silent (Reading keep)
echo_turn now seen.ClientGone b r = leaves
echo_turn now (seen.Run k) b r = record { does = Say said.Over ∷ []; asks = Nothing; run = r }
echo_turn now s b r = silent r

abbrev pub echo_plan : {J : Type 0} → (reads : Bool) → RunPlan J Echo
echo_plan reads = record {
  unborn = Fresh;
  waits = echo_waits;
  tells_left = echo_told;
  begun = λ now head target b. echo_begun reads head target;
  begun_job = λ now premature job b. leaves;
  turn = echo_turn;
  answered = λ now x b r. silent r;
  zones = 0;
  zone_name = λ n. [];
  zone_size = λ n. 0;
}

-- a thread is queued only once its client is gone; it has no deadline and no socket, sends to none and asks nothing
abbrev pub IsQueued : Echo → List ℕ → Type 0
IsQueued Left threads = drop 1 threads ≡ []
IsQueued e threads = threads ≡ []

pub record EchoHolds {J : Type 0} (b : Ledger J) (e : Echo) : Type 0 where
  pub threads : IsQueued e b.threads
  pub asked : b.asked ≡ None
  pub no_deadline : own_deadlines b.armed ≡ []
  pub no_socket : (k : ℕ) → has (place.Sock k) b.opened ≡ false
  pub unused : (k : ℕ) → b.count ≤ k → IsUnused (place.Sock k) b

abbrev pub example_times : Times
example_times = record { header = 10; keepalive = 20; body = 30; send = 40 }

abbrev pub echo_site : {J : Type 0} → (reads : Bool) → Service J Echo
echo_site reads = record {
  runs = echo_plan reads;
  default_times = example_times;
  times_of = λ head target. example_times;
  refusal = λ code now. code ∷ [];
  connections = 512;
}

-- a request to a path of a client that keeps the connection, with a body of this kind; the client may wait for a 100 reply
abbrev pub request : BodyKind → (expects : Bool) → (path : List ℕ) → List Pair2 → Head
request kind expects path headers = record {
  method = codes "PUT";
  target = path;
  minor = 1;
  headers = headers;
  body = kind;
  keep = true;
  expects = expects;
}

abbrev pub to : (path : List ℕ) → Target
to path = record { path = path; args = []; host = Some (codes "h") }

-- the bytes are the whole head of such a request to the path, and then the rest
pub record Asks (kind : BodyKind) (expects : Bool) (path bytes rest : List ℕ) : Type 0 where
  pub headers : List Pair2
  pub size : ℕ
  pub asks : IsOf bytes (out.Request (request kind expects path headers) (to path))
  pub ends : head_end bytes ≡ Some size
  pub follows : rest ≡ drop size bytes

-- what happens to a connection of a site that replies with bodies or with paths, the newest first: it began at the moment 1,000
abbrev pub began : LocalAction ℕ
began = Did (Began 1_000 (start.Client 1))

abbrev pub came : List ℕ → LocalAction ℕ
came bytes = Did (Bytes place.Client bytes)

abbrev pub took : List ℕ → LocalAction ℕ
took bytes = Did (Put place.Client bytes)

abbrev pub acts : Bool → List (LocalAction ℕ) → List (Act ℕ)
acts reads es = acts_of (connection_plan (echo_site reads)) es

abbrev pub sent : Bool → List (LocalAction ℕ) → List ℕ
sent reads es = (state_of (connection_plan (echo_site reads)) es).ledger.sent place.Client
