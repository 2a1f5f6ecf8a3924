-- What the parts of the pool become, each by itself.
use Rattle.std.specs.Prelude.{ℕ, ◌+◌, nat_eq, List, Option, Some, None, if◌then◌else◌}
use Rattle.std.specs.Map.{remove_entry}
use Rattle.resty_base.specs.declared.names.Ms.{Ms}
use Rattle.shared_rules.specs.Keys.{same_key}
use Rattle.wakes.specs.declared.deadlines.Whose.{Whose}
use Rattle.wakes.specs.declared.deadlines.Whose.TheVariants as whose
use Rattle.wakes.specs.Times.{Deadline, DeadlinesView, armed_with, due_at, without_any}
use Rattle.sock_pool.specs.declared.pool.Parked.{Parked}
use Rattle.sock_pool.specs.Keys.{left_out}

-- a socket with a moment gets the next number and a deadline
abbrev pub next_number : Option Ms → DeadlinesView → Option ℕ
next_number None view = None
next_number (Some at) view = Some (view.last + 1)

abbrev pub armed_until : Option Ms → ℕ → DeadlinesView → DeadlinesView
armed_until None sock view = view
armed_until (Some at) sock view = armed_with view at (whose.Idle sock)

-- the deadline of a number leaves
abbrev pub disarmed : Option ℕ → DeadlinesView → DeadlinesView
disarmed None view = view
disarmed (Some number) view = record view { armed = remove_entry (nat_eq number) view.armed }

-- the socket of a deadline
abbrev pub idle_socket : Whose → Option ℕ
idle_socket (whose.Idle sock) = Some sock
idle_socket other = None

abbrev pub socket_of : Option Deadline → Option ℕ
socket_of None = None
socket_of (Some d) = idle_socket d.1.whose

-- what is due first leaves
abbrev pub without_due : ℕ → DeadlinesView → DeadlinesView
without_due now view = record view { armed = without_any (due_at now view.armed) view.armed }

-- what was kept for a socket leaves, where it is kept anew with this key
abbrev pub forgotten_key : Option Parked → List ℕ → ℕ → List ℕ → List ℕ → List ℕ
forgotten_key None key sock k socks = socks
forgotten_key (Some parked) key sock k socks = if same_key parked.idle.key key then socks else left_out parked.idle.key sock k socks

abbrev pub forgotten_deadline : Option Parked → DeadlinesView → DeadlinesView
forgotten_deadline None view = view
forgotten_deadline (Some parked) view = disarmed parked.deadline view
