-- How the pool is kept: its sockets in the order of their keeps, those of each key, and the deadlines of those that end.
use Rattle.std.specs.Prelude.{◌≡◌, ℕ, ◌+◌, ◌<◌, nat_eq, List, [], ◌∷◌, ◌++◌, map, Option, Some, None, is_some}
use Rattle.std.specs.List.{AllByRecursion, IsDistinct}
use Rattle.std.specs.Map.{keys_of}
use Rattle.resty_base.specs.declared.names.Ms.{Ms}
use Rattle.shared_rules.specs.declared.sockets.Idle.{Idle}
use Rattle.shared_rules.specs.Pool.{of_key}
use Rattle.wakes.specs.declared.deadlines.Whose.TheVariants as whose
use Rattle.wakes.specs.Times.{Deadline, DeadlinesView}
use Rattle.sock_pool.specs.declared.keys.Keys.{Keys}
use Rattle.sock_pool.specs.declared.pool.Parked.{Parked}
use Rattle.sock_pool.specs.Keys.{socks_of}

-- the sockets by their numbers, the most recent first
abbrev pub Entry : Type 0
Entry = ℕ × Parked

abbrev pub idle_of : List Entry → List Idle
idle_of entries = map (λ e. e.1.idle) entries

-- an entry has the number of its socket, and a deadline just where the socket may be idle until a moment only
pub record IsEntry (e : Entry) : Type 0 where
  pub named : e.0 ≡ e.1.idle.sock
  pub timed : is_some e.1.deadline ≡ is_some e.1.idle.until

-- what is armed for a socket
abbrev pub armed_for : ℕ → Option ℕ → Option Ms → List Deadline
armed_for sock (Some number) (Some at) = (number, record { at = at; whose = whose.Idle sock }) ∷ []
armed_for sock deadline until = []

-- what is armed for all, in the order of the keeps
abbrev pub armed_of : List Entry → List Deadline
armed_of [] = []
armed_of (e ∷ entries) = armed_of entries ++ armed_for e.0 e.1.deadline e.1.idle.until

-- a number below another, if there is one, and the one below which the earlier are
abbrev pub IsBelow : ℕ → Option ℕ → Type 0
IsBelow top None = Unit {0}
IsBelow top (Some number) = number < top

abbrev pub bound : ℕ → Option ℕ → ℕ
bound top None = top
bound top (Some number) = number

-- the numbers of the deadlines rise with the keeps
abbrev pub IsRising : ℕ → List Entry → Type 0
IsRising top [] = Unit {0}
IsRising top (e ∷ entries) = IsBelow top e.1.deadline × IsRising (bound top e.1.deadline) entries

-- each socket is there once, among those of its key, and with its deadline
pub record IsPooled (entries : List Entry) (keys : Keys) (deadlines : DeadlinesView) : Type 0 where
  pub each : AllByRecursion IsEntry entries
  pub once : IsDistinct nat_eq (keys_of entries)
  pub keyed : (key : List ℕ) → socks_of keys key ≡ map (λ i. i.sock) (of_key key (idle_of entries))
  pub armed : deadlines.armed ≡ armed_of entries
  pub rising : IsRising (deadlines.last + 1) entries
