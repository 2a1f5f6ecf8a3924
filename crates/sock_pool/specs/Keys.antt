-- The idle sockets of each key, the most recent first.
use Rattle.std.specs.Prelude.{◌≡◌, ℕ, ◌-◌, nat_eq, nat_lt, List, [], ◌∷◌, length, slice_get, Option, Some, None, if◌then◌else◌}
use Rattle.std.specs.Map.{keys_of, lookup}
use Rattle.shared_rules.specs.Keys.{same_key}
use Rattle.sock_pool.specs.declared.keys.Keys.{Keys}

-- the numbers that were put
abbrev pub numbers_in : {V : Type 0} → Option (List (ℕ × V)) → List ℕ
numbers_in None = []
numbers_in (Some entries) = keys_of entries

-- the sockets of a key
abbrev pub socks_of : Keys → List ℕ → List ℕ
socks_of keys key = numbers_in (lookup (same_key key) keys.by_key.entries)

-- each key has the same sockets
abbrev pub SameSocks : Keys → Keys → Type 0
SameSocks old new = (k : List ℕ) → socks_of new k ≡ socks_of old k

-- the sockets without one
abbrev pub without : ℕ → List ℕ → List ℕ
without sock [] = []
without sock (s ∷ socks) = if nat_eq sock s then socks else s ∷ without sock socks

-- the sockets of any key, where a socket of this one goes first
abbrev pub first_put : List ℕ → ℕ → List ℕ → List ℕ → List ℕ
first_put key sock k socks = if same_key key k then sock ∷ without sock socks else socks

-- and where a socket of this one leaves
abbrev pub left_out : List ℕ → ℕ → List ℕ → List ℕ → List ℕ
left_out key sock k socks = if same_key key k then without sock socks else socks

-- the last of the sockets, where there are more than so many
abbrev pub last_beyond : ℕ → List ℕ → Option ℕ
last_beyond most socks = if nat_lt most (length socks) then slice_get socks (length socks - 1) else None
