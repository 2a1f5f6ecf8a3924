-- The plain pool of idle sockets, the most recent first (lua-nginx-module, tcpsock:setkeepalive and tcpsock:connect).
use Rattle.std.specs.Prelude.{ℕ, ◌+◌, ◌-◌, ◌==◌, min, max, nat_le, Bool, true, false, List, [], ◌∷◌, length, filter, slice_get, Option, Some, None, option_map}
use Rattle.std.specs.Prelude.{nat_eq, map, if◌then◌else◌}
use Rattle.std.specs.List.{IsDistinct}
use Rattle.resty_base.specs.declared.names.Ms.{Ms}
use Rattle.shared_rules.specs.declared.sockets.Idle.{Idle}
use Rattle.shared_rules.specs.Keys.{same_key}

-- the idle sockets of a key
abbrev pub of_key : List ℕ → List Idle → List Idle
of_key key pool = filter (λ i. same_key key i.key) pool

abbrev pub count_of : List ℕ → List Idle → ℕ
count_of key pool = length (of_key key pool)

-- the most recent one of a key, and the least recent
abbrev pub first_of : List ℕ → List Idle → Option Idle
first_of key pool = slice_get (of_key key pool) 0

abbrev pub last_of : List ℕ → List Idle → Option ℕ
last_of key pool = option_map (λ i. i.sock) (slice_get (of_key key pool) (count_of key pool - 1))

-- each socket is idle once
abbrev pub IsOnce : List Idle → Type 0
IsOnce pool = IsDistinct nat_eq (map (λ i. i.sock) pool)

-- a socket is idle, and the pool without it
abbrev pub is_idle : ℕ → List Idle → Bool
is_idle n [] = false
is_idle n (i ∷ pool) = if n == i.sock then true else is_idle n pool

abbrev pub without_socket : ℕ → List Idle → List Idle
without_socket n [] = []
without_socket n (i ∷ pool) = if n == i.sock then pool else i ∷ without_socket n pool

-- the pool without a socket, if one is named
abbrev pub without_any : Option ℕ → List Idle → List Idle
without_any None pool = pool
without_any (Some n) pool = without_socket n pool

-- what a take gives of an idle socket: its number, and how often it was taken, with this time
abbrev pub given : Idle → ℕ × ℕ
given i = (i.sock, min (i.uses + 1) 4_294_967_295)

-- a take gives the most recent one of the key
abbrev pub take_answer : List ℕ → List Idle → Option (ℕ × ℕ)
take_answer key pool = option_map given (first_of key pool)

abbrev pub taken_from : List ℕ → List Idle → List Idle
taken_from key pool = without_any (option_map (λ i. i.sock) (first_of key pool)) pool

-- the socket that is closed for one more of its key: the last, where so many have it; a size of 0 counts as 1
abbrev pub crowded_out : List ℕ → ℕ → List Idle → Option ℕ
crowded_out key size pool = if nat_le (max 1 size) (count_of key pool) then last_of key pool else None

-- A keep puts the socket first, and closes the one that it crowds out. A socket that is idle already is put anew.
abbrev pub kept_in : Idle → ℕ → List Idle → List Idle
kept_in i size pool =
    let others = without_socket i.sock pool in
    i ∷ without_any (crowded_out i.key size others) others

-- until when a socket may be idle that is kept now for so long, where 0 is for ever
abbrev pub idle_until : ℕ → ℕ → Option Ms
idle_until now idle = if idle == 0 then None else Some (record { 0 = now + idle })

-- the moment is at or after that until which it may be idle
abbrev pub is_over : ℕ → Option Ms → Bool
is_over now None = false
is_over now (Some until) = nat_le until.0 now

-- the second may be idle until the same moment at most; one without a moment is idle for ever
abbrev pub ends_by : Option Ms → Option Ms → Bool
ends_by None second = true
ends_by (Some first) None = false
ends_by (Some first) (Some second) = nat_le second.0 first.0

-- of two the one that is to be closed first: the second, which was kept before, where it ends by the moment of the first
abbrev pub sooner : Idle → Option Idle → Option Idle
sooner i None = Some i
sooner i (Some j) = if ends_by i.until j.until then Some j else Some i

-- the socket whose time is over at the moment: that with the least `until`, among equals the one that was kept first
abbrev pub over_first : ℕ → List Idle → Option Idle
over_first now [] = None
over_first now (i ∷ pool) = if is_over now i.until then sooner i (over_first now pool) else over_first now pool

-- the least recent of all
abbrev pub last_idle : List Idle → Option ℕ
last_idle pool = option_map (λ i. i.sock) (slice_get pool (length pool - 1))
