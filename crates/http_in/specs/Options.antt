-- What else a head says: its host, whether the connection is kept, and whether the client waits for a 100 reply
-- (RFC 9112, sections 3.2 and 9.3; RFC 9110, 10.1.1).
use Rattle.std.specs.Prelude.{ℕ, Bool, true, not, ◌==◌, ◌&&◌, ◌||◌, List, [], ◌∷◌, codes}
use Rattle.std.specs.List.{list_any}
use Rattle.resty_base.specs.declared.names.Pair2.{Pair2}
use Rattle.http_base.specs.FieldLists.{values_of}
use Rattle.http_base.specs.Names.{same_name}
use Rattle.http_in.specs.Framing.{listed}
use Rattle.http_in.specs.Hosts.{is_host}

-- there are two hosts, none in 1.1, or one that isn't what a host has to be
abbrev pub are_bad_hosts : ℕ → List (List ℕ) → Bool
are_bad_hosts minor [] = minor == 1
are_bad_hosts minor (host ∷ []) = not (is_host host)
are_bad_hosts minor (host ∷ other ∷ others) = true

-- the same of a head's fields
abbrev pub has_bad_host : ℕ → List Pair2 → Bool
has_bad_host minor fields = are_bad_hosts minor (values_of fields (codes "host"))

-- this word is one of them
abbrev pub is_among : List ℕ → List (List ℕ) → Bool
is_among word list = list_any (λ text. same_name text word) list

-- the connection is kept after the reply: never with `close`, else in 1.1 or with `keep-alive`
abbrev pub keeps : ℕ → List Pair2 → Bool
keeps minor fields =
    let options = listed fields (codes "connection") in not (is_among (codes "close") options) && ((minor == 1) || is_among (codes "keep-alive") options)

-- the client waits for a 100 reply before it sends the body
abbrev pub expects : ℕ → List Pair2 → Bool
expects minor fields = (minor == 1) && is_among (codes "100-continue") (values_of fields (codes "expect"))
