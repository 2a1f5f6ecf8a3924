-- How the sockets of strands are kept: by rising numbers, to which each strand's places lead, and by their own numbers.
use Rattle.std.specs.Prelude.{◌≡◌, ℕ, nat_eq, ◌<◌, List, [], ◌∷◌, Option, None, if◌then◌else◌}
use Rattle.std.specs.Map.{lookup}
use Rattle.resty_base.specs.declared.names.StrandId.{StrandId}
use Rattle.resty_world.specs.Ids.{same_strand}
use Rattle.executions.specs.Sockets.{Socket, holder_in}
use Rattle.engine_tables.specs.declared.sockets.Socket.{Socket as Own}
use Rattle.engine_tables.specs.Sockets.{meant}

-- the sockets that strands hold, as they were got, and the strand for whose next one room is set aside
pub record HeldSockets : Type 0 where
  pub sockets : List (StrandId × Socket)
  pub room : Option StrandId

-- a number with the socket that was got by it, and whose it is
abbrev pub Entry : Type 0
Entry = ℕ × (StrandId × Own)

-- the sockets of these entries
abbrev pub sockets_in : List Entry → List (StrandId × Socket)
sockets_in [] = []
sockets_in (e ∷ es) = (e.1.0, meant e.1.1) ∷ sockets_in es

-- a strand's places, with the number of each
abbrev pub places_in : StrandId → List Entry → List (ℕ × ℕ)
places_in s [] = []
places_in s (e ∷ es) = if same_strand s e.1.0 then (e.1.1.at, e.0) ∷ places_in s es else places_in s es

-- each part has room for one more
pub record HasRoom (entries places owners : ℕ) : Type 0 where
  pub entry : 0 < entries
  pub place : 0 < places
  pub owner : 0 < owners

-- an entry's number, its place and its socket are no other's of these
pub record IsApart (e : Entry) (es : List Entry) : Type 0 where
  pub number : lookup (nat_eq e.0) es ≡ None
  pub place : lookup (nat_eq e.1.1.at) (places_in e.1.0 es) ≡ None
  pub sock : holder_in e.1.1.sock (sockets_in es) ≡ None

abbrev pub AreApart : List Entry → Type 0
AreApart [] = Unit {0}
AreApart (e ∷ es) = IsApart e es × AreApart es

pub record IsHeld (entries : List Entry) (places : StrandId → List (ℕ × ℕ)) (owners : ℕ → Option (StrandId × ℕ)) : Type 0 where
  pub apart : AreApart entries
  pub placed : (s : StrandId) → places s ≡ places_in s entries
  pub owned : (n : ℕ) → owners n ≡ holder_in n (sockets_in entries)
