-- What a strand does, as a function of what happened to it.
use Rattle.std.specs.Prelude.{ℕ, nat_lt, List, Option, Some, None, if◌then◌else◌}
use Rattle.strand_contract.specs.declared.turns.Place.{Place}
use Rattle.strand_contract.specs.declared.turns.Act.{Act}
use Rattle.strand_contract.specs.Actions.{LocalAction}

-- the behavior of the strands of one site
pub record Behavior (J : Type 0) : Type 0 where
  -- the acts of the turn that the newest action begins
  pub acts : List (LocalAction J) → List (Act J)
  -- all bytes that were sent so far to a place, taken or not
  pub sent : Place → List (LocalAction J) → List ℕ
  -- the site's dictionaries, by number: how many there are, and the name and the size in bytes of each
  pub zones : ℕ
  pub zone_name : ℕ → List ℕ
  pub zone_size : ℕ → ℕ
  -- how many connections may be open at a time
  pub connections : ℕ

-- the name of the dictionary of that number, where there is one
abbrev pub name_at : {J : Type 0} → Behavior J → ℕ → Option (List ℕ)
name_at b n = if nat_lt n b.zones then Some (b.zone_name n) else None

-- what the calls of a site's strands mean: what these do, and to which of their own executions each may have come
pub record Meaning (S J : Type 0) : Type 1 where
  pub behavior : Behavior J
  pub stands : S → List (LocalAction J) → Type 0
