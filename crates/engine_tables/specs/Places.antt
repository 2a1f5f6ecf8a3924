-- The places of strands with their numbers, in the order in which they were put.
use Rattle.std.specs.Prelude.{ℕ, List, [], Option, Some, None}
use Rattle.std.specs.Map.{lookup}
use Rattle.indexmap.specs.IndexMap.{IndexMap, spare}
use Rattle.resty_base.specs.contracts.names.StrandIdPartialEq.TheImpl as derived
use Rattle.resty_base.specs.declared.names.StrandId.{StrandId}
use Rattle.engine_tables.specs.declared.places.Places.{Places}

-- a strand's places, with the number of each
abbrev pub entries_in : {H : Type 0} → Option (IndexMap ℕ ℕ H) → List (ℕ × ℕ)
entries_in None = []
entries_in (Some own) = own.entries

abbrev pub places_of : Places → StrandId → List (ℕ × ℕ)
places_of places s = entries_in (lookup (derived.ghosts.eq s) places.by_strand.entries)

-- for how many more of a strand there is room
abbrev pub room_in : {H : Type 0} → Option (IndexMap ℕ ℕ H) → ℕ
room_in None = 0
room_in (Some own) = spare own

abbrev pub room_for : Places → StrandId → ℕ
room_for places s = room_in (lookup (derived.ghosts.eq s) places.by_strand.entries)
