-- The connections and sockets that are open, that were hung up, and that ended, read off a history.
use Rattle.std.specs.Prelude.{Bool, true, false, not, ◌&&◌, List, [], ◌∷◌, Some, if◌then◌else◌}
use Rattle.resty_base.specs.declared.names.Id.{Id}
use Rattle.resty_base.specs.declared.names.Id.TheVariants as id
use Rattle.resty_world.specs.declared.event.Event.TheVariants as event
use Rattle.resty_world.specs.declared.entry.Entry.{Entry}
use Rattle.resty_world.specs.declared.entry.Entry.TheVariants as entry
use Rattle.resty_world.specs.Given.{ends}
use Rattle.resty_world.specs.Ids.{same_id}

-- the list has an element that is the same
abbrev pub has : {A : Type 0} → (A → A → Bool) → A → List A → Bool
has same x [] = false
has same x (y ∷ ys) = if same x y then true else has same x ys

-- the list without all that are the same
abbrev pub without : {A : Type 0} → (A → A → Bool) → A → List A → List A
without same x [] = []
without same x (y ∷ ys) = if same y x then without same x ys else y ∷ without same x ys

-- no two elements of the list are the same
abbrev pub are_distinct : {A : Type 0} → (A → A → Bool) → List A → Bool
are_distinct same [] = true
are_distinct same (y ∷ ys) = not (has same y ys) && are_distinct same ys

-- the open ids after an entry
abbrev pub ids_after : Entry → List Id → List Id
ids_after (entry.Given (event.Arrive k)) ids = id.Conn k ∷ ids
ids_after (entry.Dial who host port (Some n)) ids = id.Sock n ∷ ids
ids_after (entry.Close i) ids = without same_id i ids
ids_after e ids = ids

abbrev pub open_ids : List Entry → List Id
open_ids [] = []
open_ids (e ∷ history) = ids_after e (open_ids history)

-- the entry is the hanging up of the id
abbrev pub closes : Entry → Id → Bool
closes (entry.Close i) x = same_id x i
closes e x = false

-- the id was hung up
abbrev pub hung_up : List Entry → Id → Bool
hung_up [] x = false
hung_up (e ∷ history) x = if closes e x then true else hung_up history x

-- no bytes of the id come after the entry
abbrev pub ends_by : Entry → Id → Bool
ends_by (entry.Given e) x = ends e x
ends_by e x = false

-- the id ended or broke
abbrev pub has_ended : List Entry → Id → Bool
has_ended [] x = false
has_ended (e ∷ history) x = if ends_by e x then true else has_ended history x
