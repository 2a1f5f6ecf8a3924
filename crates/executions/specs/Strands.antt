-- The strands in the order of their beginning, and which of them is the next to do something.
use Rattle.std.specs.Prelude.{◌≡◌, Bool, true, false, ◌||◌, ◌&&◌, List, [], ◌∷◌, ◌++◌, Option, Some, None, is_some, if◌then◌else◌}
use Rattle.resty_base.specs.declared.names.StrandId.{StrandId}
use Rattle.resty_world.specs.Ids.{same_strand}
use Rattle.strand_contract.specs.Actions.{LocalAction}
use Rattle.strand_contract.specs.Alone.{lives, todo, offering, open_places, is_stopping, is_winding_up}
use Rattle.strand_contract.specs.Behaviors.{Behavior}
use Rattle.executions.specs.Executions.{GlobalAction, Of, projection}

-- the strand is one of these
abbrev pub is_in : StrandId → List StrandId → Bool
is_in s [] = false
is_in s (t ∷ ts) = same_strand s t || is_in s ts

-- a strand is named once, as it begins
abbrev pub strands_by : {J : Type 0} → GlobalAction J → List StrandId → List StrandId
strands_by (Of s x n) ss = if is_in s ss then ss else ss ++ s ∷ []
strands_by m ss = ss

-- the strands to which something happened, in the order of their beginning
abbrev pub strands : {J : Type 0} → List (GlobalAction J) → List StrandId
strands [] = []
strands (m ∷ ms) = strands_by m (strands ms)

-- of these strands, the first whose own execution is so
abbrev pub first_in : {J : Type 0} → (List (LocalAction J) → Bool) → List StrandId → List (GlobalAction J) → Option StrandId
first_in is_so [] ms = None
first_in is_so (s ∷ ss) ms = if is_so (projection s ms) then Some s else first_in is_so ss ms

-- the first strand whose own execution is so
abbrev pub first_that : {J : Type 0} → (List (LocalAction J) → Bool) → List (GlobalAction J) → Option StrandId
first_that is_so ms = first_in is_so (strands ms) ms

-- the list isn't empty
abbrev pub has_some : {A : Type 0} → List A → Bool
has_some [] = false
has_some (x ∷ xs) = true

-- a turn of the strand is under way: while it lives it has acts to carry out or an offer that goes on, and then something is still open
abbrev pub is_under_way : {J : Type 0} → Behavior J → List (LocalAction J) → Bool
is_under_way b es = if lives es then has_some (todo b es) || is_some (offering b es) else has_some (open_places es)

-- the strand whose turn is under way
abbrev pub under_way : {J : Type 0} → Behavior J → List (GlobalAction J) → Option StrandId
under_way b ms = first_that (is_under_way b) ms

-- no turn is under way
abbrev pub NoneUnderWay : {J : Type 0} → Behavior J → List (GlobalAction J) → Type 0
NoneUnderWay b ms = under_way b ms ≡ None

-- whom Stop ends next
abbrev pub next_to_stop : {J : Type 0} → List (GlobalAction J) → Option StrandId
next_to_stop ms = first_that (λ es. lives es && is_stopping es) ms

-- which job that began after Stop is ended next
abbrev pub next_to_wind_up : {J : Type 0} → List (GlobalAction J) → Option StrandId
next_to_wind_up ms = first_that (λ es. lives es && is_winding_up es) ms
