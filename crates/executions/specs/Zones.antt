-- The dictionaries: what each holds.
use Rattle.std.specs.Prelude.{ℕ, ◌==◌, List, [], ◌∷◌, if◌then◌else◌}
use Rattle.shared_rules.specs.declared.items.Item.{Item}
use Rattle.shared_rules.specs.Dictionary.{dict}
use Rattle.strand_contract.specs.Actions.{Action, Dict}
use Rattle.strand_contract.specs.Behaviors.{Behavior}
use Rattle.executions.specs.Executions.{GlobalAction, Of, present}

-- a call changes the items of its dictionary by the plain rules
abbrev pub zone_at : {J : Type 0} → Behavior J → ℕ → Action J → ℕ → List Item → List Item
zone_at b z (Dict y call answer) now items = if z == y then (dict (b.zone_size z) call now items).1 else items
zone_at b z x now items = items

-- the same of any action
abbrev pub zone_by : {J : Type 0} → Behavior J → ℕ → GlobalAction J → List (GlobalAction J) → List Item → List Item
zone_by b z (Of s x n) ms items = zone_at b z x (present ms) items
zone_by b z m ms items = items

-- the items of the dictionary of a number, the most recent first
abbrev pub zone : {J : Type 0} → Behavior J → ℕ → List (GlobalAction J) → List Item
zone b z [] = []
zone b z (m ∷ ms) = zone_by b z m ms (zone b z ms)
