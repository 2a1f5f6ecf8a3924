-- A strand that does nothing: it waits for Stop.
use Rattle.std.specs.Prelude.{Bool, true, false, ◌||◌, List, [], ◌∷◌}
use Rattle.strand_contract.specs.declared.turns.Place.TheVariants as place
use Rattle.strand_contract.specs.declared.turns.Start.TheVariants as start
use Rattle.strand_contract.specs.declared.turns.Act.{Act}
use Rattle.strand_contract.specs.declared.turns.Act.TheVariants as act
use Rattle.strand_contract.specs.Actions.{Began, Halted, LocalAction, Did}
use Rattle.strand_contract.specs.Behaviors.{Behavior}

-- the action is the beginning of a client's strand
abbrev pub begins_client : {J : Type 0} → LocalAction J → Bool
begins_client (Did (Began now (start.Client c))) = true
begins_client a = false

-- the strand is a client's
abbrev pub is_client : {J : Type 0} → List (LocalAction J) → Bool
is_client [] = false
is_client (a ∷ es) = begins_client a || is_client es

-- when Stop ends it, it hangs up and is gone
abbrev pub end_acts : {J : Type 0} → Bool → List (Act J)
end_acts true = act.HangUp place.Client ∷ act.Gone ∷ []
end_acts false = act.Gone ∷ []

-- the acts of the turns: those of the end by Stop, and no others
abbrev pub mute_acts : {J : Type 0} → List (LocalAction J) → List (Act J)
mute_acts [] = []
mute_acts (Did Halted ∷ es) = end_acts (is_client es)
mute_acts (a ∷ es) = []

-- it sends nothing
abbrev pub mute_behavior : {J : Type 0} → Behavior J
mute_behavior = record { acts = mute_acts; sent = λ q es. []; zones = 0; zone_name = λ n. []; zone_size = λ n. 0; connections = 512 }

-- the action is the end by Stop; and it has come
abbrev pub is_halt : {J : Type 0} → LocalAction J → Bool
is_halt (Did Halted) = true
is_halt a = false

abbrev pub was_halted : {J : Type 0} → List (LocalAction J) → Bool
was_halted [] = false
was_halted (a ∷ es) = is_halt a || was_halted es
