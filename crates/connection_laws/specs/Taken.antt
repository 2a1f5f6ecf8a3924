-- A client is hung up only once it took all that was sent to it.
use Rattle.std.specs.Prelude.{◌≡◌, zero, suc, Bool, true, false, List, [], ◌∷◌, drop}
use Rattle.strand_contract.specs.declared.turns.Place.TheVariants as place
use Rattle.strand_contract.specs.declared.turns.Act.{Act}
use Rattle.strand_contract.specs.declared.turns.Act.TheVariants as act
use Rattle.strand_contract.specs.Actions.{LocalAction, Did, Broken, Lost, Due, Halted}
use Rattle.strand_contract.specs.Behaviors.{Behavior}
use Rattle.strand_contract.specs.Alone.{taken}

-- what may hang up a client that didn't take all: one of its connection's timers runs out, it breaks, a write to it breaks, or Stop
abbrev pub cuts_off : {J : Type 0} → LocalAction J → Bool
cuts_off (Did (Due zero)) = true
cuts_off (Did (Due (suc zero))) = true
cuts_off (Did (Broken place.Client)) = true
cuts_off (Did (Lost place.Client)) = true
cuts_off (Did Halted) = true
cuts_off a = false

-- the acts hang up the client
abbrev pub hangs_up_client : {J : Type 0} → List (Act J) → Bool
hangs_up_client [] = false
hangs_up_client (act.HangUp place.Client ∷ acts) = true
hangs_up_client (a ∷ acts) = hangs_up_client acts

-- where the newest turn hangs it up, and nothing cut it off, nothing of what was sent to it is left
abbrev pub TookAllBefore : {J : Type 0} → Behavior J → List (LocalAction J) → Type 0
TookAllBefore b [] = Unit {0}
TookAllBefore b (a ∷ es) = cuts_off a ≡ false → hangs_up_client (b.acts (a ∷ es)) ≡ true
    → drop (taken place.Client (a ∷ es)) (b.sent place.Client (a ∷ es)) ≡ []
