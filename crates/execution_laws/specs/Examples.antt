-- Small behaviors, two of which no strand may have.
use Rattle.std.specs.Prelude.{ℕ, Bool, true, false, List, [], ◌∷◌}
use Rattle.strand_contract.specs.declared.turns.Place.{Place}
use Rattle.strand_contract.specs.declared.turns.Start.TheVariants as start
use Rattle.strand_contract.specs.declared.turns.Act.{Act}
use Rattle.strand_contract.specs.declared.turns.Act.TheVariants as act
use Rattle.strand_contract.specs.Actions.{Action, Began, Bytes, Run, Offer, Due, Halted, LocalAction, Did}
use Rattle.strand_contract.specs.Behaviors.{Behavior}

-- a strand that arms a deadline for the moment at which it begins, and does nothing more
abbrev pub waker_acts : {J : Type 0} → List (LocalAction J) → List (Act J)
waker_acts (Did (Began now start) ∷ es) = act.Arm 0 (record { 0 = now }) ∷ []
waker_acts es = []

abbrev pub waker : {J : Type 0} → Behavior J
waker = record { acts = waker_acts; sent = λ q es. []; zones = 0; zone_name = λ n. []; zone_size = λ n. 0; connections = 1 }

-- it has begun as the client of a connection
abbrev pub begun : {J : Type 0} → ℕ → ℕ → List (LocalAction J)
begun now c = Did (Began now (start.Client c)) ∷ []

-- a strand that sends what came last in the place of all that it sent before
abbrev pub echo : {J : Type 0} → Place → List (LocalAction J) → List ℕ
echo q [] = []
echo q (Did (Bytes p bytes) ∷ es) = bytes
echo q (a ∷ es) = echo q es

abbrev pub sends_anew : {J : Type 0} → Behavior J
sends_anew = record { acts = λ es. []; sent = echo; zones = 0; zone_name = λ n. []; zone_size = λ n. 0; connections = 1 }

-- a strand that arms its deadline anew when it is due, and so never comes to rest at a moment
abbrev pub restless_acts : {J : Type 0} → List (LocalAction J) → List (Act J)
restless_acts (Did (Began now start) ∷ es) = act.Arm 0 (record { 0 = now }) ∷ []
restless_acts (Did (Due n) ∷ es) = act.Arm 0 (record { 0 = 0 }) ∷ []
restless_acts es = []

abbrev pub arms_at_a_moment : {J : Type 0} → Behavior J
arms_at_a_moment = record { acts = restless_acts; sent = λ q es. []; zones = 0; zone_name = λ n. []; zone_size = λ n. 0; connections = 1 }

-- the strand began as a job that Stop came before
abbrev pub began_premature : {J : Type 0} → List (LocalAction J) → Bool
began_premature [] = false
began_premature (Did (Began now (start.Job j premature job)) ∷ es) = premature
began_premature (a ∷ es) = began_premature es

-- the action begins a turn, of a thread, a place, a deadline or the end by Stop
abbrev pub begins_turn : {J : Type 0} → Action J → Bool
begins_turn (Run k) = true
begins_turn (Offer q) = true
begins_turn (Due n) = true
begins_turn Halted = true
begins_turn x = false
