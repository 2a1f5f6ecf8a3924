-- Small strands, on which the spoiled rules are tried.
use Rattle.std.specs.Prelude.{List, [], ◌∷◌}
use Rattle.strand_contract.specs.declared.turns.Start.TheVariants as start
use Rattle.strand_contract.specs.declared.turns.Act.{Act}
use Rattle.strand_contract.specs.declared.turns.Act.TheVariants as act
use Rattle.strand_contract.specs.Actions.{Began, Run, Due, LocalAction, Did}
use Rattle.strand_contract.specs.Behaviors.{Behavior}

abbrev pub acts_as : {J : Type 0} → (List (LocalAction J) → List (Act J)) → Behavior J
acts_as acts = record { acts = acts; sent = λ q es. []; zones = 0; zone_name = λ n. []; zone_size = λ n. 0; connections = 2 }

-- a strand that sleeps up to the moment 1, and then runs and logs an empty line
abbrev pub sleeper_acts : {J : Type 0} → List (LocalAction J) → List (Act J)
sleeper_acts (Did (Began now how) ∷ es) = act.Arm 0 (record { 0 = 1 }) ∷ []
sleeper_acts (Did (Due n) ∷ es) = act.Ready 0 ∷ []
sleeper_acts (Did (Run k) ∷ es) = act.Log [] ∷ []
sleeper_acts es = []

abbrev pub sleeper : {J : Type 0} → Behavior J
sleeper = acts_as sleeper_acts

-- a client that sleeps up to the moment 1, when it logs an empty line, and asks for a job at that moment, which is over as it starts
abbrev pub asker_acts : {J : Type 0} → J → List (LocalAction J) → List (Act J)
asker_acts job (Did (Began now (start.Client c)) ∷ es) = act.Arm 0 (record { 0 = 1 }) ∷ act.Timer (record { 0 = 1 }) job ∷ []
asker_acts job (Did (Began now (start.Job j premature what)) ∷ es) = act.Gone ∷ []
asker_acts job (Did (Due n) ∷ es) = act.Log [] ∷ []
asker_acts job es = []

abbrev pub asker : {J : Type 0} → J → Behavior J
asker job = acts_as (asker_acts job)
