-- What is in line: threads to be run, and places to be offered, each with its strand, the first in front.
use Rattle.std.specs.Prelude.{ℕ, ◌==◌, ◌&&◌, List, [], ◌∷◌, ◌++◌, if◌then◌else◌}
use Rattle.resty_base.specs.declared.names.StrandId.{StrandId}
use Rattle.resty_world.specs.Ids.{same_strand}
use Rattle.strand_contract.specs.declared.turns.Place.{Place}
use Rattle.strand_contract.specs.declared.turns.Act.{Act}
use Rattle.strand_contract.specs.declared.turns.Act.TheVariants as act
use Rattle.strand_contract.specs.Actions.{Action, Run, Offer, Dropped, Gone, Did}
use Rattle.strand_contract.specs.Behaviors.{Behavior}
use Rattle.executions.specs.Executions.{GlobalAction, Of, projection}

-- of a line, what one strand has in it
abbrev pub only : {A : Type 0} → StrandId → List (StrandId × A) → List A
only s [] = []
only s (e ∷ l) = if same_strand s e.0 then e.1 ∷ only s l else only s l

-- a line without what a strand has in it
abbrev pub without_all : {A : Type 0} → StrandId → List (StrandId × A) → List (StrandId × A)
without_all s [] = []
without_all s (e ∷ l) = if same_strand s e.0 then without_all s l else e ∷ without_all s l

-- a line without the first that is a strand's
abbrev pub without_first : {A : Type 0} → StrandId → List (StrandId × A) → List (StrandId × A)
without_first s [] = []
without_first s (e ∷ l) = if same_strand s e.0 then l else e ∷ without_first s l

-- a line without the first that is this thread of a strand
abbrev pub without_thread : StrandId → ℕ → List (StrandId × ℕ) → List (StrandId × ℕ)
without_thread s k [] = []
without_thread s k (e ∷ l) = if same_strand s e.0 && (k == e.1) then l else e ∷ without_thread s k l

-- acts put threads at the end, and take out those that ended in line
abbrev pub lined : {J : Type 0} → StrandId → List (Act J) → List (StrandId × ℕ) → List (StrandId × ℕ)
lined s [] l = l
lined s (act.Ready k ∷ acts) l = lined s acts (l ++ (s, k) ∷ [])
lined s (act.Unready k ∷ acts) l = lined s acts (without_thread s k l)
lined s (a ∷ acts) l = lined s acts l

-- a run takes the first of its strand's threads, and a strand that is over has none in line
abbrev pub after_run : {J : Type 0} → StrandId → Action J → List (StrandId × ℕ) → List (StrandId × ℕ)
after_run s (Run k) l = without_first s l
after_run s Gone l = without_all s l
after_run s Dropped l = without_all s l
after_run s x l = l

-- an action, and then the acts of the turn that it begins
abbrev pub run_queue_by : {J : Type 0} → Behavior J → GlobalAction J → List (GlobalAction J) → List (StrandId × ℕ) → List (StrandId × ℕ)
run_queue_by b (Of s x n) ms l = lined s (b.acts (Did x ∷ projection s ms)) (after_run s x l)
run_queue_by b m ms l = l

-- the threads in line
abbrev pub run_queue : {J : Type 0} → Behavior J → List (GlobalAction J) → List (StrandId × ℕ)
run_queue b [] = []
run_queue b (m ∷ ms) = run_queue_by b m ms (run_queue b ms)

-- acts put places at the end
abbrev pub placed : {J : Type 0} → StrandId → List (Act J) → List (StrandId × Place) → List (StrandId × Place)
placed s [] l = l
placed s (act.Offer q ∷ acts) l = placed s acts (l ++ (s, q) ∷ [])
placed s (a ∷ acts) l = placed s acts l

-- an offer takes the first of its strand's places, and a strand that is over has none in line
abbrev pub after_offer : {J : Type 0} → StrandId → Action J → List (StrandId × Place) → List (StrandId × Place)
after_offer s (Offer q) l = without_first s l
after_offer s Gone l = without_all s l
after_offer s Dropped l = without_all s l
after_offer s x l = l

-- an action, and then the acts of the turn that it begins
abbrev pub offer_queue_by : {J : Type 0} → Behavior J → GlobalAction J → List (GlobalAction J) → List (StrandId × Place) → List (StrandId × Place)
offer_queue_by b (Of s x n) ms l = placed s (b.acts (Did x ∷ projection s ms)) (after_offer s x l)
offer_queue_by b m ms l = l

-- the places in line
abbrev pub offer_queue : {J : Type 0} → Behavior J → List (GlobalAction J) → List (StrandId × Place)
offer_queue b [] = []
offer_queue b (m ∷ ms) = offer_queue_by b m ms (offer_queue b ms)
