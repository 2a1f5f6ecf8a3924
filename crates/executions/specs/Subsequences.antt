-- What was put in line in an execution, and what had its turn, the oldest first.
use Rattle.std.specs.Prelude.{ℕ, List, [], ◌∷◌, ◌++◌}
use Rattle.resty_base.specs.declared.names.StrandId.{StrandId}
use Rattle.strand_contract.specs.declared.turns.Place.{Place}
use Rattle.strand_contract.specs.declared.turns.Act.{Act}
use Rattle.strand_contract.specs.declared.turns.Act.TheVariants as act
use Rattle.strand_contract.specs.Actions.{Action, Run, Offer, Did}
use Rattle.strand_contract.specs.Behaviors.{Behavior}
use Rattle.strand_contract.specs.Alone.{offers}
use Rattle.executions.specs.Executions.{GlobalAction, Of, projection}

-- xs is ys with some left out, in the same order
pub data IsSubsequence {A : Type 0} : List A → List A → Type 0 where
  none : IsSubsequence [] []
  keep : {x : A} {xs ys : List A} → IsSubsequence xs ys → IsSubsequence (x ∷ xs) (x ∷ ys)
  skip : {y : A} {xs ys : List A} → IsSubsequence xs ys → IsSubsequence xs (y ∷ ys)

-- each with its strand
abbrev pub with_strand : {A : Type 0} → StrandId → List A → List (StrandId × A)
with_strand s [] = []
with_strand s (x ∷ xs) = (s, x) ∷ with_strand s xs

-- the threads that acts put in line
abbrev pub readied : {J : Type 0} → List (Act J) → List ℕ
readied [] = []
readied (act.Ready k ∷ acts) = k ∷ readied acts
readied (a ∷ acts) = readied acts

abbrev pub readied_by : {J : Type 0} → Behavior J → GlobalAction J → List (GlobalAction J) → List (StrandId × ℕ)
readied_by b (Of s x n) ms = with_strand s (readied (b.acts (Did x ∷ projection s ms)))
readied_by b m ms = []

-- all threads that were put in line
abbrev pub all_readied : {J : Type 0} → Behavior J → List (GlobalAction J) → List (StrandId × ℕ)
all_readied b [] = []
all_readied b (m ∷ ms) = all_readied b ms ++ readied_by b m ms

abbrev pub run_of : {J : Type 0} → Action J → List ℕ
run_of (Run k) = k ∷ []
run_of x = []

abbrev pub run_by : {J : Type 0} → GlobalAction J → List (StrandId × ℕ)
run_by (Of s x n) = with_strand s (run_of x)
run_by m = []

-- all threads that ran
abbrev pub all_run : {J : Type 0} → List (GlobalAction J) → List (StrandId × ℕ)
all_run [] = []
all_run (m ∷ ms) = all_run ms ++ run_by m

abbrev pub placed_by : {J : Type 0} → Behavior J → GlobalAction J → List (GlobalAction J) → List (StrandId × Place)
placed_by b (Of s x n) ms = with_strand s (offers (b.acts (Did x ∷ projection s ms)))
placed_by b m ms = []

-- all places that were put in line
abbrev pub all_placed : {J : Type 0} → Behavior J → List (GlobalAction J) → List (StrandId × Place)
all_placed b [] = []
all_placed b (m ∷ ms) = all_placed b ms ++ placed_by b m ms

abbrev pub offer_of : {J : Type 0} → Action J → List Place
offer_of (Offer q) = q ∷ []
offer_of x = []

abbrev pub offered_by : {J : Type 0} → GlobalAction J → List (StrandId × Place)
offered_by (Of s x n) = with_strand s (offer_of x)
offered_by m = []

-- all places whose offer began
abbrev pub all_offered : {J : Type 0} → List (GlobalAction J) → List (StrandId × Place)
all_offered [] = []
all_offered (m ∷ ms) = all_offered ms ++ offered_by m
