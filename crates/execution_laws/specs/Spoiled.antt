-- Three rules of order, each spoiled in one thing, and what then isn't decided.
use Rattle.std.specs.Prelude.{◌≡◌, ◌≤◌, ℕ, true, List, [], ◌∷◌, ◌++◌}
use Rattle.strand_contract.specs.declared.turns.Start.TheVariants as start
use Rattle.strand_contract.specs.Actions.{Began, Run, Dropped}
use Rattle.strand_contract.specs.Behaviors.{Behavior}
use Rattle.strand_contract.specs.Laws.{IsQuiet}
use Rattle.executions.specs.Executions.{GlobalAction, Of, present}
use Rattle.executions.specs.Histories.{external}
use Rattle.executions.specs.Phases.{Waking, phase}
use Rattle.executions.specs.Queues.{run_queue, offer_queue}
use Rattle.executions.specs.Agenda.{OfJob, agenda}
use Rattle.executions.specs.Strands.{NoneUnderWay}
use Rattle.executions.specs.Ordered.{HasSettled, offers_last, was_touched, MayTurn}
use Rattle.execution_laws.specs.Inputs.{inputs}
use Rattle.execution_laws.specs.Allowed.{IsAllowedBy}

-- it stands in the list
abbrev pub StandsIn : {A : Type 0} → A → List A → Type 0
StandsIn {A} x l = (front rest : List A) × (l ≡ front ++ x ∷ rest)

-- a thread runs wherever it stands in line
abbrev pub RunsInAnyOrder : {J : Type 0} → Behavior J → GlobalAction J → List (GlobalAction J) → Type 0
RunsInAnyOrder b (Of s (Run k) n) ms = NoneUnderWay b ms × HasSettled b ms × (offers_last ms ≡ true → offer_queue b ms ≡ []) × StandsIn (s, k) (run_queue b ms)
RunsInAnyOrder b m ms = MayTurn b m ms

-- a job that is due starts before or after what else is due at the moment
abbrev pub StartsInAnyOrder : {J : Type 0} → Behavior J → GlobalAction J → List (GlobalAction J) → Type 0
StartsInAnyOrder b (Of s (Began now (start.Job j premature job)) n) ms =
    NoneUnderWay b ms × (phase ms ≡ Waking) × ((at : ℕ) × (at ≤ present ms) × StandsIn (OfJob j, at) (agenda b ms))
StartsInAnyOrder b m ms = MayTurn b m ms

-- a strand is dropped later than at its own turns: also while another's turn is under way
abbrev pub DropsLater : {J : Type 0} → Behavior J → GlobalAction J → List (GlobalAction J) → Type 0
DropsLater b (Of s Dropped n) ms = was_touched s ms ≡ true
DropsLater b m ms = MayTurn b m ms

-- of a quiet behavior two executions that are allowed have the same inputs, and drops alike, but leave different histories
pub record HasTwoHistories {J : Type 0} (b : Behavior J) (May : GlobalAction J → List (GlobalAction J) → Type 0)
    (Alike : List (GlobalAction J) → List (GlobalAction J) → Type 0) : Type 0 where
  pub quiet : IsQuiet b
  pub first : List (GlobalAction J)
  pub second : List (GlobalAction J)
  pub first_allowed : IsAllowedBy b May first
  pub second_allowed : IsAllowedBy b May second
  pub inputs_same : inputs (external b first) ≡ inputs (external b second)
  pub drops_same : Alike first second
  pub differ : external b first ≡ external b second → ⊥
