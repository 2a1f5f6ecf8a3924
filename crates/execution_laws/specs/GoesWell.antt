-- A world that takes all and fails nothing.
use Rattle.std.specs.Prelude.{◌≡◌, true, List}
use Rattle.strand_contract.specs.Actions.{Put, Later, Lost, Log, Dial, Dropped}
use Rattle.strand_contract.specs.Behaviors.{Behavior}
use Rattle.strand_contract.specs.Alone.{piece}
use Rattle.executions.specs.Executions.{GlobalAction, Of, projection, Throughout}

-- a write takes the whole piece that it is offered, a log line is written, a dial begins, and no strand is dropped
abbrev pub IsWell : {J : Type 0} → Behavior J → GlobalAction J → List (GlobalAction J) → Type 0
IsWell b (Of s (Put q bytes) n) ms = bytes ≡ piece b q (projection s ms)
IsWell b (Of s (Later q) n) ms = ⊥
IsWell b (Of s (Lost q) n) ms = ⊥
IsWell b (Of s (Log line done) n) ms = done ≡ true
IsWell b (Of s (Dial host port done) n) ms = done ≡ true
IsWell b (Of s Dropped n) ms = ⊥
IsWell b m ms = Unit {0}

-- all is taken and nothing fails
abbrev pub GoesWell : {J : Type 0} → Behavior J → List (GlobalAction J) → Type 0
GoesWell b ms = Throughout (IsWell b) ms
