-- What a machine promises of its threads, by what will come of each of them.
use Rattle.std.specs.Prelude.{◌≡◌, ◌≤◌, ◌<◌, List, [], ◌∷◌}
use Rattle.lua_values.specs.Heap.{StoreView, step_limit}
use Rattle.lua_meaning.specs.Evaluator.{Resume}
use Rattle.lua_meaning.specs.Life.{Outcome, Done, Failure, Asks, OutOfSteps}
use Rattle.lua_machine.specs.declared.slices.Slice.{Slice}
use Rattle.lua_machine.specs.declared.slices.Slice.TheVariants as slice

-- what comes of a thread, by all with which it is resumed
abbrev pub Finish : Type 0
Finish = List Resume → Outcome

-- a thread hasn't begun: once it is resumed, what comes of it is its life
abbrev pub IsNew : Finish → Finish → Type 0
IsNew life finish = (r : Resume) (resumes : List Resume) → finish (r ∷ resumes) ≡ life (r ∷ resumes)

-- A slice, which left a store, is this outcome of a thread that will still be resumed with these: a thread that parks asks
-- the outside, and is what is left of it.
abbrev pub IsOutcome : {T : Type 0} → (T → Finish) → Outcome → List Resume → StoreView → Slice T → Type 0
IsOutcome finish o [] store (slice.Parked thread op) = o ≡ Asks op.number op.args op.position store
IsOutcome finish o (r ∷ resumes) store (slice.Parked thread op) = o ≡ finish thread (r ∷ resumes)
IsOutcome finish o resumes store (slice.Done vs) = o ≡ Done vs store
IsOutcome finish o resumes store (slice.Failed v) = o ≡ Failure v store
IsOutcome finish o resumes store slice.Spent = o ≡ OutOfSteps
IsOutcome finish o resumes store slice.Memory = Unit {0}

-- a thread is resumed with r, and will be with any others: the slice, which left a store, is what comes of it
abbrev pub Resumes : {T : Type 0} → (T → Finish) → T → Resume → StoreView → Slice T → Type 0
Resumes finish thread r store s = (resumes : List Resume) → IsOutcome finish (finish thread (r ∷ resumes)) resumes store s

-- steps rise where a thread parks and never fall, and where they are spent they are at the limit
abbrev pub CountsSteps : {T : Type 0} → StoreView → StoreView → Slice T → Type 0
CountsSteps old new (slice.Parked thread op) = old.steps < new.steps
CountsSteps old new (slice.Done vs) = old.steps ≤ new.steps
CountsSteps old new (slice.Failed v) = old.steps ≤ new.steps
CountsSteps old new slice.Spent = new.steps ≡ step_limit
CountsSteps old new slice.Memory = Unit {0}
