-- What comes of a thread that parks as often as it is told.
use Rattle.std.specs.Prelude.{ℕ, zero, suc, ◌+◌, min, nat_lt, [], ◌∷◌, None, if◌then◌else◌}
use Rattle.lua_values.specs.Heap.{StoreView, step_limit}
use Rattle.lua_meaning.specs.Evaluator.{Resume}
use Rattle.lua_meaning.specs.Life.{Outcome, Done, Asks, OutOfSteps, Unbegun}
use Rattle.lua_machine.specs.Finishes.{Finish}

-- a store with one step more
abbrev pub with_step : StoreView → StoreView
with_step store = record { heap = store.heap; steps = min step_limit (store.steps + 1) }

-- an outcome, if a step is left
abbrev pub counted : Resume → Outcome → Outcome
counted r o = if nat_lt (r.store.steps + 1) step_limit then o else OutOfSteps

abbrev pub plays : ℕ → Finish
plays n [] = Unbegun
plays zero (r ∷ resumes) = counted r (Done [] (with_step r.store))
plays (suc n) (r ∷ []) = counted r (Asks 0 [] None (with_step r.store))
plays (suc n) (r ∷ next ∷ resumes) = counted r (plays n (next ∷ resumes))
