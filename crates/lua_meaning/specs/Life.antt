-- The life of a thread: what it comes to, over all with which it is resumed.
use Rattle.std.specs.Prelude.{ℕ, false, List, [], ◌∷◌, ◌++◌, Option}
use Rattle.lua_values.specs.declared.values.Value.{Value}
use Rattle.lua_values.specs.Heap.{StoreView}
use Rattle.lua_meaning.specs.declared.positions.Position.{Position}
use Rattle.lua_meaning.specs.Works.{Sign, Values, Return, Break, Failed, ACall}
use Rattle.lua_meaning.specs.Evaluator.{Resume, Ending, Ended, Parked, Spent}
use Rattle.lua_meaning.specs.Setting.{Setting}
use Rattle.lua_meaning.specs.Calls.{calling}
use Rattle.lua_meaning.specs.Nodes.{eval}

-- a thread is done or has failed, with the store that it leaves, is parked at a call that the outside must answer, or has
-- spent its steps; one that was never resumed hasn't begun
pub data Outcome : Type 0 where
  Done : (vs : List Value) (store : StoreView) → Outcome
  Failure : (v : Value) (store : StoreView) → Outcome
  Asks : (number : ℕ) (args : List Value) (position : Option Position) (store : StoreView) → Outcome
  OutOfSteps : Outcome
  Unbegun : Outcome

-- an ending as it is seen from outside, where slots and resumes that were left don't show
abbrev pub outcome_of_sign : Sign → StoreView → Outcome
outcome_of_sign (Values vs) store = Done vs store
outcome_of_sign (Return vs) store = Done vs store
outcome_of_sign Break store = Done [] store
outcome_of_sign (Failed v) store = Failure v store

abbrev pub outcome_of : Ending → Outcome
outcome_of (Ended sign s w) = outcome_of_sign sign w.store
outcome_of (Parked number args position store) = Asks number args position store
outcome_of Spent = OutOfSteps

-- The life of a thread that calls f with these arguments: it begins in the store of its first resume, whose answer isn't
-- used, and goes on by the others.
abbrev pub life : Setting → Value → List Value → List Resume → Outcome
life S f args [] = Unbegun
life S f args (r ∷ resumes) = outcome_of (eval S (ACall f args) (calling [] false) [] (record { store = r.store; resumes = resumes }))

-- what is left of it once it was resumed with these, over all with which it will still be resumed
abbrev pub finish : Setting → Value → List Value → List Resume → List Resume → Outcome
finish S f args past resumes = life S f args (past ++ resumes)
