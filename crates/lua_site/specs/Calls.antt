-- Calls while a site starts (lua-nginx-module manual, `init_by_lua_block`): no step is counted before one, and nobody answers what it asks, which is
-- this project's choice.
use Rattle.std.specs.Prelude.{ℕ, List, [], ◌∷◌, codes, Ok, Err}
use Rattle.lua_values.specs.declared.values.Value.{Value}
use Rattle.lua_values.specs.declared.values.Value.TheVariants.{Text}
use Rattle.lua_values.specs.Heap.{Heap}
use Rattle.lua_meaning.specs.declared.resumes.Resumed.TheVariants.{Values}
use Rattle.lua_meaning.specs.Evaluator.{Resume}
use Rattle.lua_meaning.specs.Life.{Outcome, Done, Failure, Asks, OutOfSteps, Unbegun}
use Rattle.lua_machine.specs.Finishes.{Finish}
use Rattle.lua_site.specs.Making.{Made}

-- what comes of a thread that calls a value with arguments
abbrev pub Life : Type 0
Life = Value → List Value → Finish

-- the message of a failure: the value, if it is a text
abbrev pub failure_text : Value → List ℕ
failure_text (Text text) = text
failure_text value = codes "unknown reason"

-- what a call leaves: the heap with which it is done, or the message that says how it wasn't
abbrev pub left_by : Outcome → Made
left_by (Done vs store) = Ok store.heap
left_by (Failure v store) = Err (failure_text v)
left_by (Asks number args position store) = Err (codes "API disabled in the context of init_by_lua*")
left_by OutOfSteps = Err (codes "step budget of 1000000 spent")
left_by Unbegun = Err []

-- the one resume of a thread that calls
abbrev pub only_resume : Heap → Resume
only_resume heap = record { store = record { heap = heap; steps = 0 }; answer = Values [] }

abbrev pub called : Life → Value → List Value → Heap → Made
called life f args heap = left_by (life f args (only_resume heap ∷ []))
