-- What a handler of a request does: it runs in one thread, which is resumed with what its calls of `ngx` give, until it ends.
use Rattle.std.specs.Prelude.{ℕ, zero, suc, ◌+◌, min, List, [], ◌∷◌, ◌++◌, length, codes, Option, Some, None}
use Rattle.lua_machine.specs.Finishes.{Finish}
use Rattle.lua_meaning.specs.Evaluator.{Resume}
use Rattle.lua_meaning.specs.Life.{Outcome, Done, Failure, Asks, OutOfSteps, Unbegun}
use Rattle.lua_meaning.specs.declared.resumes.Resumed.{Resumed}
use Rattle.lua_meaning.specs.declared.resumes.Resumed.TheVariants as resumed
use Rattle.lua_operators.specs.Faults.{fault_text}
use Rattle.lua_operators.specs.declared.faults.Fault.TheVariants.{StorageLimit}
use Rattle.lua_values.specs.declared.values.Value.{Value}
use Rattle.lua_values.specs.Heap.{StoreView, step_limit}
use Rattle.ngx_calls.specs.declared.answers.Given.{Given}
use Rattle.ngx_calls.specs.declared.answers.Given.TheVariants as given
use Rattle.ngx_calls.specs.declared.operations.Read.{Read}
use Rattle.ngx_calls.specs.declared.operations.Wanted.{Wanted}
use Rattle.ngx_calls.specs.declared.operations.Wanted.TheVariants as wanted
use Rattle.ngx_calls.specs.Answers.{GivenValues, values_of}
use Rattle.ngx_calls.specs.Operations.{read_operation}
use Rattle.request_api.specs.declared.replies.Printed.{Printed}
use Rattle.request_api.specs.declared.replies.Printed.TheVariants.{Took, SeenEof, OverLimit}
use Rattle.request_api.specs.declared.requests.Req.{Req}
use Rattle.request_api.specs.Replies.{printed, after_print}
use Rattle.run_threads.specs.declared.handlers.End.{End}
use Rattle.run_threads.specs.declared.handlers.End.TheVariants.{Ended, Failed, Spent}
use Rattle.run_threads.specs.declared.handlers.Handled.{Handled}

-- a handler that runs: its request, the bytes of its output calls so far, and its store
pub record Running : Type 0 where
  pub req : Req
  pub pieces : List (List ℕ)
  pub store : StoreView

-- and what its thread is resumed with
pub record Answered : Type 0 where
  pub answer : Resumed
  pub running : Running

abbrev pub with_store : Running → StoreView → Running
with_store r store = record r { store = store }

-- n steps more, at most to the limit, where the program ends
abbrev pub with_steps : ℕ → StoreView → StoreView
with_steps n store = record { heap = store.heap; steps = min step_limit (store.steps + n) }

-- a call fails with a text
abbrev pub raises : List ℕ → Running → Answered
raises text r = record { answer = resumed.Raise text; running = r }

-- it is given values, in the heap in which their texts are made; where there is no room for them it fails
abbrev pub gives : Option GivenValues → Running → Answered
gives None r = raises (fault_text StorageLimit) r
gives (Some g) r = record { answer = resumed.Values g.values; running = with_store r (record { heap = g.heap; steps = r.store.steps }) }

abbrev pub is_given : Given → Running → Answered
is_given g r = gives (values_of g r.store.heap) r

-- an output call of these bytes: they are part of the body, and it is given 1; or it is refused
abbrev pub prints : Printed → List ℕ → Running → Answered
prints Took bytes r = is_given given.One (record r { req = after_print r.req (length bytes); pieces = r.pieces ++ bytes ∷ [] })
prints SeenEof bytes r = is_given (given.Fault (codes "seen eof")) r
prints OverLimit bytes r = is_given (given.Fault (codes "output limit")) r

-- what a call is given, by what it asks for
abbrev pub answers : Wanted → Running → Answered
answers (wanted.Print bytes) r = prints (printed r.req.reply (length bytes)) bytes r
answers (wanted.Refused text) r = raises text r
answers wanted.Unknown r = is_given given.Nothing r

-- once the steps of reading it are counted
abbrev pub answers_read : Read → Running → Answered
answers_read read r = answers read.wanted (with_store r (with_steps read.steps r.store))

-- the call of a number
abbrev pub answers_call : ℕ → List Value → Running → Answered
answers_call number args r = answers_read (read_operation number args r.store.heap) r

-- a handler has ended
abbrev pub came_to : Running → End → Handled
came_to r end = record { req = r.req; pieces = r.pieces; end = end }

-- what comes of a handler whose thread came to this; at a call of `ngx` it goes on with the answer
abbrev pub after_resume : (Answered → Handled) → Running → Outcome → Handled
after_resume go r (Asks number args position store) = go (answers_call number args (with_store r store))
after_resume go r (Done vs store) = came_to r Ended
after_resume go r (Failure v store) = came_to r (Failed v)
after_resume go r OutOfSteps = came_to r Spent
after_resume go r Unbegun = came_to r Ended

abbrev pub resume_with : Answered → Resume
resume_with a = record { store = a.running.store; answer = a.answer }

-- What comes of a handler whose thread was resumed with these in the past and is now resumed with an answer, and so on until it ends, n times at most.
unfoldable pub goes_on : ℕ → Finish → List Resume → Answered → Handled
goes_on zero life past a = came_to a.running Spent
goes_on (suc n) life past a = let resumes = past ++ resume_with a ∷ [] in after_resume (goes_on n life resumes) a.running (life resumes)

-- what a thread is given as it begins, which isn't used
abbrev pub begun : StoreView → Req → Answered
begun store req = record { answer = resumed.Values []; running = record { req = req; pieces = []; store = store } }

-- What comes of a handler that begins for a request in a store. Its thread is resumed once, and once for each call of `ngx`, each of which counts a step.
abbrev pub handled : Finish → StoreView → Req → Handled
handled life store req = goes_on (suc step_limit) life [] (begun store req)
