-- A handler that runs: what is left of it after each resume of its thread.
use Rattle.std.proofs.Common.{◌≡◌, ℕ, zero, suc, ◌+◌, ◌-◌, ◌<◌, ◌≤◌, min, List, [], ◌∷◌, ◌++◌, length, codes, refl, sym, ◌∙◌, ap, arith, append_assoc, Option, Some, None, Result, Ok, Err, IfOk}
use Rattle.lua_machine.specs.Finishes.{Finish, IsNew}
use Rattle.lua_meaning.specs.Evaluator.{Resume}
use Rattle.lua_meaning.specs.Life.{Outcome, Done, Failure, Asks, OutOfSteps, Unbegun}
use Rattle.lua_meaning.specs.declared.positions.Position.{Position}
use Rattle.lua_values.specs.declared.values.Value.{Value}
use Rattle.lua_values.specs.Heap.{StoreView, step_limit}
use Rattle.ngx_calls.specs.declared.answers.Given.TheVariants as given
use Rattle.ngx_calls.specs.declared.operations.Wanted.{Wanted}
use Rattle.ngx_calls.specs.declared.operations.Wanted.TheVariants as wanted
use Rattle.ngx_calls.specs.Answers.{GivenValues, values_of}
use Rattle.ngx_calls.specs.Operations.{read_operation}
use Rattle.request_api.specs.declared.replies.Printed.{Printed}
use Rattle.request_api.specs.declared.replies.Printed.TheVariants.{Took, SeenEof, OverLimit}
use Rattle.request_api.specs.declared.requests.Req.{Req}
use Rattle.request_api.specs.Replies.{printed}
use Rattle.run_threads.specs.declared.handlers.Handled.{Handled}
use Rattle.run_threads.specs.Handlers.{Running, Answered, with_store, gives, prints, answers, answers_call, after_resume, resume_with, goes_on, begun, handled}
use Rattle.run_threads.specs.Threads.{IsLeft, IsCome, CountsCalls, TimesNeverShow}

-- an answer counts no steps but those of reading the call
gives_steps : (g : Option GivenValues) (r : Running) → (gives g r).running.store.steps ≡ r.store.steps
gives_steps None r = refl
gives_steps (Some g) r = refl

prints_steps : (p : Printed) (bytes : List ℕ) (r : Running) → (prints p bytes r).running.store.steps ≡ r.store.steps
prints_steps Took bytes r = refl
prints_steps SeenEof bytes r = gives_steps (values_of (given.Fault (codes "seen eof")) r.store.heap) r
prints_steps OverLimit bytes r = gives_steps (values_of (given.Fault (codes "output limit")) r.store.heap) r

answers_steps : (w : Wanted) (r : Running) → (answers w r).running.store.steps ≡ r.store.steps
answers_steps (wanted.Print bytes) r = prints_steps (printed r.req.reply (length bytes)) bytes r
answers_steps (wanted.Refused text) r = refl
answers_steps wanted.Unknown r = refl

pub answer_steps : (number : ℕ) (args : List Value) (r : Running) → (answers_call number args r).running.store.steps ≡ min step_limit (r.store.steps + (read_operation number args r.store.heap).steps)
answer_steps number args r = answers_steps (read_operation number args r.store.heap).wanted _

-- so steps rise where a thread was resumed and asks
steps_rise : (limit old new told k : ℕ) → old < new → new ≤ limit → told ≡ min limit (new + k) → limit - told < limit - old
steps_rise limit old new told k rise within is = omega (arith, is)

pub fewer_left : (number : ℕ) (args : List Value) (r : Running) (store : StoreView) → r.store.steps < store.steps → store.steps ≤ step_limit →
    step_limit - (answers_call number args (with_store r store)).running.store.steps < step_limit - r.store.steps
fewer_left number args r store rise within = steps_rise step_limit r.store.steps store.steps _ _ rise within (answer_steps number args (with_store r store))

-- the call is answered by its arguments
pub answered_by : (number : ℕ) (args given : List Value) (r : Running) (b : Answered) → b ≡ answers_call number given r → given ≡ args → b ≡ answers_call number args r
answered_by number args given r b is same = rw (sym same) is

pub answered_steps : (a b : Answered) → a ≡ b → a.running.store.steps ≡ b.running.store.steps
answered_steps a b is = ap (λ (x : Answered). x.running.store.steps) is

-- one resume more
pub comes_by : (n : ℕ) (life : Finish) (past : List Resume) (a : Answered) (o : Outcome) → life (past ++ resume_with a ∷ []) ≡ o →
    goes_on (suc n) life past a ≡ after_resume (goes_on n life (past ++ resume_with a ∷ [])) a.running o
unfolding goes_on
comes_by n life past a o is = rw is refl

-- what is left of a handler that begins
pub new_left : (life : List Value → Finish) (finish : Finish) (args : List Value) (store : StoreView) (req : Req) → args ≡ [] → IsNew (life args) finish → IsLeft (life []) finish (begun store req) (handled (life []) store req)
new_left life finish args store req none new = record {
  times = suc step_limit;
  past = [];
  enough = omega arith;
  left = λ r more. new r more ∙ ap (λ vs. life vs (r ∷ more)) none;
  comes = refl;
}

pub left_comes : {E : Type 0} (life finish : Finish) (a : Answered) (h : Handled) (r : Result Handled E) → IfOk r (IsCome finish a) → IsLeft life finish a h → IfOk r (λ came. came ≡ h)
left_comes life finish a h (Ok came) is left = is life h left
left_comes life finish a h (Err e) is left = tt

-- it ends as its thread does
pub ends_as : (life finish : Finish) (a : Answered) (came : Handled) (o : Outcome) → IsLeft life finish a came → finish (resume_with a ∷ []) ≡ o →
    (go : Answered → Handled) × (after_resume go a.running o ≡ came)
ends_as life finish a came o left is = by_times left.times refl
  where
    by_times : (k : ℕ) → left.times ≡ k → (go : Answered → Handled) × (after_resume go a.running o ≡ came)
    by_times zero e = absurd (omega (arith, left.enough, e))
    by_times (suc n) e =
        (goes_on n life (left.past ++ resume_with a ∷ []), sym (comes_by n life left.past a o (sym (left.left (resume_with a) []) ∙ is)) ∙ ap (λ k. goes_on k life left.past a) (sym e) ∙ left.comes)

-- where its thread asks, it goes on with the answer
pub goes_left : (life finish rest : Finish) (a : Answered) (came : Handled) (number : ℕ) (args : List Value) (position : Option Position) (store : StoreView) →
    IsLeft life finish a came → finish (resume_with a ∷ []) ≡ Asks number args position store → ((r : Resume) (more : List Resume) → finish (resume_with a ∷ r ∷ more) ≡ rest (r ∷ more)) →
    a.running.store.steps < store.steps → store.steps ≤ step_limit → IsLeft life rest (answers_call number args (with_store a.running store)) came
goes_left life finish rest a came number args position store left is goes rise within = by_times left.times refl
  where
    by_times : (k : ℕ) → left.times ≡ k → IsLeft life rest (answers_call number args (with_store a.running store)) came
    by_times zero e = absurd (omega (arith, left.enough, e))
    by_times (suc n) e = record {
      times = n;
      past = left.past ++ resume_with a ∷ [];
      enough = omega (arith, left.enough, e, fewer_left number args a.running store rise within);
      left = λ r more. sym (goes r more) ∙ left.left (resume_with a) (r ∷ more) ∙ ap life (sym (append_assoc left.past (resume_with a ∷ []) (r ∷ more)));
      comes = sym (comes_by n life left.past a (Asks number args position store) (sym (left.left (resume_with a) []) ∙ is)) ∙ ap (λ k. goes_on k life left.past a) (sym e) ∙ left.comes;
    }

-- how often a thread may be resumed never shows
same_after : (n m : ℕ) (life : Finish) (past : List Resume) (a : Answered) (o : Outcome) → CountsCalls life → life (past ++ resume_with a ∷ []) ≡ o →
    ((b : Answered) → step_limit - b.running.store.steps < step_limit - a.running.store.steps → goes_on n life (past ++ resume_with a ∷ []) b ≡ goes_on m life (past ++ resume_with a ∷ []) b) →
    after_resume (goes_on n life (past ++ resume_with a ∷ [])) a.running o ≡ after_resume (goes_on m life (past ++ resume_with a ∷ [])) a.running o
same_after n m life past a (Asks number args position store) counts is same =
    let rises = counts past (resume_with a) number args position store is in
    same (answers_call number args (with_store a.running store)) (fewer_left number args a.running store rises.0 rises.1)
same_after n m life past a (Done vs store) counts is same = refl
same_after n m life past a (Failure v store) counts is same = refl
same_after n m life past a OutOfSteps counts is same = refl
same_after n m life past a Unbegun counts is same = refl

pub times_hidden : TimesNeverShow
times_hidden life zero m past a counts some enough = absurd (omega (arith, some))
times_hidden life (suc n) zero past a counts some enough = absurd (omega (arith, enough))
times_hidden life (suc n) (suc m) past a counts some enough =
    comes_by n life past a (life (past ++ resume_with a ∷ [])) refl
    ∙ same_after n m life past a (life (past ++ resume_with a ∷ [])) counts refl
    (λ b fewer. times_hidden life n m (past ++ resume_with a ∷ []) b counts (omega (arith, some, fewer)) (omega (arith, enough, fewer)))
    ∙ sym (comes_by m life past a (life (past ++ resume_with a ∷ [])) refl)
