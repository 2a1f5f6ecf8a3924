-- A thread of a handler that still runs.
use Rattle.std.specs.Prelude.{◌≡◌, ℕ, ◌-◌, ◌<◌, ◌≤◌, List, [], ◌∷◌, ◌++◌, Option}
use Rattle.lua_machine.specs.Finishes.{Finish}
use Rattle.lua_meaning.specs.Evaluator.{Resume}
use Rattle.lua_meaning.specs.Life.{Asks}
use Rattle.lua_meaning.specs.declared.positions.Position.{Position}
use Rattle.lua_values.specs.declared.values.Value.{Value}
use Rattle.lua_values.specs.Heap.{StoreView, step_limit}
use Rattle.run_threads.specs.declared.handlers.Handled.{Handled}
use Rattle.run_threads.specs.Handlers.{Answered, goes_on}

-- a thread is what is left of this life after resumes in the past, and what comes of its handler, which may be resumed as often as steps are left, is h
pub record IsLeft (life finish : Finish) (a : Answered) (h : Handled) : Type 0 where
  pub times : ℕ
  pub past : List Resume
  pub enough : step_limit - a.running.store.steps < times
  pub left : (r : Resume) (more : List Resume) → finish (r ∷ more) ≡ life (past ++ r ∷ more)
  pub comes : goes_on times life past a ≡ h

-- this is what comes of the handler of such a thread, whatever life it is left of
abbrev pub IsCome : Finish → Answered → Handled → Type 0
IsCome finish a came = (life : Finish) (h : Handled) → IsLeft life finish a h → came ≡ h

-- each call that a thread asks for counts a step
abbrev pub CountsCalls : Finish → Type 0
CountsCalls life =
    (past : List Resume) (r : Resume) (number : ℕ) (args : List Value) (position : Option Position) (store : StoreView)
    → life (past ++ r ∷ []) ≡ Asks number args position store → (r.store.steps < store.steps) × (store.steps ≤ step_limit)

-- how often a thread may be resumed never shows, if it is as often as steps are left
abbrev pub TimesNeverShow : Type 0
TimesNeverShow =
    (life : Finish) (n m : ℕ) (past : List Resume) (a : Answered) → CountsCalls life → step_limit - a.running.store.steps < n
    → step_limit - a.running.store.steps < m → goes_on n life past a ≡ goes_on m life past a
