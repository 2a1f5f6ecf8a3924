-- The evaluator: it does works. What a node means is a parameter here; of Lua's nodes it is in `Nodes`. That an evaluation
-- ends is seen from the steps, of which only so many may be counted; the laws say that nothing else of this shows.
use Rattle.std.specs.Prelude.{ℕ, zero, suc, ◌+◌, ◌-◌, ◌*◌, nat_lt, List, [], ◌∷◌, length, Option, if◌then◌else◌}
use Rattle.lua_values.specs.declared.values.Value.{Value}
use Rattle.lua_values.specs.Heap.{StoreView, step_limit}
use Rattle.lua_meaning.specs.declared.positions.Position.{Position}
use Rattle.lua_meaning.specs.declared.resumes.Resumed.{Resumed}
use Rattle.lua_meaning.specs.Works.{Places, Slots, Node, Sign, Work, End, Eval, Outside, Look, Write, Count}

-- one resume: what the outside gives, and the store as it is then
pub record Resume : Type 0 where
  pub store : StoreView
  pub answer : Resumed

-- the store, and all with which the thread will still be resumed
pub record State : Type 0 where
  pub store : StoreView
  pub resumes : List Resume

-- How an evaluation ends: as the program can tell, parked at a call that the outside must answer, or with its steps spent.
pub data Ending : Type 0 where
  Ended : (sign : Sign) (s : Slots) (w : State) → Ending
  Parked : (number : ℕ) (args : List Value) (position : Option Position) (store : StoreView) → Ending
  Spent : Ending

-- goes on where a node ended so that the program can tell
abbrev pub after : Ending → (Sign → Slots → State → Ending) → Ending
after (Ended sign s w) go = go sign s w
after (Parked number args position store) go = Parked number args position store
after Spent go = Spent

-- n steps more; where they reach the limit, they are spent
abbrev pub counted : ℕ → State → (State → Ending) → Ending
counted n w go =
    if nat_lt (w.store.steps + n) step_limit
    then go (record w { store = record { heap = w.store.heap; steps = w.store.steps + n } })
    else Spent

-- The outside answers with the next resume, in its store. With none left the thread is parked.
abbrev pub answered : ℕ → List Value → Option Position → StoreView → List Resume → (Resumed → State → Ending) → Ending
answered number args position store [] go = Parked number args position store
answered number args position store (r ∷ resumes) go =
    if nat_lt r.store.steps step_limit then go r.answer (record { store = r.store; resumes = resumes }) else Spent

abbrev pub Evaluator : Type 0
Evaluator = Node → Places → Slots → State → Ending

-- does work, with an evaluator for the nodes in it
abbrev pub do_work : Evaluator → Work → State → Ending
do_work eval (End sign s) w = Ended sign s w
do_work eval (Eval n p s go) w = after (eval n p s w) (λ sign s' w'. do_work eval (go sign s') w')
do_work eval (Outside number args position go) w =
    answered number args position w.store w.resumes (λ resumed w'. do_work eval (go resumed) w')
do_work eval (Look go) w = do_work eval (go w.store.heap) w
do_work eval (Write h go) w = do_work eval go (record w { store = record { heap = h; steps = w.store.steps } })
do_work eval (Count n go) w = counted n w (λ w'. do_work eval go w')

-- the work of each node
abbrev pub WorkOf : Type 0
WorkOf = Node → Places → Slots → Work

-- nodes within nodes, at most k deep; each counts a step and then does its work
unfoldable pub eval_within : WorkOf → ℕ → Evaluator
eval_within work_of zero n p s w = Spent
eval_within work_of (suc k) n p s w = do_work (eval_within work_of k) (Count 1 (work_of n p s)) w

-- the most steps that can still be counted
abbrev pub budget : State → ℕ
budget w = (step_limit - w.store.steps) + step_limit * length w.resumes

-- The evaluator: no nodes are within one another deeper than steps can be counted.
unfoldable pub eval_by : WorkOf → Evaluator
eval_by work_of n p s w = eval_within work_of (budget w) n p s w
