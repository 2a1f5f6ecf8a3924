-- An evaluation never lowers the steps; a thread that parks, and won't be resumed, has raised them.
use Rattle.std.specs.Prelude.{◌≡◌, ℕ, zero, suc, ◌+◌, ◌≤◌, ◌<◌, [], nat_lt, if◌then◌else◌, true, false}
use Rattle.std.proofs.Common.{arith}
use Rattle.lua_values.specs.Heap.{Heap, step_limit}
use Rattle.lua_meaning.specs.Works.{Places, Node, Sign, Slots, Work, End, Eval, Outside, Look, Write, Count}
use Rattle.lua_meaning.specs.Evaluator.{State, Ending, Ended, Parked, Spent, after, counted, Evaluator, do_work, budget, WorkOf, eval_within, eval_by}

-- a thread that won't be resumed, in a store with no fewer steps than n
abbrev pub Starts : ℕ → State → Type 0
Starts n w = (w.resumes ≡ []) × (n ≤ w.store.steps)

-- an ending of it with no fewer steps
abbrev pub AtLeast : ℕ → Ending → Type 0
AtLeast n (Ended sign s w) = Starts n w
AtLeast n (Parked number args position store) = n ≤ store.steps
AtLeast n Spent = Unit {0}

-- and with more where it parks
abbrev pub Rises : ℕ → Ending → Type 0
Rises n (Ended sign s w) = Starts n w
Rises n (Parked number args position store) = n < store.steps
Rises n Spent = Unit {0}

-- an evaluator that counts a step for each node
abbrev pub Raises : Evaluator → Type 0
Raises eval = (n : Node) (p : Places) (s : Slots) (w : State) → w.resumes ≡ [] → AtLeast (w.store.steps + 1) (eval n p s w)

-- work that asks nothing of the outside before it evaluates a node
abbrev pub IsQuiet : Work → Type 0
IsQuiet (End sign s) = Unit {0}
IsQuiet (Eval n p s go) = Unit {0}
IsQuiet (Outside number args position go) = ⊥
IsQuiet (Look go) = (h : Heap) → IsQuiet (go h)
IsQuiet (Write h go) = IsQuiet go
IsQuiet (Count n go) = IsQuiet go

fewer : (m n : ℕ) (o : Ending) → m ≤ n → AtLeast n o → AtLeast m o
fewer m n (Ended sign s w) e h = (h.0, omega (arith, e, h.1))
fewer m n (Parked number args position store) e h = omega (arith, e, h)
fewer m n Spent e h = tt

more : (n : ℕ) (o : Ending) → AtLeast (n + 1) o → Rises n o
more n (Ended sign s w) h = (h.0, omega (arith, h.1))
more n (Parked number args position store) h = omega (arith, h)
more n Spent h = tt

after-at-least : (n : ℕ) (o : Ending) (go : Sign → Slots → State → Ending) → AtLeast n o → ((sign : Sign) (s : Slots) (w : State) → Starts n w → AtLeast n (go sign s w)) → AtLeast n (after o go)
after-at-least n (Ended sign s w) go h each = each sign s w h
after-at-least n (Parked number args position store) go h each = h
after-at-least n Spent go h each = tt

counted-at-least : (n m : ℕ) (w : State) (go : State → Ending) → w.resumes ≡ [] → n ≤ w.store.steps + m → ((w' : State) → Starts n w' → AtLeast n (go w')) → AtLeast n (counted m w go)
counted-at-least n m w go e h each =
    elim (nat_lt (w.store.steps + m) step_limit) as (λ t. AtLeast n (if t then go (record w { store = record { heap = w.store.heap; steps = w.store.steps + m } }) else Spent)) [ true ↦ each (record w { store = record { heap = w.store.heap; steps = w.store.steps + m } }) (e, h) | false ↦ tt ]

-- work leaves no fewer steps than it found
pub work-at-least : (eval : Evaluator) → Raises eval → (n : ℕ) (q : Work) (w : State) → Starts n w → AtLeast n (do_work eval q w)
work-at-least eval r n (End sign s) w h = h
work-at-least eval r n (Eval node p s go) w h =
    after-at-least n (eval node p s w) (λ sign s' w'. do_work eval (go sign s') w') (fewer n (w.store.steps + 1) (eval node p s w) (omega (arith, h.1)) (r node p s w h.0)) (λ sign s' w' h'. work-at-least eval r n (go sign s') w' h')
work-at-least eval r n (Outside number args position go) w h = rw h.0 h.1
work-at-least eval r n (Look go) w h = work-at-least eval r n (go w.store.heap) w h
work-at-least eval r n (Write heap go) w h = work-at-least eval r n go (record w { store = record { heap = heap; steps = w.store.steps } }) h
work-at-least eval r n (Count m go) w h = counted-at-least n m w (λ w'. do_work eval go w') h.0 (omega (arith, h.1)) (λ w' h'. work-at-least eval r n go w' h')

within-raises : (work_of : WorkOf) (k : ℕ) → Raises (eval_within work_of k)
unfolding eval_within
within-raises work_of zero n p s w e = tt
within-raises work_of (suc k) n p s w e =
    counted-at-least (w.store.steps + 1) 1 w (λ w'. do_work (eval_within work_of k) (work_of n p s) w') e (omega arith) (λ w' h'. work-at-least (eval_within work_of k) (within-raises work_of k) (w.store.steps + 1) (work_of n p s) w' h')

pub eval-raises : (work_of : WorkOf) → Raises (eval_by work_of)
unfolding eval_by
eval-raises work_of n p s w e = within-raises work_of (budget w) n p s w e

pub after-rises : (n : ℕ) (o : Ending) (go : Sign → Slots → State → Ending) → Rises n o → ((sign : Sign) (s : Slots) (w : State) → Starts n w → Rises n (go sign s w)) → Rises n (after o go)
after-rises n (Ended sign s w) go h each = each sign s w h
after-rises n (Parked number args position store) go h each = h
after-rises n Spent go h each = tt

counted-rises : (n m : ℕ) (w : State) (go : State → Ending) → w.resumes ≡ [] → n ≤ w.store.steps + m → ((w' : State) → Starts n w' → Rises n (go w')) → Rises n (counted m w go)
counted-rises n m w go e h each =
    elim (nat_lt (w.store.steps + m) step_limit) as (λ t. Rises n (if t then go (record w { store = record { heap = w.store.heap; steps = w.store.steps + m } }) else Spent)) [ true ↦ each (record w { store = record { heap = w.store.heap; steps = w.store.steps + m } }) (e, h) | false ↦ tt ]

-- quiet work that parks has evaluated a node before, and that counted a step
pub quiet-rises : (eval : Evaluator) → Raises eval → (n : ℕ) (q : Work) (w : State) → IsQuiet q → Starts n w → Rises n (do_work eval q w)
quiet-rises eval r n (End sign s) w u h = h
quiet-rises eval r n (Eval node p s go) w u h =
    more n (do_work eval (Eval node p s go) w)
    (after-at-least (n + 1) (eval node p s w) (λ sign s' w'. do_work eval (go sign s') w') (fewer (n + 1) (w.store.steps + 1) (eval node p s w) (omega (arith, h.1)) (r node p s w h.0)) (λ sign s' w' h'. work-at-least eval r (n + 1) (go sign s') w' h'))
quiet-rises eval r n (Outside number args position go) w u h = absurd u
quiet-rises eval r n (Look go) w u h = quiet-rises eval r n (go w.store.heap) w (u w.store.heap) h
quiet-rises eval r n (Write heap go) w u h = quiet-rises eval r n go (record w { store = record { heap = heap; steps = w.store.steps } }) u h
quiet-rises eval r n (Count m go) w u h = counted-rises n m w (λ w'. do_work eval go w') h.0 (omega (arith, h.1)) (λ w' h'. quiet-rises eval r n go w' u h')
