-- The evaluator's law: a node gives what its work gives, whatever the depth. And works compose.
use Rattle.std.specs.Prelude.{◌≡◌, ℕ, zero, suc, ◌+◌, ◌≤◌, List, [], ◌∷◌, nat_lt, if◌then◌else◌, Bool, true, false, refl, Option}
use Rattle.std.proofs.Common.{sym, ◌∙◌, ap, arith}
use borrow.Author.Tests.{ltb-true}
use Rattle.lua_values.specs.declared.values.Value.{Value}
use Rattle.lua_values.specs.Heap.{StoreView, step_limit}
use Rattle.lua_meaning.specs.declared.positions.Position.{Position}
use Rattle.lua_meaning.specs.declared.resumes.Resumed.{Resumed}
use Rattle.lua_meaning.specs.Works.{Places, Node, Sign, Slots, Work, End, Eval, Outside, Look, Write, Count, and_then}
use Rattle.lua_meaning.specs.Evaluator.{Resume, State, Ending, Ended, Parked, Spent, after, answered, counted, Evaluator, do_work, budget, WorkOf, eval_within, eval_by}
use Rattle.lua_meaning.specs.Laws.{Evaluates}

-- an outcome that leaves no more steps than b
abbrev pub Within : ℕ → Ending → Type 0
Within b (Ended sign s w) = budget w ≤ b
Within b (Parked number args position store) = Unit {0}
Within b Spent = Unit {0}

abbrev pub Shrinks : Evaluator → Type 0
Shrinks eval = (n : Node) (p : Places) (s : Slots) (w : State) → Within (budget w) (eval n p s w)

Within-more : (a b : ℕ) (o : Ending) → a ≤ b → Within a o → Within b o
Within-more a b (Ended sign s w) h i = omega arith
Within-more a b (Parked number args position store) h i = tt
Within-more a b Spent h i = tt

after-within : (b : ℕ) (o : Ending) (go : Sign → Slots → State → Ending) → Within b o → ((sign : Sign) (s : Slots) (w : State) → budget w ≤ b → Within b (go sign s w)) → Within b (after o go)
after-within b (Ended sign s w) go h each = each sign s w h
after-within b (Parked number args position store) go h each = tt
after-within b Spent go h each = tt

answered-within : (b number : ℕ) (args : List Value) (position : Option Position) (store : StoreView) (resumes : List Resume) (go : Resumed → State → Ending) → budget (record { store = store; resumes = resumes }) ≤ b → ((a : Resumed) (w : State) → budget w ≤ b → Within b (go a w)) → Within b (answered number args position store resumes go)
answered-within b number args position store [] go h each = tt
answered-within b number args position store (r ∷ resumes) go h each =
    elim (nat_lt r.store.steps step_limit) as (λ t. Within b (if t then go r.answer (record { store = r.store; resumes = resumes }) else Spent)) [ true ↦ each r.answer _ (omega arith) | false ↦ tt ]

counted-within : (b n : ℕ) (w : State) (go : State → Ending) → budget w ≤ b → ((w' : State) → budget w' ≤ b → Within b (go w')) → Within b (counted n w go)
counted-within b n w go h each =
    elim (nat_lt (w.store.steps + n) step_limit) as (λ t. Within b (if t then go (record w { store = record { heap = w.store.heap; steps = w.store.steps + n } }) else Spent)) [ true ↦ each _ (omega arith) | false ↦ tt ]

-- work leaves no more steps than it found
pub work-within : (eval : Evaluator) → Shrinks eval → (b : ℕ) (q : Work) (w : State) → budget w ≤ b → Within b (do_work eval q w)
work-within eval sh b (End sign s) w h = h
work-within eval sh b (Eval n p s go) w h =
    after-within b (eval n p s w) _ (Within-more (budget w) b (eval n p s w) h (sh n p s w)) (λ sign s' w' h'. work-within eval sh b (go sign s') w' h')
work-within eval sh b (Outside number args position go) w h =
    answered-within b number args position w.store w.resumes _ h (λ a w' h'. work-within eval sh b (go a) w' h')
work-within eval sh b (Look go) w h = work-within eval sh b (go w.store.heap) w h
work-within eval sh b (Write heap go) w h = work-within eval sh b go _ h
work-within eval sh b (Count n go) w h = counted-within b n w _ h (λ w' h'. work-within eval sh b go w' h')

after-agrees : (b : ℕ) (o : Ending) (go go' : Sign → Slots → State → Ending) → Within b o → ((sign : Sign) (s : Slots) (w : State) → budget w ≤ b → go sign s w ≡ go' sign s w) → after o go ≡ after o go'
after-agrees b (Ended sign s w) go go' h each = each sign s w h
after-agrees b (Parked number args position store) go go' h each = refl
after-agrees b Spent go go' h each = refl

answered-agrees : (b number : ℕ) (args : List Value) (position : Option Position) (store : StoreView) (resumes : List Resume) (go go' : Resumed → State → Ending) → budget (record { store = store; resumes = resumes }) ≤ b → ((a : Resumed) (w : State) → budget w ≤ b → go a w ≡ go' a w) → answered number args position store resumes go ≡ answered number args position store resumes go'
answered-agrees b number args position store [] go go' h each = refl
answered-agrees b number args position store (r ∷ resumes) go go' h each =
    along (nat_lt r.store.steps step_limit)
  where
    along : (t : Bool) → (if t then go r.answer (record { store = r.store; resumes = resumes }) else Spent) ≡ (if t then go' r.answer (record { store = r.store; resumes = resumes }) else Spent)
    along true = each r.answer _ (omega arith)
    along false = refl

-- counting one step lowers the budget
counted-agrees : (n : ℕ) (w : State) (go go' : State → Ending) → ((w' : State) → budget w' + n ≤ budget w → go w' ≡ go' w') → counted n w go ≡ counted n w go'
counted-agrees n w go go' each = by_test (nat_lt (w.store.steps + n) step_limit) refl
  where
    by_test : (t : Bool) → nat_lt (w.store.steps + n) step_limit ≡ t → (if t then go (record w { store = record { heap = w.store.heap; steps = w.store.steps + n } }) else Spent) ≡ (if t then go' (record w { store = record { heap = w.store.heap; steps = w.store.steps + n } }) else Spent)
    by_test true e = each _ (omega (arith, ltb-true _ _ e))
    by_test false e = refl

-- two evaluators that agree within a budget give the same for work within it
pub work-agrees : (eval eval' : Evaluator) → Shrinks eval → (b : ℕ) → ((n : Node) (p : Places) (s : Slots) (w : State) → budget w ≤ b → eval n p s w ≡ eval' n p s w) → (q : Work) (w : State) → budget w ≤ b → do_work eval q w ≡ do_work eval' q w
work-agrees eval eval' sh b same (End sign s) w h = refl
work-agrees eval eval' sh b same (Eval n p s go) w h =
    after-agrees b (eval n p s w) _ _ (Within-more (budget w) b (eval n p s w) h (sh n p s w)) (λ sign s' w' h'. work-agrees eval eval' sh b same (go sign s') w' h') ∙ ap (λ (o : Ending). after o (λ sign s' w'. do_work eval' (go sign s') w')) (same n p s w h)
work-agrees eval eval' sh b same (Outside number args position go) w h =
    answered-agrees b number args position w.store w.resumes _ _ h (λ a w' h'. work-agrees eval eval' sh b same (go a) w' h')
work-agrees eval eval' sh b same (Look go) w h = work-agrees eval eval' sh b same (go w.store.heap) w h
work-agrees eval eval' sh b same (Write heap go) w h = work-agrees eval eval' sh b same go _ h
work-agrees eval eval' sh b same (Count n go) w h =
    counted-agrees n w _ _ (λ w' h'. work-agrees eval eval' sh b same go w' (omega arith))

-- each depth leaves no more steps than it found
pub within-shrinks : (work_of : WorkOf) (k : ℕ) → Shrinks (eval_within work_of k)
unfolding eval_within
within-shrinks work_of zero n p s w = tt
within-shrinks work_of (suc k) n p s w = work-within (eval_within work_of k) (within-shrinks work_of k) (budget w) (Count 1 (work_of n p s)) w (omega arith)

none_left : (w : State) (go : State → Ending) → budget w ≤ 0 → Spent ≡ counted 1 w go
none_left w go h = by_test (nat_lt (w.store.steps + 1) step_limit) refl
  where
    by_test : (t : Bool) → nat_lt (w.store.steps + 1) step_limit ≡ t → Spent ≡ (if t then go (record w { store = record { heap = w.store.heap; steps = w.store.steps + 1 } }) else Spent)
    by_test true e = absurd (omega (arith, ltb-true _ _ e))
    by_test false e = refl

-- Any two depths that the budget doesn't exceed give the same.
pub within-agrees : (work_of : WorkOf) (k j : ℕ) (n : Node) (p : Places) (s : Slots) (w : State) → budget w ≤ k → budget w ≤ j → eval_within work_of k n p s w ≡ eval_within work_of j n p s w
unfolding eval_within
within-agrees work_of zero zero n p s w h i = refl
within-agrees work_of zero (suc j) n p s w h i = none_left w (do_work (eval_within work_of j) (work_of n p s)) h
within-agrees work_of (suc k) zero n p s w h i = sym (none_left w (do_work (eval_within work_of k) (work_of n p s)) i)
within-agrees work_of (suc k) (suc j) n p s w h i =
    counted-agrees 1 w _ _ (λ w' h'. work-agrees (eval_within work_of k) (eval_within work_of j) (within-shrinks work_of k) (budget w') (λ n' p' s' w'' h''. within-agrees work_of k j n' p' s' w'' (omega arith) (omega arith)) (work_of n p s) w' (omega arith))

-- The evaluator's law: a node counts one step and gives what its work gives.
pub eval-law : (work_of : WorkOf) (n : Node) (p : Places) (s : Slots) (w : State) → eval_by work_of n p s w ≡ counted 1 w (λ w'. do_work (eval_by work_of) (work_of n p s) w')
unfolding eval_within eval_by
eval-law work_of n p s w = at_depth (budget w) (omega arith)
  where
    at_depth : (k : ℕ) → budget w ≤ k → eval_within work_of k n p s w ≡ counted 1 w (λ w'. do_work (eval_by work_of) (work_of n p s) w')
    at_depth zero h = none_left w (λ w'. do_work (eval_by work_of) (work_of n p s) w') h
    at_depth (suc k) h =
        counted-agrees 1 w _ _ (λ w' h'. work-agrees (eval_within work_of k) (eval_by work_of) (within-shrinks work_of k) (budget w') (λ n' p' s' w'' h''. within-agrees work_of k (budget w'') n' p' s' w'' (omega arith) (omega arith)) (work_of n p s) w' (omega arith))

after-then : (o : Ending) (f g h : Sign → Slots → State → Ending) → ((sign : Sign) (s : Slots) (w : State) → f sign s w ≡ after (g sign s w) h) → after o f ≡ after (after o g) h
after-then (Ended sign s w) f g h each = each sign s w
after-then (Parked number args position store) f g h each = refl
after-then Spent f g h each = refl

answered-then : (number : ℕ) (args : List Value) (position : Option Position) (store : StoreView) (resumes : List Resume) (f g : Resumed → State → Ending) (h : Sign → Slots → State → Ending) → ((a : Resumed) (w : State) → f a w ≡ after (g a w) h) → answered number args position store resumes f ≡ after (answered number args position store resumes g) h
answered-then number args position store [] f g h each = refl
answered-then number args position store (r ∷ resumes) f g h each =
    along (nat_lt r.store.steps step_limit)
  where
    along : (t : Bool) → (if t then f r.answer (record { store = r.store; resumes = resumes }) else Spent) ≡ after (if t then g r.answer (record { store = r.store; resumes = resumes }) else Spent) h
    along true = each r.answer _
    along false = refl

counted-then : (n : ℕ) (w : State) (f g : State → Ending) (h : Sign → Slots → State → Ending) → ((w' : State) → f w' ≡ after (g w') h) → counted n w f ≡ after (counted n w g) h
counted-then n w f g h each = along (nat_lt (w.store.steps + n) step_limit)
  where
    along : (t : Bool) → (if t then f (record w { store = record { heap = w.store.heap; steps = w.store.steps + n } }) else Spent) ≡ after (if t then g (record w { store = record { heap = w.store.heap; steps = w.store.steps + n } }) else Spent) h
    along true = each _
    along false = refl

-- Work after work: the second goes on with what the first gave.
pub work-then : (eval : Evaluator) (q : Work) (next : Sign → Slots → Work) (w : State) → do_work eval (and_then q next) w ≡ after (do_work eval q w) (λ sign s w'. do_work eval (next sign s) w')
work-then eval (End sign s) next w = refl
work-then eval (Eval n p s go) next w = after-then (eval n p s w) _ _ _ (λ sign s' w'. work-then eval (go sign s') next w')
work-then eval (Outside number args position go) next w =
    answered-then number args position w.store w.resumes _ _ _ (λ a w'. work-then eval (go a) next w')
work-then eval (Look go) next w = work-then eval (go w.store.heap) next w
work-then eval (Write heap go) next w = work-then eval go next _
work-then eval (Count n go) next w = counted-then n w (λ w'. do_work eval (and_then go next) w') (λ w'. do_work eval go w') (λ sign s w'. do_work eval (next sign s) w') (λ w'. work-then eval go next w')

-- as many nodes deep as the budget allows, or more, is deep enough
pub depth-shows : (work_of : WorkOf) (k : ℕ) (n : Node) (p : Places) (s : Slots) (w : State) → budget w ≤ k → eval_within work_of k n p s w ≡ eval_by work_of n p s w
unfolding eval_within eval_by
depth-shows work_of k n p s w h = within-agrees work_of k (budget w) n p s w h (omega arith)

by-shrinks : (work_of : WorkOf) → Shrinks (eval_by work_of)
unfolding eval_by
by-shrinks work_of n p s w = within-shrinks work_of (budget w) n p s w

-- what evaluates nodes as the evaluator does is the evaluator, whatever the budget
pub eval-same : (work_of : WorkOf) (ev : Evaluator) → Evaluates work_of ev → (k : ℕ) (n : Node) (p : Places) (s : Slots) (w : State) → budget w ≤ k → ev n p s w ≡ eval_by work_of n p s w
eval-same work_of ev law zero n p s w h =
    law n p s w ∙ counted-agrees 1 w (λ w'. do_work ev (work_of n p s) w') (λ w'. do_work (eval_by work_of) (work_of n p s) w') (λ w' h'. absurd (omega arith)) ∙ sym (eval-law work_of n p s w)
eval-same work_of ev law (suc k) n p s w h =
    law n p s w ∙ counted-agrees 1 w (λ w'. do_work ev (work_of n p s) w') (λ w'. do_work (eval_by work_of) (work_of n p s) w')
    (λ w' h'. sym (work-agrees (eval_by work_of) ev (by-shrinks work_of) (budget w') (λ n' p' s' w'' h''. sym (eval-same work_of ev law k n' p' s' w'' (omega arith))) (work_of n p s) w' (omega arith)))
    ∙ sym (eval-law work_of n p s w)

pub eval-only : (work_of : WorkOf) (ev : Evaluator) → Evaluates work_of ev → (n : Node) (p : Places) (s : Slots) (w : State) → ev n p s w ≡ eval_by work_of n p s w
eval-only work_of ev law n p s w = eval-same work_of ev law (budget w) n p s w (omega arith)
