-- What holds of the evaluator, whatever its nodes mean.
use Rattle.std.specs.Prelude.{◌≡◌, ℕ, ◌≤◌}
use Rattle.lua_meaning.specs.Works.{Node, Places, Slots, Sign, Work, and_then}
use Rattle.lua_meaning.specs.Evaluator.{State, Evaluator, WorkOf, after, counted, do_work, budget, eval_within, eval_by}

-- an evaluator that counts a step for each node, and then does the node's work by itself
abbrev pub Evaluates : WorkOf → Evaluator → Type 0
Evaluates work_of ev = (n : Node) (p : Places) (s : Slots) (w : State) → ev n p s w ≡ counted 1 w (λ w'. do_work ev (work_of n p s) w')

-- the evaluator is one, for any meaning of nodes
abbrev pub EvaluatorEvaluates : Type 0
EvaluatorEvaluates = (work_of : WorkOf) → Evaluates work_of (eval_by work_of)

-- and it is the only one
abbrev pub OnlyEvaluator : Type 0
OnlyEvaluator =
    (work_of : WorkOf) (ev : Evaluator) → Evaluates work_of ev → (n : Node) (p : Places) (s : Slots) (w : State) → ev n p s w ≡ eval_by work_of n p s w

-- how deep nodes may be within one another never shows, where it is as many as steps can be counted
abbrev pub DepthNeverShows : Type 0
DepthNeverShows =
    (work_of : WorkOf) (k : ℕ) (n : Node) (p : Places) (s : Slots) (w : State) → budget w ≤ k → eval_within work_of k n p s w ≡ eval_by work_of n p s w

-- work after work is done in order: what the first ended as is what the second goes on with
abbrev pub WorksInOrder : Type 0
WorksInOrder =
    (ev : Evaluator) (q : Work) (next : Sign → Slots → Work) (w : State)
    → do_work ev (and_then q next) w ≡ after (do_work ev q w) (λ sign s w'. do_work ev (next sign s) w')
