-- Works that are the same but for where the nodes in them stand in memory end alike.
use Rattle.std.proofs.Common.{◌≡◌, ℕ, zero, suc, ◌+◌, nat_lt, Bool, true, false, List, [], ◌∷◌, ℤ, Option, if◌then◌else◌, refl, ap, ◌∙◌, subst}
use Rattle.std.specs.List.{AllZip}
use Rattle.lua_ast.specs.SameProgram.{SameExpr, SameStmt}
use Rattle.lua_ast.specs.declared.expressions.Expr.{Expr}
use Rattle.lua_ast.specs.declared.statements.Stmt.{Stmt}
use Rattle.lua_values.specs.declared.values.Value.{Value}
use Rattle.lua_values.specs.Heap.{Heap, StoreView, step_limit}
use Rattle.lua_meaning.specs.declared.positions.Position.{Position}
use Rattle.lua_meaning.specs.declared.resumes.Resumed.{Resumed}
use Rattle.lua_meaning.specs.Works.{Places, Slots, Node, AValue, AnExpr, AStmt, ATurn, ARepeat, AFor, AnIter, ACall, AnIndex, AStore, Sign, Values, Return, Break, Failed, Work, End, Eval, Outside, Look, Write, Count, and_then}
use Rattle.lua_meaning.specs.Evaluator.{Resume, State, Ending, Ended, Parked, Spent, after, answered, Evaluator, do_work, budget, WorkOf, eval_within, eval_by}
use Rattle.lua_meaning.specs.Signs.{on_values}
use Rattle.lua_meaning.specs.EndingLaws.{counted_then}

-- nodes of the same trees
pub data SameNode : Node → Node → Type 0 where
  one_value : {x y : Expr} → SameExpr x y → SameNode (AValue x) (AValue y)
  all_values : {x y : Expr} → SameExpr x y → SameNode (AnExpr x) (AnExpr y)
  statement : {st other : Stmt} → SameStmt st other → SameNode (AStmt st) (AStmt other)
  turn : {x y : Expr} {body other : List Stmt} → SameExpr x y → AllZip SameStmt body other → SameNode (ATurn x body) (ATurn y other)
  once_more : {x y : Expr} {body other : List Stmt} → AllZip SameStmt body other → SameExpr x y → SameNode (ARepeat body x) (ARepeat other y)
  counting : {line slot : ℕ} {i limit step : ℤ} {body other : List Stmt} → AllZip SameStmt body other → SameNode (AFor line slot i limit step body) (AFor line slot i limit step other)
  iterating : {line : ℕ} {slots : List ℕ} {f state : Value} {vs : List Value} {body other : List Stmt} → AllZip SameStmt body other → SameNode (AnIter line slots f state vs body) (AnIter line slots f state vs other)
  called : {f : Value} {args : List Value} → SameNode (ACall f args) (ACall f args)
  indexed : {line : ℕ} {v key : Value} → SameNode (AnIndex line v key) (AnIndex line v key)
  stored : {line : ℕ} {v key x : Value} → SameNode (AStore line v key x) (AStore line v key x)

-- works that do the same with the same nodes
pub data SameWork : Work → Work → Type 0 where
  ends : {sign other : Sign} {s : Slots} → sign ≡ other → SameWork (End sign s) (End other s)
  evals : {n m : Node} {p : Places} {s : Slots} {go next : Sign → Slots → Work} → SameNode n m → ((sign : Sign) (s' : Slots) → SameWork (go sign s') (next sign s'))
      → SameWork (Eval n p s go) (Eval m p s next)
  asks : {number : ℕ} {args : List Value} {at place : Option Position} {go next : Resumed → Work} → at ≡ place → ((r : Resumed) → SameWork (go r) (next r))
      → SameWork (Outside number args at go) (Outside number args place next)
  looks : {go next : Heap → Work} → ((h : Heap) → SameWork (go h) (next h)) → SameWork (Look go) (Look next)
  writes : {h : Heap} {go next : Work} → SameWork go next → SameWork (Write h go) (Write h next)
  counts : {n : ℕ} {go next : Work} → SameWork go next → SameWork (Count n go) (Count n next)

-- ---- works that go on

pub then_same : {u v : Work} (go next : Sign → Slots → Work) → SameWork u v → ((sign : Sign) (s : Slots) → SameWork (go sign s) (next sign s)) → SameWork (and_then u go) (and_then v next)
then_same go next (ends {sign = sign} {s = s} e) each = subst (λ other. SameWork (go sign s) (next other s)) e (each sign s)
then_same go next (evals n h) each = evals n (λ sign s. then_same go next (h sign s) each)
then_same go next (asks e h) each = asks e (λ r. then_same go next (h r) each)
then_same go next (looks h) each = looks (λ heap. then_same go next (h heap) each)
then_same go next (writes h) each = writes (then_same go next h each)
then_same go next (counts h) each = counts (then_same go next h each)

pub on_same : (go next : List Value → Slots → Work) → ((vs : List Value) (s : Slots) → SameWork (go vs s) (next vs s)) → (sign : Sign) (s : Slots) → SameWork (on_values go sign s) (on_values next sign s)
on_same go next each (Values vs) s = each vs s
on_same go next each (Return vs) s = ends refl
on_same go next each Break s = ends refl
on_same go next each (Failed v) s = ends refl

pub if_same : (b : Bool) {u v w x : Work} → SameWork u v → SameWork w x → SameWork (if b then u else w) (if b then v else x)
if_same true h g = h
if_same false h g = g

-- ---- evaluators

after_same : (o o' : Ending) (go next : Sign → Slots → State → Ending) → o ≡ o' → ((sign : Sign) (s : Slots) (w : State) → go sign s w ≡ next sign s w) → after o go ≡ after o' next
after_same o o' go next e each = along o ∙ ap (λ (z : Ending). after z next) e
  where
    along : (z : Ending) → after z go ≡ after z next
    along (Ended sign s w) = each sign s w
    along (Parked number args position store) = refl
    along Spent = refl

answered_same : (number : ℕ) (args : List Value) (at place : Option Position) (store : StoreView) (resumes : List Resume) (go next : Resumed → State → Ending) → at ≡ place → ((r : Resumed) (w : State) → go r w ≡ next r w)
    → answered number args at store resumes go ≡ answered number args place store resumes next
answered_same number args at place store [] go next e each = ap (λ (o : Option Position). Parked number args o store) e
answered_same number args at place store (r ∷ resumes) go next e each = along (nat_lt r.store.steps step_limit)
  where
    along : (b : Bool) → (if b then go r.answer (record { store = r.store; resumes = resumes }) else Spent) ≡ (if b then next r.answer (record { store = r.store; resumes = resumes }) else Spent)
    along true = each r.answer _
    along false = refl

-- evaluators that end the same nodes alike
abbrev pub EndAlike : Evaluator → Evaluator → Type 0
EndAlike eval other = (n m : Node) → SameNode n m → (p : Places) (s : Slots) (w : State) → eval n p s w ≡ other m p s w

pub work_same : (eval other : Evaluator) → EndAlike eval other → {u v : Work} → SameWork u v → (w : State) → do_work eval u w ≡ do_work other v w
work_same eval other each (ends {s = s} e) w = ap (λ sign. Ended sign s w) e
work_same eval other each (evals {n = n} {m = m} {p = p} {s = s} same go) w =
    after_same (eval n p s w) (other m p s w) _ _ (each n m same p s w) (λ sign s' w'. work_same eval other each (go sign s') w')
work_same eval other each (asks {number = number} {args = args} {at = at} {place = place} e go) w =
    answered_same number args at place w.store w.resumes _ _ e (λ r w'. work_same eval other each (go r) w')
work_same eval other each (looks go) w = work_same eval other each (go w.store.heap) w
work_same eval other each (writes go) w = work_same eval other each go _
work_same eval other each (counts {n = n} go) w = counted_then n w _ _ (λ w'. work_same eval other each go w')

-- meanings that give the same nodes the same works
abbrev pub MeanAlike : WorkOf → WorkOf → Type 0
MeanAlike f g = (n m : Node) → SameNode n m → (p : Places) (s : Slots) → SameWork (f n p s) (g m p s)

within_same : (f g : WorkOf) → MeanAlike f g → (k : ℕ) → EndAlike (eval_within f k) (eval_within g k)
unfolding eval_within
within_same f g each zero n m same p s w = refl
within_same f g each (suc k) n m same p s w =
    let step : SameWork (Count 1 (f n p s)) (Count 1 (g m p s)) = counts (each n m same p s) in
    work_same (eval_within f k) (eval_within g k) (within_same f g each k) step w

pub eval_same : (f g : WorkOf) → MeanAlike f g → EndAlike (eval_by f) (eval_by g)
unfolding eval_by
eval_same f g each n m same p s w = within_same f g each (budget w) n m same p s w
