-- A statement that returns never ends with values, so what comes after it in its block is never run.
use Rattle.std.specs.Prelude.{◌≡◌, ℕ, ◌+◌, List, [], ◌∷◌, ◌++◌, drop, nat_lt, Bool, true, false, if◌then◌else◌, Option, Result, refl}
use Rattle.std.proofs.Common.{sym, ◌∙◌, ap, subst, Vec, Global}
use Rattle.std.specs.declared.rc.Rc.{Rc}
use Rattle.lua_ast.specs.declared.expressions.Expr.{Expr}
use Rattle.lua_ast.specs.declared.expressions.ExprKind.{ExprKind, out-ExprKind}
use Rattle.lua_ast.specs.declared.expressions.ExprKind.TheOpen.{ExprKind-F}
use Rattle.lua_ast.specs.declared.expressions.ExprKind.TheOpen as e
use Rattle.lua_ast.specs.declared.expressions.TableItem.{TableItem}
use Rattle.lua_ast.specs.declared.statements.Stmt.{Stmt}
use Rattle.lua_ast.specs.declared.statements.StmtKind.TheVariants as v
use Rattle.lua_values.specs.declared.values.Value.{Value}
use Rattle.lua_values.specs.declared.values.Value.TheVariants.{Text}
use Rattle.lua_values.specs.Heap.{StoreView, step_limit}
use Rattle.lua_meaning.specs.declared.positions.Position.{Position}
use Rattle.lua_meaning.specs.declared.resumes.Resumed.{Resumed}
use Rattle.lua_meaning.specs.Works.{Places, Slots, AStmt, Sign, Values, Return, Break, Failed, Work, End, Eval, Outside, Look, Write, Count, and_then}
use Rattle.lua_meaning.specs.Evaluator.{Resume, State, Ending, Ended, Parked, Spent, after, answered, Evaluator, do_work}
use Rattle.lua_meaning.specs.Setting.{Setting}
use Rattle.lua_meaning.specs.Positions.{callers_at}
use Rattle.lua_meaning.specs.Signs.{first, on_values, values_of}
use Rattle.lua_meaning.specs.Indexing.{index_work}
use Rattle.lua_meaning.specs.Blocks.{block}
use Rattle.lua_meaning.specs.Calls.{call_end, returned, tail_call}
use Rattle.lua_meaning.specs.Statements.{with_values, tail_work, return_one, return_work}
use Rattle.lua_meaning.specs.Nodes.{work_of, eval}
use Rattle.lua_meaning.proofs.EvaluatorLemmas.{eval-law, work-then}
use Rattle.lua_meaning.specs.EndingLaws.{counted_then as counted_same}
use Rattle.lua_frames.specs.declared.flow.Flow.{Flow}
use Rattle.lua_frames.specs.declared.threads.Frames.{Frames}
use Rattle.lua_frames.specs.Signals.{Passes}
use Rattle.lua_frames.specs.Frames.{finish_from, here, slots_of, entering, working}
use Rattle.lua_frames.specs.Follows.{Enters, Works}
use Rattle.lua_frames.proofs.FollowLemmas.{follows_ok}
use Rattle.lua_vm_statements.proofs.StatementForms.{return_form}

-- work that never ends with values
abbrev pub Leaves : Work → Type 0
Leaves (End sign s) = Passes sign
Leaves (Eval n p s go) = (sign : Sign) (s' : Slots) → Leaves (go sign s')
Leaves (Outside number args position go) = (r : Resumed) → Leaves (go r)
Leaves (Look go) = (h : _) → Leaves (go h)
Leaves (Write h go) = Leaves go
Leaves (Count n go) = Leaves go

then_leaves : (q : Work) (next : Sign → Slots → Work) → ((sign : Sign) (s : Slots) → Leaves (next sign s)) → Leaves (and_then q next)
then_leaves (End sign s) next l = l sign s
then_leaves (Eval n p s go) next l = λ sign s'. then_leaves (go sign s') next l
then_leaves (Outside number args position go) next l = λ r. then_leaves (go r) next l
then_leaves (Look go) next l = λ h. then_leaves (go h) next l
then_leaves (Write h go) next l = then_leaves go next l
then_leaves (Count n go) next l = then_leaves go next l

on_leaves : (go : List Value → Slots → Work) (sign : Sign) (s : Slots) → ((vs : List Value) (s' : Slots) → Leaves (go vs s')) → Leaves (on_values go sign s)
on_leaves go (Values vs) s l = l vs s
on_leaves go (Return vs) s l = tt
on_leaves go Break s l = tt
on_leaves go (Failed v) s l = tt

list_leaves : (xs : List Expr) (p : Places) (s : Slots) (go : List Value → Slots → Work) → ((vs : List Value) (s' : Slots) → Leaves (go vs s')) → Leaves (with_values xs p s go)
list_leaves xs p s go l = then_leaves (values_of xs p s) (on_values go) (λ sign s'. on_leaves go sign s' l)

returned_leaves : (sign : Sign) (s : Slots) → Leaves (End (returned (call_end sign)) s)
returned_leaves (Values vs) s = tt
returned_leaves (Return vs) s = tt
returned_leaves Break s = tt
returned_leaves (Failed v) s = tt

tail_leaves : (line : ℕ) (f : Value) (before : List Value) (args : List Expr) (p : Places) (s : Slots) → Leaves (tail_work line f before args p s)
tail_leaves line f before args p s = list_leaves args p s (λ vs s'. tail_call (callers_at p line) f (before ++ vs) s') (λ vs s' sign s''. returned_leaves sign s')

plain_leaves : (x : Expr) (p : Places) (s : Slots) → Leaves (with_values (x ∷ []) p s (λ vs s'. End (Return vs) s'))
plain_leaves x p s = list_leaves (x ∷ []) p s (λ vs s'. End (Return vs) s') (λ vs s'. tt)

one_leaves : (S : Setting) (x : Expr) (k : ExprKind-F ExprKind TableItem Expr) (p : Places) (s : Slots) → Leaves (return_one S x k p s)
one_leaves S x e.Nil p s = plain_leaves x p s
one_leaves S x e.True p s = plain_leaves x p s
one_leaves S x e.False p s = plain_leaves x p s
one_leaves S x (e.Number n) p s = plain_leaves x p s
one_leaves S x (e.Text t) p s = plain_leaves x p s
one_leaves S x e.Vararg p s = plain_leaves x p s
one_leaves S x (e.Function n) p s = plain_leaves x p s
one_leaves S x (e.Slot n) p s = plain_leaves x p s
one_leaves S x (e.Captured n) p s = plain_leaves x p s
one_leaves S x (e.Global name) p s = plain_leaves x p s
one_leaves S x (e.Index a b) p s = plain_leaves x p s
one_leaves S x (e.Call f args) p s = λ sign s'.
    on_leaves (λ vs s''. tail_work x.line (first vs) [] args.value.items p s'') sign s' (λ vs s''. tail_leaves x.line (first vs) [] args.value.items p s'')
one_leaves S x (e.Method a name args) p s = λ sign s'.
    on_leaves (λ vs s''. and_then (index_work S x.line (first vs) (Text name) p s'') (on_values (λ fs s3. tail_work x.line (first fs) (first vs ∷ []) args.value.items p s3))) sign s'
    (λ vs s''. then_leaves (index_work S x.line (first vs) (Text name) p s'') (on_values (λ fs s3. tail_work x.line (first fs) (first vs ∷ []) args.value.items p s3))
    (λ sign' s3. on_leaves (λ fs s4. tail_work x.line (first fs) (first vs ∷ []) args.value.items p s4) sign' s3 (λ fs s4. tail_leaves x.line (first fs) (first vs ∷ []) args.value.items p s4)))
one_leaves S x (e.Unary o a) p s = plain_leaves x p s
one_leaves S x (e.Binary o a b) p s = plain_leaves x p s
one_leaves S x (e.And a b) p s = plain_leaves x p s
one_leaves S x (e.Or a b) p s = plain_leaves x p s
one_leaves S x (e.Paren a) p s = plain_leaves x p s
one_leaves S x (e.Table items) p s = plain_leaves x p s

return_leaves : (S : Setting) (xs : List Expr) (p : Places) (s : Slots) → Leaves (return_work S xs p s)
return_leaves S [] p s = tt
return_leaves S (x ∷ []) p s = one_leaves S x (out-ExprKind x.kind) p s
return_leaves S (x ∷ y ∷ ys) p s = list_leaves (x ∷ y ∷ ys) p s (λ vs s'. End (Return vs) s') (λ vs s'. tt)

-- what would go on with values is never reached
after_same : (o : Ending) (f g : Sign → Slots → State → Ending) → ((sign : Sign) (s : Slots) (w : State) → f sign s w ≡ g sign s w) → after o f ≡ after o g
after_same (Ended sign s w) f g each = each sign s w
after_same (Parked number args position store) f g each = refl
after_same Spent f g each = refl

answered_same : (number : ℕ) (args : List Value) (position : Option Position) (store : StoreView) (resumes : List Resume) (f g : Resumed → State → Ending) → ((r : Resumed) (w : State) → f r w ≡ g r w)
    → answered number args position store resumes f ≡ answered number args position store resumes g
answered_same number args position store [] f g each = refl
answered_same number args position store (r ∷ resumes) f g each = along (nat_lt r.store.steps step_limit)
  where
    along : (t : Bool) → (if t then f r.answer (record { store = r.store; resumes = resumes }) else Spent) ≡ (if t then g r.answer (record { store = r.store; resumes = resumes }) else Spent)
    along true = each r.answer (record { store = r.store; resumes = resumes })
    along false = refl

passed_by : (ev : Evaluator) (next : List Value → Slots → Work) (q : Work) (w : State) → Leaves q → do_work ev (and_then q (on_values next)) w ≡ do_work ev q w
passed_by ev next (End (Values vs) s) w l = absurd l
passed_by ev next (End (Return vs) s) w l = refl
passed_by ev next (End Break s) w l = refl
passed_by ev next (End (Failed v) s) w l = refl
passed_by ev next (Eval n p s go) w l =
    after_same (ev n p s w) (λ sign s' w'. do_work ev (and_then (go sign s') (on_values next)) w') (λ sign s' w'. do_work ev (go sign s') w') (λ sign s' w'. passed_by ev next (go sign s') w' (l sign s'))
passed_by ev next (Outside number args position go) w l =
    answered_same number args position w.store w.resumes (λ r w'. do_work ev (and_then (go r) (on_values next)) w') (λ r w'. do_work ev (go r) w') (λ r w'. passed_by ev next (go r) w' (l r))
passed_by ev next (Look go) w l = passed_by ev next (go w.store.heap) w (l w.store.heap)
passed_by ev next (Write h go) w l = passed_by ev next go (record w { store = record { heap = h; steps = w.store.steps } }) l
passed_by ev next (Count n go) w l = counted_same n w (λ w'. do_work ev (and_then go (on_values next)) w') (λ w'. do_work ev go w') (λ w'. passed_by ev next go w' l)

statement_passes : (S : Setting) (st : Stmt) (next : List Value → Slots → Work) (p : Places) (s : Slots) (w : State) → Leaves (work_of S (AStmt st) p s)
    → after (eval S (AStmt st) p s w) (λ sign s' w'. do_work (eval S) (on_values next sign s') w') ≡ eval S (AStmt st) p s w
statement_passes S st next p s w l =
    ap (λ (o : Ending). after o (λ sign s' w'. do_work (eval S) (on_values next sign s') w')) (eval-law (work_of S) (AStmt st) p s w)
    ∙ along (nat_lt (w.store.steps + 1) step_limit) ∙ sym (eval-law (work_of S) (AStmt st) p s w)
  where
    once : State
    once = record w { store = record { heap = w.store.heap; steps = w.store.steps + 1 } }

    along : (t : Bool) → after (if t then do_work (eval S) (work_of S (AStmt st) p s) once else Spent) (λ sign s' w'. do_work (eval S) (on_values next sign s') w')
        ≡ (if t then do_work (eval S) (work_of S (AStmt st) p s) once else Spent)
    along true = sym (work-then (eval S) (work_of S (AStmt st) p s) (on_values next) once) ∙ passed_by (eval S) next (work_of S (AStmt st) p s) once l
    along false = refl

-- the statement of a block at an index returns, and nothing is run after it
pub next_returns : {E : Type 0} (S : Setting) (stmts : List Stmt) (st : Stmt) (xs : Rc (Vec Expr Global) Global) (next : ℕ) (old fs : Frames) (before store : StoreView) (r : Result Flow E)
    → drop next stmts ≡ st ∷ drop (next + 1) stmts → st.kind ≡ v.Return xs → Enters S (AStmt st) old before fs store r
    → Works S (block (drop next stmts) (here old) (slots_of old)) old before fs store r
next_returns S stmts st xs next old fs before store r e is w =
    record { follows = follows_ok S (working S (block (drop next stmts) (here old) (slots_of old)) old before) (entering S (AStmt st) old before) store fs r same w.follows }
  where
    leaves : Leaves (work_of S (AStmt st) (here old) (slots_of old))
    leaves = subst Leaves (sym (return_form S st.line st.kind xs (here old) (slots_of old) is)) (return_leaves S xs.value.items (here old) (slots_of old))

    same : (rs : List Resume) → working S (block (drop next stmts) (here old) (slots_of old)) old before rs ≡ entering S (AStmt st) old before rs
    same rs =
        ap (λ (t : List Stmt). working S (block t (here old) (slots_of old)) old before rs) e
        ∙ ap (finish_from S old) (statement_passes S st (λ vs s'. block (drop (next + 1) stmts) (here old) s') (here old) (slots_of old) (record { store = before; resumes = rs }) leaves)
