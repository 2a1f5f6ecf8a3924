-- The equations in direct style, from the evaluator's law.
use Rattle.std.specs.Prelude.{◌≡◌, ℕ, ◌+◌, ◌<◌, Bool, true, false, List, [], ◌∷◌, length, Option, Some, slice_get, if◌then◌else◌, refl}
use Rattle.std.proofs.Common.{◌∙◌, ap}
use Rattle.std.proofs.lemmas.Bool.{lt-ltb}
use Rattle.lua_ast.specs.declared.expressions.Expr.{Expr}
use Rattle.lua_ast.specs.declared.statements.Stmt.{Stmt}
use Rattle.lua_ast.specs.declared.programs.Function.{Function}
use Rattle.lua_values.specs.declared.values.Value.{Value}
use Rattle.lua_values.specs.declared.values.Value.TheVariants.{Nil, Table, Closure, Native}
use Rattle.lua_values.specs.Heap.{Heap, ClosureView}
use Rattle.lua_operators.specs.Types.{is_truthy}
use Rattle.lua_meaning.specs.Works.{Places, Slots, AValue, AnExpr, AStmt, ATurn, ACall, AnIndex, Values, Work, End, and_then}
use Rattle.lua_meaning.specs.Evaluator.{State, Ending, Ended, after, do_work}
use Rattle.lua_meaning.specs.Setting.{Setting}
use Rattle.lua_meaning.specs.Positions.{callers_at, raise_fault}
use Rattle.lua_meaning.specs.Signs.{first, values_of, on_values, give, give_one, value}
use Rattle.lua_operators.specs.declared.faults.Fault.TheVariants.{StackOverflow}
use Rattle.lua_operators.specs.declared.events.Event.TheVariants.{Index}
use Rattle.lua_meaning.specs.Metatables.{handler}
use Rattle.lua_meaning.specs.Indexing.{raw_value, index_without, index_by}
use Rattle.lua_meaning.specs.Calls.{function_end, around_callee, inside, slots_from, most_callers, call, tail_call, call_closure, run, call_for_one}
use Rattle.lua_meaning.specs.Blocks.{block}
use Rattle.lua_meaning.specs.Loops.{after_body, while_work, again}
use Rattle.lua_meaning.specs.Operators.{binary_work}
use Rattle.lua_meaning.specs.Nodes.{work_of, eval, callee_work}
use Rattle.lua_meaning.specs.DirectEquations.{with_values, eval_list, eval_block, BlockIs, BinaryIs, TurnIs, CallIs, ReturnCallIs, ClosureCallIs, TailCallGivesUp, IndexIs, PcallIs}
use Rattle.lua_meaning.proofs.EvaluatorLemmas.{eval-law, work-then}
use Rattle.lua_meaning.specs.EndingLaws.{values_then, body_then, after_same, counted_then, counted_there}

pub block-is : (S : Setting) → BlockIs S
block-is S = record {
  empty = λ p s w. refl;
  more = λ x body p s w. values_then (eval S) (eval S (AStmt x) p s w) (λ vs s1. block body p s1) (λ vs s1 w1. eval_block S body p s1 w1) (λ vs s1 w1. refl);
}

pub binary-is : (S : Setting) → BinaryIs S
binary-is S x o a b p s w h =
    eval-law (work_of S) (AValue x) p s w ∙ rw h (counted_then 1 w _ _ (λ w1. values_then (eval S) (eval S (AValue a.value) p s w1)
    (λ vs s2. value b.value p s2 (λ u s3. binary_work S (callers_at p x.line) o (first vs) u s3)) _ (λ vs s2 w2.
    values_then (eval S) (eval S (AValue b.value) p s2 w2) (λ us s3. binary_work S (callers_at p x.line) o (first vs) (first us) s3) _ (λ us s3 w3. refl))))

again-is : (S : Setting) (test : Expr) (body : List Stmt) (p : Places) (s : Slots) (w : State) (t : Bool)
    → do_work (eval S) (if t then again (ATurn test body) p s else give [] s) w ≡ (if t then eval S (ATurn test body) p s w else Ended (Values []) s w)
again-is S test body p s w true = after_same (eval S (ATurn test body) p s w)
again-is S test body p s w false = refl

pub turn-is : (S : Setting) → TurnIs S
turn-is S test body p s w =
    eval-law (work_of S) (ATurn test body) p s w ∙ counted_then 1 w _ _ (λ w1.
    work-then (eval S) (block body p s) (after_body (while_work test body p)) w1 ∙ body_then (eval S) (eval_block S body p s w1) (while_work test body p) _ (λ s2 w2.
    values_then (eval S) (eval S (AValue test) p s2 w2) (λ vs s3. if is_truthy (first vs) then again (ATurn test body) p s3 else give [] s3) _ (λ vs s3 w3.
    again-is S test body p s3 w3 (is_truthy (first vs)))))

-- a list of expressions before other work
list_then : (S : Setting) (xs : List Expr) (f : List Value → Slots → Work) (go : List Value → Slots → State → Ending) (p : Places) (s : Slots) (w : State)
    → ((vs : List Value) (s1 : Slots) (w1 : State) → do_work (eval S) (f vs s1) w1 ≡ go vs s1 w1)
    → do_work (eval S) (and_then (values_of xs p s) (on_values f)) w ≡ with_values (eval_list S xs p s w) go
list_then S xs f go p s w h = work-then (eval S) (values_of xs p s) (on_values f) w ∙ values_then (eval S) (eval_list S xs p s w) f go h

pub call-is : (S : Setting) → CallIs S
call-is S x f args p s w h =
    eval-law (work_of S) (AnExpr x) p s w ∙ rw h (counted_then 1 w _ _ (λ w1. values_then (eval S) (eval S (AValue f.value) p s w1)
    (λ fs s2. and_then (values_of args.value.items p s2) (on_values (λ vs s3. call (callers_at p x.line) (first fs) vs s3))) _ (λ fs s2 w2.
    list_then S args.value.items (λ vs s3. call (callers_at p x.line) (first fs) vs s3) _ p s2 w2 (λ vs s3 w3. refl))))

pub return_call-is : (S : Setting) → ReturnCallIs S
return_call-is S r x xs f args p s w h is k =
    eval-law (work_of S) (AStmt r) p s w ∙ rw (h, is, k) (counted_then 1 w _ _ (λ w0. counted_then 1 w0 _ _ (λ w1. values_then (eval S) (eval S (AValue f.value) p s w1)
    (λ fs s2. and_then (values_of args.value.items p s2) (on_values (λ vs s3. tail_call (callers_at p x.line) (first fs) vs s3))) _ (λ fs s2 w2.
    list_then S args.value.items (λ vs s3. tail_call (callers_at p x.line) (first fs) vs s3) _ p s2 w2 (λ vs s3 w3. refl)))))

closure-work : (S : Setting) (c : ℕ) (closure : ClosureView) (f : Function) (args : List Value) (q : Places) (s : Slots) (w : State)
    → slice_get w.store.heap.closures c ≡ Some closure → slice_get S.program.functions.items closure.function ≡ Some f → length (around_callee q) < most_callers
    → do_work (eval S) (callee_work S (Closure c) args q s) w ≡ after (eval_block S f.body.value.items (inside closure.function f closure.cells args (around_callee q))
    (slots_from f.slots 0 f.params args) w) (λ sign s2 w2. Ended (function_end sign) s w2)
closure-work S c closure f args q s w there function few =
    ap (λ (o : Option ClosureView). do_work (eval S) (call_closure S o args q s) w) there
    ∙ ap (λ (o : Option Function). do_work (eval S) (run S closure.function o closure.cells args q s) w) function
    ∙ ap (λ (t : Bool). do_work (eval S) (if t then and_then (block f.body.value.items (inside closure.function f closure.cells args (around_callee q)) (slots_from f.slots 0 f.params args)) (λ sign s'. End (function_end sign) s) else raise_fault S q.around StackOverflow s) w)
    (lt-ltb (length (around_callee q)) most_callers few)
    ∙ work-then (eval S) (block f.body.value.items (inside closure.function f closure.cells args (around_callee q)) (slots_from f.slots 0 f.params args)) (λ sign s2. End (function_end sign) s) w

pub closure_call-is : (S : Setting) → ClosureCallIs S
closure_call-is S c closure f args q s w there function few =
    eval-law (work_of S) (ACall (Closure c) args) q s w ∙ counted_there 1 w (λ w1. do_work (eval S) (callee_work S (Closure c) args q s) w1)
    (λ w1. after (eval_block S f.body.value.items (inside closure.function f closure.cells args (around_callee q)) (slots_from f.slots 0 f.params args) w1) (λ sign s2 w2. Ended (function_end sign) s w2))
    (λ w1 same. closure-work S c closure f args q s w1 (ap (λ (h : Heap). slice_get h.closures c) same ∙ there) function few)

pub tail_call-is : TailCallGivesUp
tail_call-is p line h = rw h refl

pub index-is : (S : Setting) → IndexIs S
index-is S line t key by p s w missing found some other =
    ap (λ (b : Bool). do_work (eval S) (if b then index_without S (handler w.store.heap (Table t) Index) line (Table t) key p s else give_one (raw_value w.store.heap (Table t) key) s) w) missing
    ∙ ap (λ (v : Value). do_work (eval S) (index_without S v line (Table t) key p s) w) found
    ∙ ap (λ (b : Bool). do_work (eval S) (if b then give_one Nil s else index_by by line (Table t) key p s) w) some
    ∙ ap (λ (b : Bool). do_work (eval S) (if b then call_for_one (callers_at p line) by (Table t ∷ key ∷ []) s give_one else again (AnIndex line by key) p s) w) other
    ∙ after_same (eval S (AnIndex line by key) p s w)

pub pcall-is : (S : Setting) → PcallIs S
pcall-is S f args q s w = eval-law (work_of S) (ACall (Native 0) (f ∷ args)) q s w
