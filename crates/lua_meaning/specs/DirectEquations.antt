-- The evaluator in direct style: what a construct comes to, as an equation on evaluations without works. These are laws.
use Rattle.std.specs.Prelude.{◌≡◌, ℕ, ◌/◌, ◌<◌, true, false, List, [], ◌∷◌, length, Some, slice_get, if◌then◌else◌}
use Rattle.std.specs.declared.rc.Rc.{Rc}
use Rattle.std.specs.declared.vec.Vec.{Vec}
use Rattle.std.specs.declared.alloc.Global.{Global}
use Rattle.lua_ast.specs.declared.expressions.BinOp.{BinOp}
use Rattle.lua_ast.specs.declared.expressions.Expr.{Expr}
use Rattle.lua_ast.specs.declared.expressions.ExprKind.{out-ExprKind}
use Rattle.lua_ast.specs.declared.expressions.ExprKind.TheOpen as e
use Rattle.lua_ast.specs.declared.statements.Stmt.{Stmt}
use Rattle.lua_ast.specs.declared.statements.StmtKind.{out-StmtKind}
use Rattle.lua_ast.specs.declared.statements.StmtKind.TheOpen as st
use Rattle.lua_ast.specs.declared.programs.Function.{Function}
use Rattle.lua_values.specs.declared.values.Value.{Value}
use Rattle.lua_values.specs.declared.values.Value.TheVariants.{Table, Closure, Native}
use Rattle.lua_values.specs.Heap.{ClosureView, bytes_of_a_step}
use Rattle.lua_values.specs.Values.{is_nil}
use Rattle.lua_operators.specs.declared.events.Event.TheVariants.{Index}
use Rattle.lua_operators.specs.Types.{is_truthy}
use Rattle.lua_meaning.specs.Works.{Places, Slots, AValue, AnExpr, AStmt, ATurn, ACall, AnIndex, Values, Break}
use Rattle.lua_meaning.specs.Evaluator.{State, Ending, Ended, Parked, Spent, after, counted, do_work}
use Rattle.lua_meaning.specs.Setting.{Setting}
use Rattle.lua_meaning.specs.Positions.{callers_at}
use Rattle.lua_meaning.specs.Signs.{first, values_of}
use Rattle.lua_meaning.specs.Metatables.{handler, is_function}
use Rattle.lua_meaning.specs.Indexing.{raw_value, index_work}
use Rattle.lua_meaning.specs.Calls.{calling, call_end, returned, function_end, around_callee, inside, slots_from, most_callers}
use Rattle.lua_meaning.specs.Blocks.{block}
use Rattle.lua_meaning.specs.ProtectedCalls.{protected}
use Rattle.lua_meaning.specs.Natives.{texts_length}
use Rattle.lua_meaning.specs.Operators.{binary_work}
use Rattle.lua_meaning.specs.Nodes.{eval}

-- goes on with values, and hands on all else
abbrev pub with_values : Ending → (List Value → Slots → State → Ending) → Ending
with_values (Ended (Values vs) s w) go = go vs s w
with_values (Ended sign s w) go = Ended sign s w
with_values (Parked number args position store) go = Parked number args position store
with_values Spent go = Spent

-- goes on after a run of a loop's body, which `break` ends
abbrev pub with_body : Ending → (Slots → State → Ending) → Ending
with_body (Ended (Values vs) s w) go = go s w
with_body (Ended Break s w) go = Ended (Values []) s w
with_body (Ended sign s w) go = Ended sign s w
with_body (Parked number args position store) go = Parked number args position store
with_body Spent go = Spent

-- a list of expressions, and a block
abbrev pub eval_list : Setting → List Expr → Places → Slots → State → Ending
eval_list S xs p s w = do_work (eval S) (values_of xs p s) w

abbrev pub eval_block : Setting → List Stmt → Places → Slots → State → Ending
eval_block S body p s w = do_work (eval S) (block body p s) w

-- a block is its statements in order
pub record BlockIs (S : Setting) : Type 0 where
  pub empty : (p : Places) (s : Slots) (w : State) → eval_block S [] p s w ≡ Ended (Values []) s w
  pub more : (x : Stmt) (body : List Stmt) (p : Places) (s : Slots) (w : State)
      → eval_block S (x ∷ body) p s w ≡ with_values (eval S (AStmt x) p s w) (λ vs s1 w1. eval_block S body p s1 w1)

-- `a + b` and any other operator of two operands: the first, then the second, then the operator
abbrev pub BinaryIs : Setting → Type 0
BinaryIs S = (x : Expr) (o : BinOp) (a b : Rc Expr Global) (p : Places) (s : Slots) (w : State) → out-ExprKind x.kind ≡ e.Binary o a b
    → eval S (AValue x) p s w ≡ counted 1 w (λ w1. with_values (eval S (AValue a.value) p s w1) (λ vs s2 w2. with_values (eval S (AValue b.value) p s2 w2)
    (λ us s3 w3. do_work (eval S) (binary_work S (callers_at p x.line) o (first vs) (first us) s3) w3)))

-- a turn of `while`: the body, then the test, and while it holds the next turn
abbrev pub TurnIs : Setting → Type 0
TurnIs S = (test : Expr) (body : List Stmt) (p : Places) (s : Slots) (w : State)
    → eval S (ATurn test body) p s w ≡ counted 1 w (λ w1. with_body (eval_block S body p s w1) (λ s2 w2. with_values (eval S (AValue test) p s2 w2)
    (λ vs s3 w3. if is_truthy (first vs) then eval S (ATurn test body) p s3 w3 else Ended (Values []) s3 w3)))

-- `f(args)`: the function, the arguments, and then the call, which leaves the caller's variables as they are
abbrev pub CallIs : Setting → Type 0
CallIs S = (x : Expr) (f : Rc Expr Global) (args : Rc (Vec Expr Global) Global) (p : Places) (s : Slots) (w : State) → out-ExprKind x.kind ≡ e.Call f args
    → eval S (AnExpr x) p s w ≡ counted 1 w (λ w1. with_values (eval S (AValue f.value) p s w1) (λ fs s2 w2. with_values (eval_list S args.value.items p s2 w2)
    (λ vs s3 w3. after (eval S (ACall (first fs) vs) (calling (callers_at p x.line) false) [] w3) (λ sign s4 w4. Ended (call_end sign) s3 w4))))

-- `return f(args)`: the same, but the call is a tail call, with which the function returns
abbrev pub ReturnCallIs : Setting → Type 0
ReturnCallIs S =
    (r : Stmt) (x : Expr) (xs : Rc (Vec Expr Global) Global) (f : Rc Expr Global) (args : Rc (Vec Expr Global) Global) (p : Places) (s : Slots) (w : State)
    → out-StmtKind r.kind ≡ st.Return xs → xs.value.items ≡ x ∷ [] → out-ExprKind x.kind ≡ e.Call f args
    → eval S (AStmt r) p s w ≡ counted 1 w (λ w0. counted 1 w0 (λ w1. with_values (eval S (AValue f.value) p s w1)
    (λ fs s2 w2. with_values (eval_list S args.value.items p s2 w2)
    (λ vs s3 w3. after (eval S (ACall (first fs) vs) (calling (callers_at p x.line) true) [] w3) (λ sign s4 w4. Ended (returned (call_end sign)) s3 w4)))))

-- the call of a closure: its function's block, in new variables, among the callers that are left
abbrev pub ClosureCallIs : Setting → Type 0
ClosureCallIs S = (c : ℕ) (closure : ClosureView) (f : Function) (args : List Value) (q : Places) (s : Slots) (w : State)
    → slice_get w.store.heap.closures c ≡ Some closure → slice_get S.program.functions.items closure.function ≡ Some f → length (around_callee q) < most_callers
    → eval S (ACall (Closure c) args) q s w ≡ counted 1 w (λ w1. after
    (eval_block S f.body.value.items (inside closure.function f closure.cells args (around_callee q)) (slots_from f.slots 0 f.params args) w1)
    (λ sign s2 w2. Ended (function_end sign) s w2))

-- so a tail call of a closure has one caller less around it
abbrev pub TailCallGivesUp : Type 0
TailCallGivesUp = (p : Places) (line : ℕ) → p.lua ≡ true → around_callee (calling (callers_at p line) true) ≡ p.around

-- `t[k]` of a table that hasn't the key, through a metatable whose `__index` is no function: that is indexed, for a step
abbrev pub IndexIs : Setting → Type 0
IndexIs S = (line t : ℕ) (key by : Value) (p : Places) (s : Slots) (w : State) → is_nil (raw_value w.store.heap (Table t) key) ≡ true
    → handler w.store.heap (Table t) Index ≡ by → is_nil by ≡ false → is_function by ≡ false
    → do_work (eval S) (index_work S line (Table t) key p s) w ≡ eval S (AnIndex line by key) p s w

-- `pcall(f, args)`: a fault of the call becomes values; spent steps and a parked thread don't
abbrev pub PcallIs : Setting → Type 0
PcallIs S = (f : Value) (args : List Value) (q : Places) (s : Slots) (w : State)
    → eval S (ACall (Native 0) (f ∷ args)) q s w ≡ counted 1 w (λ w1. counted (texts_length (f ∷ args) / bytes_of_a_step) w1
    (λ w2. after (eval S (ACall f args) (calling q.around false) [] w2) (λ sign s3 w3. Ended (Values (protected (call_end sign))) s w3)))

-- all of them, of the evaluator in every setting
pub record DirectEquations : Type 0 where
  pub block : (S : Setting) → BlockIs S
  pub binary : (S : Setting) → BinaryIs S
  pub turn : (S : Setting) → TurnIs S
  pub call : (S : Setting) → CallIs S
  pub return_call : (S : Setting) → ReturnCallIs S
  pub closure_call : (S : Setting) → ClosureCallIs S
  pub tail_call : TailCallGivesUp
  pub index : (S : Setting) → IndexIs S
  pub pcall : (S : Setting) → PcallIs S
