-- Evaluating step by step: each lemma goes from a node to its work, or from work to what is left of it.
use Rattle.std.specs.Prelude.{◌≡◌, ℕ, ◌+◌, nat_lt, Bool, true, false, List, refl, if◌then◌else◌}
use Rattle.std.proofs.Common.{◌∙◌, ap}
use Rattle.lua_values.specs.Heap.{Heap, StoreView, step_limit}
use Rattle.lua_ast.specs.declared.expressions.Expr.{Expr}
use Rattle.lua_ast.specs.declared.expressions.ExprKind.{ExprKind, out-ExprKind}
use Rattle.lua_ast.specs.declared.expressions.ExprKind.TheOpen.{ExprKind-F}
use Rattle.lua_ast.specs.declared.expressions.TableItem.{TableItem}
use Rattle.std.proofs.Common.{rules}
use Rattle.lua_ast.specs.declared.statements.Arm.{Arm, out-Arm, roll-Arm}
use Rattle.lua_ast.specs.declared.statements.Arm as arm
use Rattle.lua_ast.specs.declared.statements.Stmt.{Stmt}
use Rattle.lua_ast.specs.declared.statements.StmtKind.{StmtKind, out-StmtKind}
use Rattle.lua_ast.specs.declared.statements.StmtKind.TheOpen.{StmtKind-F}
use Rattle.lua_meaning.specs.Works.{Node, AValue, AnExpr, AStmt, Places, Slots, Sign, Work, End, Eval, Outside, Look, Write, Count}
use Rattle.lua_meaning.specs.Evaluator.{Resume, State, Ending, Ended, Parked, Spent, after, do_work}
use Rattle.lua_meaning.specs.Setting.{Setting}
use Rattle.lua_meaning.specs.Expressions.{expr_work, value_work}
use Rattle.lua_meaning.specs.Statements.{stmt_work, return_one, if_work}
use Rattle.lua_meaning.specs.Assignments.{Target, target_of}
use Rattle.lua_meaning.specs.Nodes.{work_of, eval}
use Rattle.std.specs.Prelude.{[], ◌∷◌}
use Rattle.std.specs.declared.rc.Rc.{Rc}
use Rattle.lua_operators.specs.Types.{is_truthy}
use Rattle.lua_meaning.specs.Signs.{value}
use Rattle.lua_meaning.specs.Blocks.{block}
use Rattle.std.specs.declared.vec.Vec.{Vec}
use Rattle.std.specs.declared.alloc.Global.{Global}
use Rattle.lua_values.specs.NativeCalls.{Meaning}
use Rattle.lua_values.specs.declared.values.Value.{Value}
use Rattle.lua_values.specs.declared.values.Value.TheVariants.{Closure}
use Rattle.lua_ast.specs.declared.programs.Function.{Function}
use Rattle.lua_meaning.specs.Works.{ACall}
use Rattle.std.specs.Prelude.{Option}
use Rattle.lua_meaning.specs.declared.positions.Position.{Position}
use Rattle.lua_meaning.specs.declared.resumes.Resumed.{Resumed}
use Rattle.lua_meaning.specs.Calls.{calling}
use Rattle.lua_meaning.specs.Life.{outcome_of}
use Rattle.lua_meaning.specs.Rows.{row, row_of, start, setting_of}
use Rattle.lua_meaning.proofs.EvaluatorLemmas.{eval-law}

-- what work comes to, and what a node comes to
pub record Does (S : Setting) (q : Work) (w : State) (o : Ending) : Type 0 where
  pub is : do_work (eval S) q w ≡ o

pub record Comes (S : Setting) (n : Node) (p : Places) (s : Slots) (w : State) (o : Ending) : Type 0 where
  pub is : eval S n p s w ≡ o

-- a state with n steps more
abbrev pub stepped : ℕ → State → State
stepped n w = record w { store = record { heap = w.store.heap; steps = w.store.steps + n } }

-- a node counts a step and does its work
pub node : {S : Setting} {n : Node} {p : Places} {s : Slots} {w : State} {o : Ending} → nat_lt (w.store.steps + 1) step_limit ≡ true
    → Does S (work_of S n p s) (stepped 1 w) o → Comes S n p s w o
node {S} {n} {p} {s} {w} few h = record {
  is =
      eval-law (work_of S) n p s w ∙ ap (λ (t : Bool). if t then do_work (eval S) (work_of S n p s) (stepped 1 w) else Spent) few ∙ h.is;
}

pub stmt : {S : Setting} {st : Stmt} {k : StmtKind-F StmtKind Arm Stmt} {p : Places} {s : Slots} {w : State} {o : Ending}
    → out-StmtKind st.kind ≡ k → nat_lt (w.store.steps + 1) step_limit ≡ true
    → Does S (stmt_work S st.line k p s) (stepped 1 w) o → Comes S (AStmt st) p s w o
stmt {S} {st} {k} {p} {s} {w} e few h =
    node few (record { is = ap (λ (x : StmtKind-F StmtKind Arm Stmt). do_work (eval S) (stmt_work S st.line x p s) (stepped 1 w)) e ∙ h.is })

pub exp : {S : Setting} {x : Expr} {k : ExprKind-F ExprKind TableItem Expr} {p : Places} {s : Slots} {w : State} {o : Ending}
    → out-ExprKind x.kind ≡ k → nat_lt (w.store.steps + 1) step_limit ≡ true
    → Does S (expr_work S x.line k p s) (stepped 1 w) o → Comes S (AnExpr x) p s w o
exp {S} {x} {k} {p} {s} {w} e few h =
    node few (record { is = ap (λ (k' : ExprKind-F ExprKind TableItem Expr). do_work (eval S) (expr_work S x.line k' p s) (stepped 1 w)) e ∙ h.is })

pub val : {S : Setting} {x : Expr} {k : ExprKind-F ExprKind TableItem Expr} {p : Places} {s : Slots} {w : State} {o : Ending}
    → out-ExprKind x.kind ≡ k → nat_lt (w.store.steps + 1) step_limit ≡ true
    → Does S (value_work S x.line k p s) (stepped 1 w) o → Comes S (AValue x) p s w o
val {S} {x} {k} {p} {s} {w} e few h =
    node few (record { is = ap (λ (k' : ExprKind-F ExprKind TableItem Expr). do_work (eval S) (value_work S x.line k' p s) (stepped 1 w)) e ∙ h.is })

-- work that begins with a node goes on with what the node ended as
pub seq : {S : Setting} {n : Node} {p : Places} {s : Slots} {go : Sign → Slots → Work} {w : State} {sign : Sign} {s' : Slots} {w' : State} {o : Ending}
    → Comes S n p s w (Ended sign s' w') → Does S (go sign s') w' o → Does S (Eval n p s go) w o
seq {S} {n} {p} {s} {go} h k = record { is = ap (λ (x : Ending). after x (λ sign' s'' w''. do_work (eval S) (go sign' s'') w'')) h.is ∙ k.is }

pub look : {S : Setting} {go : Heap → Work} {w : State} {o : Ending} → Does S (go w.store.heap) w o → Does S (Look go) w o
look h = record { is = h.is }

pub write : {S : Setting} {heap : Heap} {go : Work} {w : State} {o : Ending}
    → Does S go (record w { store = record { heap = heap; steps = w.store.steps } }) o → Does S (Write heap go) w o
write h = record { is = h.is }

pub count : {S : Setting} {n : ℕ} {go : Work} {w : State} {o : Ending} → nat_lt (w.store.steps + n) step_limit ≡ true
    → Does S go (stepped n w) o → Does S (Count n go) w o
count {S} {n} {go} {w} few h = record { is = ap (λ (t : Bool). if t then do_work (eval S) go (stepped n w) else Spent) few ∙ h.is }

-- a call of the host that is left to the outside parks the thread, or goes on with the next resume
pub park : {S : Setting} {number : ℕ} {args : List Value} {position : Option Position} {go : Resumed → Work} {store : StoreView} {store' : StoreView}
    → store ≡ store' → Does S (Outside number args position go) (record { store = store; resumes = [] }) (Parked number args position store')
park {S} {number} {args} {position} e = record { is = ap (λ (x : StoreView). Parked number args position x) e }

pub resume : {S : Setting} {number : ℕ} {args : List Value} {position : Option Position} {go : Resumed → Work} {store : StoreView} {r : Resume} {rs : List Resume} {o : Ending}
    → nat_lt r.store.steps step_limit ≡ true → Does S (go r.answer) (record { store = r.store; resumes = rs }) o
    → Does S (Outside number args position go) (record { store = store; resumes = r ∷ rs }) o
resume {S} {number} {args} {position} {go} {store} {r} {rs} few h =
    record { is = ap (λ (t : Bool). if t then do_work (eval S) (go r.answer) (record { store = r.store; resumes = rs }) else Spent) few ∙ h.is }

-- where a node parks, so does the work that begins with it
pub parks : {S : Setting} {n : Node} {p : Places} {s : Slots} {go : Sign → Slots → Work} {w : State} {number : ℕ} {args : List Value} {position : Option Position} {store : StoreView}
    → Comes S n p s w (Parked number args position store) → Does S (Eval n p s go) w (Parked number args position store)
parks {S} {n} {p} {s} {go} h = record { is = ap (λ (x : Ending). after x (λ sign' s'' w''. do_work (eval S) (go sign' s'') w'')) h.is }

pub end : {S : Setting} {sign : Sign} {s : Slots} {w : State} → Does S (End sign s) w (Ended sign s w)
end = record { is = refl }

-- a single expression that is returned, and a target, are opened
pub ret : {S : Setting} {k : ExprKind-F ExprKind TableItem Expr} {w : State} {o : Ending} (x : Expr) (p : Places) (s : Slots)
    → out-ExprKind x.kind ≡ k → Does S (return_one S x k p s) w o → Does S (return_one S x (out-ExprKind x.kind) p s) w o
ret {S} {k} {w} x p s e h = record { is = ap (λ (k' : ExprKind-F ExprKind TableItem Expr). do_work (eval S) (return_one S x k' p s) w) e ∙ h.is }

pub target : {S : Setting} {k : ExprKind-F ExprKind TableItem Expr} {w : State} {o : Ending} (x : Expr) (p : Places) (s : Slots) (go : Target → Slots → Work)
    → out-ExprKind x.kind ≡ k → Does S (target_of x.line k p s go) w o → Does S (target_of x.line (out-ExprKind x.kind) p s go) w o
target {S} {k} {w} x p s go e h = record { is = ap (λ (k' : ExprKind-F ExprKind TableItem Expr). do_work (eval S) (target_of x.line k' p s go) w) e ∙ h.is }

-- and so is an arm of `if`
out-rolled : (a : _) → out-Arm (roll-Arm a) ≡ a
out-rolled a = search (rules, arm.the_lemmas)

pub first_arm : {S : Setting} {w : State} {o : Ending} (x : Expr) (b : Rc (Vec Stmt Global) Global) (arms : List Arm) (last : List Stmt) (p : Places) (s : Slots)
    → Does S (value x p s (λ v s'. if is_truthy v then block b.value.items p s' else if_work arms last p s')) w o
    → Does S (if_work (roll-Arm (record { test = x; body = b }) ∷ arms) last p s) w o
first_arm {S} {w} x b arms last p s h =
    record { is = ap (λ (a : _). do_work (eval S) (value a.test p s (λ v s'. if is_truthy v then block a.body.value.items p s' else if_work arms last p s')) w) (out-rolled (record { test = x; body = b })) ∙ h.is }

-- a row by the ending of its chunk's call
pub row_by : (count : ℕ) (lib : Meaning) (functions : Vec Function Global) (o : Ending)
    → Comes (setting_of count lib functions) (ACall (Closure 0) []) (calling [] false) [] (record { store = start; resumes = [] }) o
    → row count lib functions ≡ row_of (outcome_of o)
row_by count lib functions o h = ap (λ (e : Ending). row_of (outcome_of e)) h.is
