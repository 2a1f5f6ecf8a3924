-- What each expression comes to (Lua 5.1 Reference Manual, 2.5).
use Rattle.std.specs.Prelude.{◌≡◌, ℕ, ◌+◌, List, [], ◌∷◌, length, slice_get, ℤ, true, false, if◌then◌else◌}
use Rattle.std.specs.declared.rc.Rc.{Rc}
use Rattle.std.specs.declared.vec.Vec.{Vec}
use Rattle.std.specs.declared.alloc.Global.{Global}
use Rattle.lua_ast.specs.declared.expressions.BinOp.{BinOp}
use Rattle.lua_ast.specs.declared.expressions.UnOp.{UnOp}
use Rattle.lua_ast.specs.declared.expressions.Expr.{Expr}
use Rattle.lua_ast.specs.declared.expressions.ExprKind.{ExprKind, out-ExprKind}
use Rattle.lua_ast.specs.declared.expressions.ExprKind.TheOpen.{ExprKind-F}
use Rattle.lua_ast.specs.declared.expressions.ExprKind.TheOpen as e
use Rattle.lua_ast.specs.declared.expressions.TableItem.{TableItem}
use Rattle.lua_ast.specs.declared.expressions.TableItem as item
use Rattle.lua_values.specs.declared.values.Value.{Value}
use Rattle.lua_values.specs.declared.values.Value.TheVariants.{Nil, Truth, Number, Text, Table}
use Rattle.lua_values.specs.Values.{number}
use Rattle.lua_values.specs.StoreCalls.{full_cause, with_table}
use Rattle.lua_operators.specs.Types.{is_truthy}
use Rattle.lua_meaning.specs.Works.{Caller, Places, Slots, AValue, AnExpr}
use Rattle.lua_meaning.specs.Evaluator.{State, Ending, counted, do_work}
use Rattle.lua_meaning.specs.Setting.{Setting}
use Rattle.lua_meaning.specs.Positions.{callers_at}
use Rattle.lua_meaning.specs.Signs.{first, give_one}
use Rattle.lua_meaning.specs.Variables.{in_slot, in_cell}
use Rattle.lua_meaning.specs.Closures.{closure_work}
use Rattle.lua_meaning.specs.Operators.{unary_work, binary_work}
use Rattle.lua_meaning.specs.Tables.{expr_of}
use Rattle.lua_meaning.specs.Nodes.{eval}
use Rattle.lua_meaning.specs.DirectEquations.{with_values, eval_list}
use Rattle.lua_meaning_laws.specs.Parts.{gives, gives_one, eval_one, call_in, written, set_in, index_in}

-- what an expression comes to at a line, in a place, with these variables and in this state
abbrev pub Coming : Type 0
Coming = ℕ → Places → Slots → State → Ending

-- each expression of this kind counts a step and comes to that
pub record ExprIs (S : Setting) (kind : ExprKind-F ExprKind TableItem Expr) (comes : Coming) : Type 0 where
  pub is : (x : Expr) (p : Places) (s : Slots) (w : State) → out-ExprKind x.kind ≡ kind
      → eval S (AnExpr x) p s w ≡ counted 1 w (λ w'. comes x.line p s w')

-- a new closure of a function of the program; making it evaluates nothing
abbrev pub closure_in : Setting → ℕ → Coming
closure_in S n line p s w = do_work (eval S) (closure_work S line n p s give_one) w

-- an operator on values, which may call a handler
abbrev pub unary_in : Setting → List Caller → UnOp → Value → Slots → State → Ending
unary_in S callers o v s w = do_work (eval S) (unary_work S callers o v s) w

abbrev pub binary_in : Setting → List Caller → BinOp → Value → Value → Slots → State → Ending
binary_in S callers o v x s w = do_work (eval S) (binary_work S callers o v x s) w

-- values at the numbers from n on of a new table, which is then given
abbrev pub fill_in : Setting → List Caller → ℕ → ℕ → List Value → Slots → State → Ending
fill_in S callers t n [] s w = gives_one (Table t) s w
fill_in S callers t n (v ∷ vs) s w = set_in S callers t (number n) v s w (λ w'. fill_in S callers t (n + 1) vs s w')

-- Further items of a new table, of which the next without a key is the n-th; the last gives all of its values. In the patterns
-- `l` and `m` are the lines of the expressions, and `k` and `j` their kinds.
abbrev pub items_in : Setting → ℕ → ℕ → ℕ → List TableItem → Places → Slots → State → Ending
items_in S line t n [] p s w = gives_one (Table t) s w
items_in S line t n (item.Pair' l k m j ∷ items) p s w =
    eval_one S (expr_of l k) p s w (λ key s2 w2. eval_one S (expr_of m j) p s2 w2 (λ v s3 w3.
    set_in S (callers_at p line) t key v s3 w3 (λ w4. items_in S line t n items p s3 w4)))
items_in S line t n (item.Item' l k ∷ []) p s w =
    with_values (eval S (AnExpr (expr_of l k)) p s w) (λ vs s2 w2. fill_in S (callers_at p line) t n vs s2 w2)
items_in S line t n (item.Item' l k ∷ i ∷ items) p s w =
    eval_one S (expr_of l k) p s w (λ v s2 w2.
    set_in S (callers_at p line) t (number n) v s2 w2 (λ w3. items_in S line t (n + 1) (i ∷ items) p s2 w3))

-- a new table takes 32 units
abbrev pub table_in : Setting → List TableItem → Coming
table_in S items line p s w =
    written S (callers_at p line) (full_cause w.store.heap 32) (with_table w.store.heap) s w (λ w2.
    items_in S line (length w.store.heap.tables) 1 items p s w2)

-- all expressions
pub record ExpressionsAre (S : Setting) : Type 0 where
  pub nil : ExprIs S e.Nil (λ line p s w. gives_one Nil s w)
  pub is_true : ExprIs S e.True (λ line p s w. gives_one (Truth true) s w)
  pub is_false : ExprIs S e.False (λ line p s w. gives_one (Truth false) s w)
  pub number : (n : ℤ) → ExprIs S (e.Number n) (λ line p s w. gives_one (Number n) s w)
  pub text : (t : List ℕ) → ExprIs S (e.Text t) (λ line p s w. gives_one (Text t) s w)
  pub vararg : ExprIs S e.Vararg (λ line p s w. counted (length p.extras) w (λ w2. gives p.extras s w2))
  pub function : (n : ℕ) → ExprIs S (e.Function n) (closure_in S n)
  pub slot : (i : ℕ) → ExprIs S (e.Slot i) (λ line p s w. gives_one (in_slot (slice_get s i) w.store.heap) s w)
  pub captured : (i : ℕ) → ExprIs S (e.Captured i) (λ line p s w. gives_one (in_cell (slice_get p.cells i) w.store.heap) s w)
  pub global : (name : List ℕ) → ExprIs S (e.Global name) (λ line p s w. index_in S line (Table w.store.heap.globals) (Text name) p s w)
  pub index : (a b : Rc Expr Global) → ExprIs S (e.Index a b) (λ line p s w.
      eval_one S a.value p s w (λ v s2 w2. eval_one S b.value p s2 w2 (λ key s3 w3. index_in S line v key p s3 w3)))
  pub call : (f : Rc Expr Global) (args : Rc (Vec Expr Global) Global) → ExprIs S (e.Call f args) (λ line p s w.
      eval_one S f.value p s w (λ v s2 w2. with_values (eval_list S args.value.items p s2 w2) (λ vs s3 w3.
      call_in S (callers_at p line) v vs s3 w3)))
  pub method : (a : Rc Expr Global) (name : List ℕ) (args : Rc (Vec Expr Global) Global) → ExprIs S (e.Method a name args) (λ line p s w.
      eval_one S a.value p s w (λ object s2 w2. with_values (index_in S line object (Text name) p s2 w2) (λ fs s3 w3.
      with_values (eval_list S args.value.items p s3 w3) (λ vs s4 w4. call_in S (callers_at p line) (first fs) (object ∷ vs) s4 w4))))
  pub unary : (o : UnOp) (a : Rc Expr Global) → ExprIs S (e.Unary o a) (λ line p s w.
      eval_one S a.value p s w (λ v s2 w2. unary_in S (callers_at p line) o v s2 w2))
  pub binary : (o : BinOp) (a b : Rc Expr Global) → ExprIs S (e.Binary o a b) (λ line p s w.
      eval_one S a.value p s w (λ v s2 w2. eval_one S b.value p s2 w2 (λ x s3 w3. binary_in S (callers_at p line) o v x s3 w3)))
  pub conjunction : (a b : Rc Expr Global) → ExprIs S (e.And a b) (λ line p s w.
      eval_one S a.value p s w (λ v s2 w2. if is_truthy v then eval_one S b.value p s2 w2 gives_one else gives_one v s2 w2))
  pub disjunction : (a b : Rc Expr Global) → ExprIs S (e.Or a b) (λ line p s w.
      eval_one S a.value p s w (λ v s2 w2. if is_truthy v then gives_one v s2 w2 else eval_one S b.value p s2 w2 gives_one))
  pub paren : (a : Rc Expr Global) → ExprIs S (e.Paren a) (λ line p s w. eval_one S a.value p s w gives_one)
  pub table : (items : Rc (Vec TableItem Global) Global) → ExprIs S (e.Table items) (table_in S items.value.items)

-- the first of the arguments after the parameters, which counts a step if it is there
abbrev pub first_extra_in : List Value → Slots → State → Ending
first_extra_in [] s w = gives_one Nil s w
first_extra_in (v ∷ vs) s w = counted 1 w (λ w2. gives_one v s w2)

-- where one value is wanted: of `...` the first, and any other expression is evaluated first
pub record ValuesAre (S : Setting) : Type 0 where
  pub vararg : (x : Expr) (p : Places) (s : Slots) (w : State) → out-ExprKind x.kind ≡ e.Vararg
      → eval S (AValue x) p s w ≡ counted 1 w (λ w2. first_extra_in p.extras s w2)
  pub other : (x : Expr) (p : Places) (s : Slots) (w : State) → (out-ExprKind x.kind ≡ e.Vararg → ⊥) → eval S (AValue x) p s w ≡ eval S (AnExpr x) p s w

-- a list of expressions: the last gives all of its values, and each other one
pub record ListsAre (S : Setting) : Type 0 where
  pub empty : (p : Places) (s : Slots) (w : State) → eval_list S [] p s w ≡ gives [] s w
  pub last : (x : Expr) (p : Places) (s : Slots) (w : State) → eval_list S (x ∷ []) p s w ≡ eval S (AnExpr x) p s w
  pub more : (x y : Expr) (xs : List Expr) (p : Places) (s : Slots) (w : State) → eval_list S (x ∷ y ∷ xs) p s w
      ≡ eval_one S x p s w (λ v s2 w2. with_values (eval_list S (y ∷ xs) p s2 w2) (λ vs s3 w3. gives (v ∷ vs) s3 w3))

pub record EachExpressionIs : Type 0 where
  pub all : (S : Setting) → ExpressionsAre S
  pub one : (S : Setting) → ValuesAre S
  pub lists : (S : Setting) → ListsAre S
