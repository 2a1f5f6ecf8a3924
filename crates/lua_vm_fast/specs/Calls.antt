-- Calls of functions that only give values, which are done at once (Lua 5.1 Reference Manual, 2.5.8).
use Rattle.std.specs.Prelude.{◌≡◌, ℕ, ◌+◌, ◌<◌, Bool, true, false, List, [], ◌∷◌, length, map, slice_get, Option, Some, None}
use Rattle.std.specs.declared.rc.Rc.{Rc}
use Rattle.std.specs.declared.vec.Vec.{Vec}
use Rattle.std.specs.declared.alloc.Global.{Global}
use Rattle.lua_ast.specs.declared.expressions.BinOp.{BinOp}
use Rattle.lua_ast.specs.declared.expressions.Expr.{Expr}
use Rattle.lua_ast.specs.declared.expressions.ExprKind.{out-ExprKind}
use Rattle.lua_ast.specs.declared.expressions.ExprKind.TheOpen as e
use Rattle.lua_ast.specs.declared.programs.Function.{Function}
use Rattle.lua_ast.specs.declared.programs.Program.{Program}
use Rattle.lua_ast.specs.declared.statements.Stmt.{Stmt}
use Rattle.lua_ast.specs.declared.statements.StmtKind.{out-StmtKind}
use Rattle.lua_ast.specs.declared.statements.StmtKind.TheOpen as k
use Rattle.lua_values.specs.declared.values.Value.{Value}
use Rattle.lua_values.specs.declared.values.Value.TheVariants.{Closure}
use Rattle.lua_values.specs.Heap.{Heap, StoreView, step_limit}
use Rattle.lua_meaning.specs.declared.slots.Slot.TheVariants.{Plain}
use Rattle.lua_meaning.specs.Works.{Caller, Places, Slots, AValue, AnExpr, AStmt, ACall, Values, End, and_then}
use Rattle.lua_meaning.specs.Evaluator.{Resume, State, Ended, do_work}
use Rattle.lua_meaning.specs.Setting.{Setting}
use Rattle.lua_meaning.specs.Signs.{value, values_of}
use Rattle.lua_meaning.specs.Blocks.{block}
use Rattle.lua_meaning.specs.Calls.{calling, function_end, most_callers}
use Rattle.lua_meaning.specs.Expressions.{call_work}
use Rattle.lua_meaning.specs.Nodes.{eval}
use Rattle.lua_vm_fast.specs.declared.calls.Site.{Site}
use Rattle.lua_vm_fast.specs.Gives.{later}
use Rattle.lua_vm_fast.specs.Runs.{state}

-- a place is in the site's function, and few enough functions are around it that so many more may be called within one another
pub record Allows (site : Site) (levels : ℕ) (S : Setting) (p : Places) : Type 0 where
  pub program : S.program ≡ site.program.now
  pub cells : p.cells ≡ site.cells.now
  pub room : 0 < levels → length p.around + levels < most_callers

-- An expression gives a value and counts n steps at such a place, with these variables and this heap, if the steps are left.
pub record GivesAt (site : Site) (levels : ℕ) (x : Expr) (s : Slots) (h : Heap) (v : Value) (n : ℕ) : Type 0 where
  pub one : (S : Setting) (p : Places) (w : State) → Allows site levels S p → w.store.heap ≡ h → w.store.steps + n < step_limit
      → eval S (AValue x) p s w ≡ Ended (Values (v ∷ [])) s (later n w)
  pub all : (S : Setting) (p : Places) (w : State) → Allows site levels S p → w.store.heap ≡ h → w.store.steps + n < step_limit
      → eval S (AnExpr x) p s w ≡ Ended (Values (v ∷ [])) s (later n w)

-- a list of expressions does, as new local variables
pub record GivesList (site : Site) (levels : ℕ) (xs : List Expr) (s : Slots) (h : Heap) (us : Slots) (n : ℕ) : Type 0 where
  pub values : List Value
  pub plain : us ≡ map Plain values
  pub is : (S : Setting) (p : Places) (w : State) → Allows site levels S p → w.store.heap ≡ h → w.store.steps + n < step_limit
      → do_work (eval S) (values_of xs p s) w ≡ Ended (Values values) s (later n w)

-- the call of an expression's value with arguments does
pub record GivesCall (site : Site) (levels : ℕ) (f : Expr) (xs : List Expr) (s : Slots) (h : Heap) (vs : List Value) (n : ℕ) : Type 0 where
  pub is : (S : Setting) (line : ℕ) (p : Places) (w : State) → Allows site levels S p → w.store.heap ≡ h → w.store.steps + n < step_limit
      → do_work (eval S) (value f p s (λ v s'. call_work line v xs p s')) w ≡ Ended (Values vs) s (later n w)

-- `f(args)` gives one value
abbrev pub CallGives : Site → ℕ → Expr → List Expr → Slots → Heap → Value → ℕ → Type 0
CallGives site levels f xs s h v n =
    (x : Expr) (left : Rc Expr Global) (args : Rc (Vec Expr Global) Global) → out-ExprKind x.kind ≡ e.Call left args → left.value ≡ f
    → args.value.items ≡ xs → GivesAt site levels x s h v n

-- `a OPERATOR b` gives a value
abbrev pub BinaryGives : Site → ℕ → BinOp → Expr → Expr → Slots → Heap → Value → ℕ → Type 0
BinaryGives site levels o a b s h v n =
    (x : Expr) (left right : Rc Expr Global) → out-ExprKind x.kind ≡ e.Binary o left right → left.value ≡ a → right.value ≡ b
    → GivesAt site levels x s h v n

-- a function with this body returns values
pub record Returns (site : Site) (levels : ℕ) (stmts : List Stmt) (s : Slots) (h : Heap) (vs : List Value) (n : ℕ) : Type 0 where
  pub is : (S : Setting) (p : Places) (w : State) → Allows site levels S p → w.store.heap ≡ h → w.store.steps + n < step_limit
      → do_work (eval S) (and_then (block stmts p s) (λ sign s'. End (function_end sign) [])) w ≡ Ended (Values vs) [] (later n w)

-- and so does the call of a closure of the program, with few enough functions around it
pub record CallReturns (program : Program) (levels : ℕ) (c : ℕ) (args : List Value) (h : Heap) (vs : List Value) (n : ℕ) : Type 0 where
  pub is : (S : Setting) (callers : List Caller) (w : State) → S.program ≡ program → length callers + levels < most_callers → w.store.heap ≡ h
      → w.store.steps + n < step_limit → eval S (ACall (Closure c) args) (calling callers false) [] w ≡ Ended (Values vs) [] (later n w)

-- a closure has this function of the program, and captured these cells
pub record IsBody (program : Program) (h : Heap) (c : ℕ) (f : Function) (cells : List ℕ) : Type 0 where
  pub number : ℕ
  pub closure : slice_get h.closures c ≡ Some (record { function = number; cells = cells })
  pub there : slice_get program.functions.items number ≡ Some f

-- no value, or one
abbrev pub all_of : Option Value → List Value
all_of None = []
all_of (Some v) = v ∷ []

-- a statement was run at such a place, and ended, or nothing was changed
abbrev pub RunsAt : Site → ℕ → Bool → Stmt → Slots → StoreView → Slots → StoreView → Type 0
RunsAt site levels true st s before s' store =
    (S : Setting) (p : Places) (resumes : List Resume) → Allows site levels S p
    → eval S (AStmt st) p s (state before resumes) ≡ Ended (Values []) s' (state store resumes)
RunsAt site levels false st s before s' store = (s' ≡ s) × (store ≡ before)

-- `f(args)`
pub record IsCall (f : Expr) (xs : List Expr) (st : Stmt) : Type 0 where
  pub call : Expr
  pub left : Rc Expr Global
  pub args : Rc (Vec Expr Global) Global
  pub is_call : out-StmtKind st.kind ≡ k.Call call
  pub calls : out-ExprKind call.kind ≡ e.Call left args
  pub callee : left.value ≡ f
  pub listed : args.value.items ≡ xs

-- `return VALUES`
pub record IsReturn (xs : List Expr) (st : Stmt) : Type 0 where
  pub values : Rc (Vec Expr Global) Global
  pub is_return : out-StmtKind st.kind ≡ k.Return values
  pub listed : values.value.items ≡ xs
