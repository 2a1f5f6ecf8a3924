-- Expressions whose value is known from the local variables and the heap alone (Lua 5.1 Reference Manual, 2.5).
use Rattle.std.specs.Prelude.{◌≡◌, ℕ, ◌+◌, ◌/◌, ◌<◌, Bool, true, false, not, if◌then◌else◌, List, [], ◌∷◌, length, ℤ}
use Rattle.std.specs.declared.rc.Rc.{Rc}
use Rattle.std.specs.declared.alloc.Global.{Global}
use Rattle.lua_ast.specs.declared.expressions.BinOp.{BinOp}
use Rattle.lua_ast.specs.declared.expressions.Expr.{Expr}
use Rattle.lua_ast.specs.declared.expressions.ExprKind.{out-ExprKind}
use Rattle.lua_ast.specs.declared.expressions.ExprKind.TheOpen as e
use Rattle.lua_values.specs.declared.values.Value.{Value}
use Rattle.lua_values.specs.declared.values.Value.TheVariants.{Truth, Number, Text, Table}
use Rattle.lua_values.specs.Heap.{Heap, StoreView, step_limit, bytes_of_a_step}
use Rattle.lua_operators.specs.declared.outcome.Outcome.TheVariants as outcome
use Rattle.lua_operators.specs.Comparison.{equality}
use Rattle.lua_operators.specs.Types.{is_truthy}
use Rattle.lua_meaning.specs.Works.{Caller, Places, Slots, AValue, AnExpr, Values}
use Rattle.lua_meaning.specs.Evaluator.{State, Ended, do_work}
use Rattle.lua_meaning.specs.Setting.{Setting}
use Rattle.lua_meaning.specs.Signs.{give_one}
use Rattle.lua_meaning.specs.Comparison.{equality_work}
use Rattle.lua_meaning.specs.Operators.{binary_work}
use Rattle.lua_meaning.specs.Indexing.{index_work}
use Rattle.lua_meaning.specs.Nodes.{eval}
use Rattle.lua_vm_fast.specs.declared.places.Valued.{Valued}
use Rattle.lua_vm_fast.specs.declared.tests.Tested.{Tested}

-- n steps more
abbrev pub counting : ℕ → StoreView → StoreView
counting n store = record { heap = store.heap; steps = store.steps + n }

abbrev pub later : ℕ → State → State
later n w = record w { store = counting n w.store }

-- An expression gives a value and counts n steps, wherever it is evaluated with these variables and this heap, if the steps are left.
-- Nothing else is changed.
pub record Gives (x : Expr) (s : Slots) (h : Heap) (v : Value) (n : ℕ) : Type 0 where
  pub one : (S : Setting) (p : Places) (w : State) → w.store.heap ≡ h → w.store.steps + n < step_limit
      → eval S (AValue x) p s w ≡ Ended (Values (v ∷ [])) s (later n w)
  pub all : (S : Setting) (p : Places) (w : State) → w.store.heap ≡ h → w.store.steps + n < step_limit
      → eval S (AnExpr x) p s w ≡ Ended (Values (v ∷ [])) s (later n w)

-- the same of a test: it holds where the value is neither false nor nil (section 2.4.4)
pub record Tells (x : Expr) (s : Slots) (h : Heap) (holds : Bool) (n : ℕ) : Type 0 where
  pub value : Value
  pub gives : Gives x s h value n
  pub is : is_truthy value ≡ holds

-- `a and b` as a test, or `a or b` where false is given
abbrev pub TellsJoined : Bool → Expr → Expr → Slots → Heap → Bool → ℕ → Type 0
TellsJoined true a b s h holds n =
    (x : Expr) (left right : Rc Expr Global) → out-ExprKind x.kind ≡ e.And left right → left.value ≡ a → right.value ≡ b → Tells x s h holds n
TellsJoined false a b s h holds n =
    (x : Expr) (left right : Rc Expr Global) → out-ExprKind x.kind ≡ e.Or left right → left.value ≡ a → right.value ≡ b → Tells x s h holds n

-- an operator gives a value on two numbers, without a fault
abbrev pub Operates : BinOp → ℤ → ℤ → Value → Type 0
Operates o a b v = (S : Setting) (callers : List Caller) (s : Slots) → binary_work S callers o (Number a) (Number b) s ≡ give_one v s

-- `a OPERATOR b` gives a value
abbrev pub GivesBinary : BinOp → Expr → Expr → Slots → Heap → Value → ℕ → Type 0
GivesBinary o a b s h v n =
    (x : Expr) (left right : Rc Expr Global) → out-ExprKind x.kind ≡ e.Binary o left right → left.value ≡ a → right.value ≡ b → Gives x s h v n

-- an operator is `==`, or `~=` where false is wanted
abbrev pub Equates : BinOp → Bool → Type 0
Equates o wanted = (S : Setting) (callers : List Caller) (a b : Value) (s : Slots) → binary_work S callers o a b s ≡ equality_work S callers wanted a b s

-- how many steps are counted for the bytes of two values that are compared
abbrev pub text_steps : Value → Value → ℕ
text_steps (Text a) (Text b) = (length a + length b) / bytes_of_a_step
text_steps a b = 0

-- two values are compared by `==`, or by `~=` where false is wanted, without a metatable
pub record Compares (wanted : Bool) (a b : Valued) (t : Tested) : Type 0 where
  pub same : Bool
  pub told : equality a.value b.value ≡ outcome.Gives (Truth same)
  pub holds : t.holds ≡ (if wanted then same else not same)
  pub steps : t.steps ≡ a.steps + b.steps + 1 + text_steps a.value b.value

-- `t[key]` of a table gives a value and counts n steps, wherever it is evaluated with this heap, if the steps are left. Nothing else is changed.
pub record HasAt (h : Heap) (t : ℕ) (key v : Value) (n : ℕ) : Type 0 where
  pub is : (S : Setting) (line : ℕ) (p : Places) (s : Slots) (w : State) → w.store.heap ≡ h → w.store.steps + n < step_limit
      → do_work (eval S) (index_work S line (Table t) key p s) w ≡ Ended (Values (v ∷ [])) s (later n w)

-- the same, with so many steps before it
pub record HasAfter (h : Heap) (t : ℕ) (key v : Value) (before n : ℕ) : Type 0 where
  pub links : ℕ
  pub has : HasAt h t key v links
  pub sum : n ≡ before + links

-- the same of `t[x]`
pub record HasIn (h : Heap) (t : ℕ) (x : Expr) (s : Slots) (v : Value) (before n : ℕ) : Type 0 where
  pub key : Value
  pub key_steps : ℕ
  pub gives : Gives x s h key key_steps
  pub has : HasAfter h t key v (before + key_steps + 1) n

-- a global variable gives a value
abbrev pub GivesGlobal : List ℕ → Heap → Value → ℕ → Type 0
GivesGlobal name h v n = (x : Expr) (s : Slots) → out-ExprKind x.kind ≡ e.Global name → Gives x s h v n

-- `a[b]` gives a value
abbrev pub GivesIndex : Expr → Expr → Slots → Heap → Value → ℕ → Type 0
GivesIndex a b s h v n =
    (x : Expr) (left right : Rc Expr Global) → out-ExprKind x.kind ≡ e.Index left right → left.value ≡ a → right.value ≡ b → Gives x s h v n
