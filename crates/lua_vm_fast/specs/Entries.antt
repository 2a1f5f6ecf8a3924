-- Assignments to entries of tables and to global variables, that are done at once (Lua 5.1 Reference Manual, 2.4.3).
use Rattle.std.specs.Prelude.{◌≡◌, ◌<◌, ◌+◌, ℕ, Bool, true, false, List, [], ◌∷◌, None}
use Rattle.std.specs.declared.rc.Rc.{Rc}
use Rattle.std.specs.declared.alloc.Global.{Global}
use Rattle.lua_ast.specs.declared.expressions.Expr.{Expr}
use Rattle.lua_ast.specs.declared.expressions.ExprKind.{out-ExprKind}
use Rattle.lua_ast.specs.declared.expressions.ExprKind.TheOpen as e
use Rattle.lua_ast.specs.declared.statements.Stmt.{Stmt}
use Rattle.lua_values.specs.declared.values.Value.{Value}
use Rattle.lua_values.specs.declared.values.Value.TheVariants.{Table, Text}
use Rattle.lua_values.specs.Heap.{Heap, StoreView, step_limit}
use Rattle.lua_values.specs.Pairs.{value_at}
use Rattle.lua_values.specs.Values.{is_nil}
use Rattle.lua_values.specs.StoreCalls.{table_of, pairs_of, set_cause, with_pair}
use Rattle.lua_meaning.specs.Works.{Slots}
use Rattle.lua_vm_fast.specs.declared.entries.Entry.{Entry}
use Rattle.lua_vm_fast.specs.declared.entries.Object.{Object}
use Rattle.lua_vm_fast.specs.declared.entries.Spot.{Spot}
use Rattle.lua_vm_fast.specs.Gives.{Gives}
use Rattle.lua_vm_fast.specs.Runs.{IsAssignments}

-- `a[b] = x`
pub record IsStore (a b x : Expr) (st : Stmt) : Type 0 where
  pub target : Expr
  pub left : Rc Expr Global
  pub right : Rc Expr Global
  pub assignments : IsAssignments (target ∷ []) (x ∷ []) st
  pub is_index : out-ExprKind target.kind ≡ e.Index left right
  pub object : left.value ≡ a
  pub key : right.value ≡ b

-- `NAME = x` of a global variable
pub record IsGlobal (name : List ℕ) (x : Expr) (st : Stmt) : Type 0 where
  pub target : Expr
  pub assignments : IsAssignments (target ∷ []) (x ∷ []) st
  pub is_global : out-ExprKind target.kind ≡ e.Global name

-- what `a[b] = x` sets
pub record SetsEntry (a b x : Expr) (s : Slots) (h : Heap) (entry : Entry) : Type 0 where
  pub object_steps : ℕ
  pub key_steps : ℕ
  pub value_steps : ℕ
  pub object : Gives a s h (Table entry.table) object_steps
  pub key : Gives b s h entry.key key_steps
  pub value : Gives x s h entry.value value_steps
  pub sum : entry.steps ≡ object_steps + key_steps + value_steps

-- what `NAME = x` sets
pub record SetsGlobal (name : List ℕ) (x : Expr) (s : Slots) (h : Heap) (entry : Entry) : Type 0 where
  pub table : entry.table ≡ h.globals
  pub key : entry.key ≡ Text name
  pub value : Gives x s h entry.value entry.steps

-- an assignment at a key of a table asks no metatable
abbrev pub IsOwn : Heap → ℕ → Value → Type 0
IsOwn h t key = is_nil (value_at (pairs_of h t) key) ≡ true → (table_of h t).meta ≡ None

-- an entry was set, and its steps and two more are counted
pub record Puts (entry : Entry) (before store : StoreView) : Type 0 where
  pub few : before.steps + (entry.steps + 2) < step_limit
  pub own : IsOwn before.heap entry.table entry.key
  pub allowed : set_cause before.heap entry.table entry.key entry.value ≡ None
  pub is : store ≡ record { heap = with_pair before.heap entry.table entry.key entry.value; steps = before.steps + (entry.steps + 2) }

-- or nothing was changed
abbrev pub PutsIf : Bool → Entry → StoreView → StoreView → Type 0
PutsIf true entry before store = Puts entry before store
PutsIf false entry before store = store ≡ before

-- an entry was set at a key of a table, to the value of x
pub record Stores (spot : Spot) (x : Expr) (s : Slots) (before store : StoreView) : Type 0 where
  pub entry : Entry
  pub value_steps : ℕ
  pub table : entry.table ≡ spot.table
  pub key : entry.key ≡ spot.key
  pub value : Gives x s before.heap entry.value value_steps
  pub sum : entry.steps ≡ spot.steps + value_steps
  pub puts : Puts entry before store

-- or nothing was changed
abbrev pub StoresAt : Bool → Spot → Expr → Slots → StoreView → StoreView → Type 0
StoresAt true spot x s before store = Stores spot x s before store
StoresAt false spot x s before store = store ≡ before

-- an entry of a table was set at the value of b, to the value of x
pub record StoresKey (object : Object) (b x : Expr) (s : Slots) (before store : StoreView) : Type 0 where
  pub spot : Spot
  pub key_steps : ℕ
  pub table : spot.table ≡ object.table
  pub key : Gives b s before.heap spot.key key_steps
  pub sum : spot.steps ≡ object.steps + key_steps
  pub stores : Stores spot x s before store

-- or nothing was changed
abbrev pub StoresIn : Bool → Object → Expr → Expr → Slots → StoreView → StoreView → Type 0
StoresIn true object b x s before store = StoresKey object b x s before store
StoresIn false object b x s before store = store ≡ before
