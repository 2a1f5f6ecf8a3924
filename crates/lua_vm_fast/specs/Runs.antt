-- Statements and loops that are run at once (Lua 5.1 Reference Manual, 2.4).
use Rattle.std.specs.Prelude.{◌≡◌, ◌+◌, ◌<◌, ℕ, Bool, true, false, List, [], ◌∷◌, drop, slice_set, Option, Some, if◌then◌else◌}
use Rattle.std.specs.declared.rc.Rc.{Rc}
use Rattle.std.specs.declared.vec.Vec.{Vec}
use Rattle.std.specs.declared.alloc.Global.{Global}
use Rattle.lua_ast.specs.declared.expressions.Expr.{Expr}
use Rattle.lua_ast.specs.declared.expressions.ExprKind.{out-ExprKind}
use Rattle.lua_ast.specs.declared.expressions.ExprKind.TheOpen as e
use Rattle.lua_ast.specs.declared.statements.Stmt.{Stmt}
use Rattle.lua_ast.specs.declared.statements.StmtKind.{out-StmtKind}
use Rattle.lua_ast.specs.declared.statements.StmtKind.TheOpen as k
use Rattle.lua_values.specs.declared.values.Value.{Value}
use Rattle.lua_values.specs.Heap.{StoreView, step_limit}
use Rattle.lua_meaning.specs.declared.slots.Slot.{Slot}
use Rattle.lua_meaning.specs.declared.slots.Slot.TheVariants.{Plain}
use Rattle.lua_meaning.specs.Works.{Places, Slots, AStmt, Values, Work, and_then}
use Rattle.lua_meaning.specs.Evaluator.{Resume, State, Ended, do_work}
use Rattle.lua_meaning.specs.Setting.{Setting}
use Rattle.lua_meaning.specs.Signs.{give}
use Rattle.lua_meaning.specs.Blocks.{block}
use Rattle.lua_meaning.specs.Loops.{after_body, while_work, turn_work}
use Rattle.lua_meaning.specs.Nodes.{eval}
use Rattle.lua_vm_fast.specs.Gives.{counting}
use Rattle.lua_vm_fast.specs.declared.loops.LoopEnd.{LoopEnd}
use Rattle.lua_vm_fast.specs.declared.loops.LoopEnd.TheVariants as loop_end

abbrev pub state : StoreView → List Resume → State
state store resumes = record { store = store; resumes = resumes }

-- work in a store becomes other work in another one, whatever the thread is resumed with
abbrev pub Becomes : Setting → Work → StoreView → Work → StoreView → Type 0
Becomes S q before q' store = (resumes : List Resume) → do_work (eval S) q (state before resumes) ≡ do_work (eval S) q' (state store resumes)

-- a statement was run, and ended, or nothing was changed
abbrev pub RunsIf : Bool → Stmt → Slots → StoreView → Slots → StoreView → Type 0
RunsIf true st s before s' store =
    (S : Setting) (p : Places) (resumes : List Resume) → eval S (AStmt st) p s (state before resumes) ≡ Ended (Values []) s' (state store resumes)
RunsIf false st s before s' store = (s' ≡ s) × (store ≡ before)

-- a slot got a value of its own, and n steps are counted
pub record Sets (i : ℕ) (v : Value) (n : ℕ) (s : Slots) (before : StoreView) (s' : Slots) (store : StoreView) : Type 0 where
  pub few : before.steps + n < step_limit
  pub set : s' ≡ slice_set s i (Plain v)
  pub is : store ≡ counting n before

-- or nothing was changed
abbrev pub SetsIf : Bool → ℕ → Value → ℕ → Slots → StoreView → Slots → StoreView → Type 0
SetsIf true i v n s before s' store = Sets i v n s before s' store
SetsIf false i v n s before s' store = (s' ≡ s) × (store ≡ before)

-- `local NAMES = VALUES`, of the variables in these slots
pub record IsLocals (places : List ℕ) (xs : List Expr) (st : Stmt) : Type 0 where
  pub slots : Rc (Vec ℕ Global) Global
  pub values : Rc (Vec Expr Global) Global
  pub is_local : out-StmtKind st.kind ≡ k.Local slots values
  pub in_slots : slots.value.items ≡ places
  pub listed : values.value.items ≡ xs

-- `TARGETS = VALUES`
pub record IsAssignments (ts xs : List Expr) (st : Stmt) : Type 0 where
  pub targets : Rc (Vec Expr Global) Global
  pub values : Rc (Vec Expr Global) Global
  pub is_assignment : out-StmtKind st.kind ≡ k.Assign targets values
  pub aimed : targets.value.items ≡ ts
  pub listed : values.value.items ≡ xs

-- `NAME = x`, of the variable in a slot
pub record IsAssignment (i : ℕ) (x : Expr) (st : Stmt) : Type 0 where
  pub target : Expr
  pub assignments : IsAssignments (target ∷ []) (x ∷ []) st
  pub is_slot : out-ExprKind target.kind ≡ e.Slot i

-- the test of `while` was evaluated; where it holds, a turn has begun, whose step is counted
abbrev pub Tests : Expr → Slots → Bool → StoreView → StoreView → Type 0
Tests test s holds before store =
    (S : Setting) (body : List Stmt) (p : Places)
    → Becomes S (while_work test body p s) before (if holds then turn_work test body p s else give [] s) store

-- what is left of a loop
abbrev pub left_of : LoopEnd → Expr → List Stmt → Places → Slots → Work
left_of loop_end.Over test body p s = give [] s
left_of loop_end.Test test body p s = while_work test body p s
left_of (loop_end.Body next) test body p s = and_then (block (drop next body) p s) (after_body (while_work test body p))

-- a slot has a value of its own
abbrev pub is_plain : Option Slot → Bool
is_plain (Some (Plain v)) = true
is_plain slot = false
