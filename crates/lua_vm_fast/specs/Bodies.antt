-- Blocks that give values to variables of their own function alone, which are run at once (Lua 5.1 Reference Manual, 2.4).
use Rattle.std.specs.Prelude.{◌≡◌, ℕ, ◌+◌, ◌<◌, List, [], ◌∷◌, slice_set}
use Rattle.lua_ast.specs.declared.statements.Stmt.{Stmt}
use Rattle.lua_values.specs.declared.values.Value.{Value}
use Rattle.lua_values.specs.Heap.{Heap, step_limit}
use Rattle.lua_meaning.specs.declared.slots.Slot.TheVariants.{Plain}
use Rattle.lua_meaning.specs.Works.{Places, Slots, AStmt, Sign, Values, Return}
use Rattle.lua_meaning.specs.Evaluator.{State, Ended, do_work}
use Rattle.lua_meaning.specs.Setting.{Setting}
use Rattle.lua_meaning.specs.Blocks.{block}
use Rattle.lua_meaning.specs.Nodes.{eval}
use Rattle.lua_vm_fast.specs.declared.calls.Site.{Site}
use Rattle.lua_vm_fast.specs.declared.bodies.End.{End}
use Rattle.lua_vm_fast.specs.declared.bodies.End.TheVariants as end
use Rattle.lua_vm_fast.specs.declared.bodies.Plan.{Plan}
use Rattle.lua_vm_fast.specs.declared.bodies.Plan.TheVariants as plan
use Rattle.lua_vm_fast.specs.Gives.{later}
use Rattle.lua_vm_fast.specs.Calls.{Allows, GivesAt, all_of}

-- a statement ends so at such a place, with these variables and this heap, and counts n steps; nothing but its variables is changed
pub record StmtEnds (site : Site) (levels : ℕ) (st : Stmt) (s : Slots) (h : Heap) (sign : Sign) (s' : Slots) (n : ℕ) : Type 0 where
  pub is : (S : Setting) (p : Places) (w : State) → Allows site levels S p → w.store.heap ≡ h → w.store.steps + n < step_limit
      → eval S (AStmt st) p s w ≡ Ended sign s' (later n w)

-- and a block
pub record BlockEnds (site : Site) (levels : ℕ) (stmts : List Stmt) (s : Slots) (h : Heap) (sign : Sign) (s' : Slots) (n : ℕ) : Type 0 where
  pub is : (S : Setting) (p : Places) (w : State) → Allows site levels S p → w.store.heap ≡ h → w.store.steps + n < step_limit
      → do_work (eval S) (block stmts p s) w ≡ Ended sign s' (later n w)

-- what comes after it is next, or its function returns
abbrev pub sign_of : End → Sign
sign_of end.Went = Values []
sign_of (end.Returned value) = Return (all_of value)

-- with these variables and this heap a statement does what its plan says, once the plan's expression gave a value
abbrev pub Follows : Plan → Stmt → Slots → Heap → Type 0
Follows (plan.Sets i x more) st s h =
    (site : Site) (levels : ℕ) (v : Value) (n : ℕ) → GivesAt site levels x.now s h v n
    → StmtEnds site levels st s h (Values []) (slice_set s i (Plain v)) (n + more)
Follows (plan.Counts more) st s h = (site : Site) (levels : ℕ) → StmtEnds site levels st s h (Values []) s more
Follows (plan.Gives x) st s h =
    (site : Site) (levels : ℕ) (v : Value) (n : ℕ) → GivesAt site levels x.now s h v n → StmtEnds site levels st s h (Return (v ∷ [])) s (n + 1)
Follows plan.Leaves st s h = (site : Site) (levels : ℕ) → StmtEnds site levels st s h (Return []) s 1

-- how many steps a plan counts besides those of its expression
abbrev pub more_of : Plan → ℕ
more_of (plan.Sets i x more) = more
more_of (plan.Counts more) = more
more_of (plan.Gives x) = 1
more_of plan.Leaves = 1
