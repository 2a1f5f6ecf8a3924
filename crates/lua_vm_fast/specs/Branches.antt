-- `if` statements that are run at once (Lua 5.1 Reference Manual, 2.4.4).
use Rattle.std.specs.Prelude.{◌≡◌, ℕ, ◌+◌, ◌<◌, List}
use Rattle.std.specs.declared.rc.Rc.{Rc}
use Rattle.std.specs.declared.vec.Vec.{Vec}
use Rattle.std.specs.declared.alloc.Global.{Global}
use Rattle.lua_ast.specs.declared.statements.Arm.{Arm}
use Rattle.lua_ast.specs.declared.statements.Stmt.{Stmt}
use Rattle.lua_ast.specs.declared.statements.StmtKind.{out-StmtKind}
use Rattle.lua_ast.specs.declared.statements.StmtKind.TheOpen as k
use Rattle.lua_values.specs.Heap.{Heap, step_limit}
use Rattle.lua_meaning.specs.Works.{Places, Slots}
use Rattle.lua_meaning.specs.Evaluator.{State, do_work}
use Rattle.lua_meaning.specs.Setting.{Setting}
use Rattle.lua_meaning.specs.Blocks.{block}
use Rattle.lua_meaning.specs.Statements.{if_work}
use Rattle.lua_meaning.specs.Nodes.{eval}
use Rattle.lua_vm_fast.specs.Gives.{later}

-- `if` with these arms and this last block comes to a block, whose tests count n steps, wherever it is with these variables and this heap
pub record Chooses (arms : List Arm) (last : List Stmt) (s : Slots) (h : Heap) (body : List Stmt) (n : ℕ) : Type 0 where
  pub is : (S : Setting) (p : Places) (w : State) → w.store.heap ≡ h → w.store.steps + n < step_limit
      → do_work (eval S) (if_work arms last p s) w ≡ do_work (eval S) (block body p s) (later n w)

-- `if` with these arms and this last block
pub record IsIf (arms : List Arm) (last : List Stmt) (st : Stmt) : Type 0 where
  pub tests : Rc (Vec Arm Global) Global
  pub otherwise : Rc (Vec Stmt Global) Global
  pub is_if : out-StmtKind st.kind ≡ k.If tests otherwise
  pub armed : tests.value.items ≡ arms
  pub ended : otherwise.value.items ≡ last
