use Rattle.std.proofs.Common.{ℕ, ◌<◌, get_or}
use Rattle.lua_ast.specs.declared.statements.Stmt.{Stmt}
use Rattle.lua_ast.specs.declared.statements.Arm.{Arm}
use Rattle.lua_linking.specs.Raising.{RaisedStmt, RaisedArm}
use Rattle.lua_linking.proofs.statements.+raise_block.Given as goal

abbrev pub invariant-raise_block-loop-i : goal.invariant-raise_block-loop-i
invariant-raise_block-loop-i l =
    goal.unvisited-raise_block-loop-i l
    × ((k : ℕ) (d : Stmt) → k < l.i → RaisedStmt l.by (get_or l.initial.stmts.items k d) (get_or l.stmts.items k d))

abbrev pub invariant-raise_arms-loop-i : goal.invariant-raise_arms-loop-i
invariant-raise_arms-loop-i l =
    goal.unvisited-raise_arms-loop-i l
    × ((k : ℕ) (d : Arm) → k < l.i → RaisedArm l.by (get_or l.initial.arms.items k d) (get_or l.arms.items k d))
