-- Numeric `for` loops that are run at once (Lua 5.1 Reference Manual, 2.4.5).
use Rattle.std.specs.Prelude.{◌≡◌, ℕ, Bool, true, false, List, [], drop, ℤ}
use Rattle.lua_ast.specs.declared.statements.Stmt.{Stmt}
use Rattle.lua_values.specs.Heap.{StoreView}
use Rattle.lua_operators.specs.declared.arithmetic.ArithmeticOperator.TheVariants.{Add}
use Rattle.lua_operators.specs.ArithmeticOperators.{result_of}
use Rattle.lua_meaning.specs.Works.{Places, Slots, AFor, Work, and_then}
use Rattle.lua_meaning.specs.Setting.{Setting}
use Rattle.lua_meaning.specs.Signs.{give}
use Rattle.lua_meaning.specs.Blocks.{block}
use Rattle.lua_meaning.specs.Loops.{again, after_body, for_next}
use Rattle.lua_vm_fast.specs.declared.counting.Counting.{Counting}
use Rattle.lua_vm_fast.specs.declared.counting.CountEnd.{CountEnd}
use Rattle.lua_vm_fast.specs.declared.counting.CountEnd.TheVariants as count_end
use Rattle.lua_vm_fast.specs.Runs.{Becomes}

-- a run for i comes
abbrev pub run_at : ℕ → Counting → ℤ → List Stmt → Places → Slots → Work
run_at line c i body p s = again (AFor line c.slot i c.limit c.step body) p s

-- what is left of a run for i, whose statements were run up to an index
abbrev pub rest_of_run : Setting → ℕ → Counting → ℤ → ℕ → List Stmt → Places → Slots → Work
rest_of_run S line c i next body p s =
    and_then (block (drop next body) p s) (after_body (for_next S line c.slot (result_of Add i c.step) c.limit c.step body p))

-- what is left of a loop
abbrev pub left_of_count : Setting → ℕ → Counting → CountEnd → List Stmt → Places → Slots → Work
left_of_count S line c count_end.Over body p s = give [] s
left_of_count S line c (count_end.Next i) body p s = run_at line c i body p s
left_of_count S line c (count_end.Body i next) body p s = rest_of_run S line c i next body p s

-- a run for i has begun, or nothing was changed
abbrev pub BeginsRun : Bool → Counting → ℤ → Slots → StoreView → Slots → StoreView → Type 0
BeginsRun true c i s before s' store =
    (S : Setting) (line : ℕ) (body : List Stmt) (p : Places) → Becomes S (run_at line c i body p s) before (rest_of_run S line c i 0 body p s') store
BeginsRun false c i s before s' store = (s' ≡ s) × (store ≡ before)
