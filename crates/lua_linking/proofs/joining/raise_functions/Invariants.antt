use Rattle.std.proofs.Common.{◌≡◌, ℕ, ◌<◌, ◌≤◌, get_or, length}
use Rattle.lua_ast.specs.declared.programs.Function.{Function}
use Rattle.lua_linking.specs.Raising.{RaisedFunction}
use Rattle.lua_linking.proofs.joining.raise_functions.Given as goal

abbrev pub invariant-loop-i : goal.invariant-loop-i
invariant-loop-i l =
    (length l.functions ≡ length l.initial.functions) × ((k : ℕ) (d : Function) → l.i ≤ k → get_or l.functions k d ≡ get_or l.initial.functions k d)
    × ((k : ℕ) (d : Function) → k < l.i → RaisedFunction l.by l.files (get_or l.initial.functions k d) (get_or l.functions k d))
