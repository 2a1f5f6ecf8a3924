-- Values that stand over a program and the host's functions: whatever they name, the setting has.
use Rattle.std.specs.Prelude.{◌≡◌, ℕ, ◌+◌, List, length, slice_get, All, IsSomeAnd}
use Rattle.lua_ast.specs.declared.programs.Function.{Function}
use Rattle.lua_values.specs.declared.values.Value.{Value}
use Rattle.lua_values.specs.Heap.{Heap, ClosureView}
use Rattle.lua_values.specs.NativeNumbers.{NamesBelow, HeapNamesBelow}
use Rattle.lua_meaning.specs.Setting.{Setting}

-- the closure is of a function of the program, and has as many cells as that function has captures
abbrev pub IsClosureOver : Setting → ClosureView → Type 0
IsClosureOver S closure =
    IsSomeAnd (slice_get S.program.functions.items closure.function) (λ (f : Function). length closure.cells ≡ length f.captures.items)

-- how many functions of the host a program may call: five, and those of the setting
abbrev pub native_count : Setting → ℕ
native_count S = 5 + S.count

-- all closures and natives of a heap are over the setting
pub record IsHeapOver (S : Setting) (heap : Heap) : Type 0 where
  pub closures : All (IsClosureOver S) heap.closures
  pub natives : HeapNamesBelow (native_count S) heap

-- and the natives among some values
abbrev pub AreOver : Setting → List Value → Type 0
AreOver S values = All (NamesBelow (native_count S)) values
