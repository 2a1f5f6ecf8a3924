-- What a function of the library leaves.
use Rattle.std.specs.Prelude.{ℕ, List, All}
use Rattle.lua_values.specs.declared.values.Value.{Value}
use Rattle.lua_values.specs.Heap.{Heap}
use Rattle.lua_values.specs.NativeCalls.{LeavesHeap, LeavesLawfully, IsKnown}
use Rattle.lua_lib_base.specs.Results.{LibraryResult, Gave, Refused, Left, counted}

-- it leaves a heap as a library may, and the values that it gives are known there
abbrev pub IsLawfulResult : ℕ → Heap → LibraryResult → Type 0
IsLawfulResult bound old (Gave values heap work) = LeavesHeap bound old heap × All (IsKnown bound heap) values
IsLawfulResult bound old (Refused refusal heap work) = LeavesHeap bound old heap
IsLawfulResult bound old Left = Unit {0}

-- counting its steps and making the text of its fault changes nothing of that
abbrev pub CountingKeepsLawful : Type 0
CountingKeepsLawful =
    (bound : ℕ) (name : List ℕ) (args : List Value) (old : Heap) (result : LibraryResult)
    → IsLawfulResult bound old result → LeavesLawfully bound old (counted name args result)
