-- What a call leaves of a heap in which all that is named is there.
use Rattle.std.specs.Prelude.{List, [], ◌∷◌, All}
use Rattle.lua_ast.specs.WholeProgram.{IsWholeProgram}
use Rattle.lua_values.specs.declared.values.Value.{Value}
use Rattle.lua_values.specs.Heap.{Heap}
use Rattle.lua_values.specs.Fits.{FitsItself}
use Rattle.lua_values.specs.NativeCalls.{IsKnown, KeepsFrozen, IsLawful}
use Rattle.lua_meaning.specs.Evaluator.{Resume}
use Rattle.lua_meaning.specs.Life.{Outcome, Done, Failure, Asks, OutOfSteps, Unbegun, life}
use Rattle.lua_meaning.specs.Setting.{Setting}
use Rattle.lua_meaning.specs.Over.{IsHeapOver, native_count}

-- all that a heap names is there: in it, in the program, or among the functions of the host
pub record Stands (S : Setting) (heap : Heap) : Type 0 where
  pub fits : FitsItself heap
  pub over : IsHeapOver S heap

-- what the value names is there
abbrev pub Known : Setting → Heap → Value → Type 0
Known S heap value = IsKnown (native_count S) heap value

-- the new heap stands, no list of it is shorter, and all that was frozen is as it was
pub record StandsAfter (S : Setting) (old new : Heap) : Type 0 where
  pub stands : Stands S new
  pub frozen : KeepsFrozen old new

-- The heap that a call leaves keeps standing, and what the call gives, fails with or asks is known there. Of a call that has
-- spent its steps no heap is left.
abbrev pub LeavesStanding : Setting → Heap → Outcome → Type 0
LeavesStanding S old (Done vs store) = StandsAfter S old store.heap × All (Known S store.heap) vs
LeavesStanding S old (Failure v store) = StandsAfter S old store.heap × Known S store.heap v
LeavesStanding S old (Asks number args position store) = StandsAfter S old store.heap × All (Known S store.heap) args
LeavesStanding S old OutOfSteps = Unit {0}
LeavesStanding S old Unbegun = Unit {0}

-- Where the program is whole and its host lawful, a call of what is there with what is there leaves such a heap, as it is
-- done, fails or first asks the outside.
abbrev pub CallsKeepStanding : Type 0
CallsKeepStanding =
    (S : Setting) (f : Value) (args : List Value) (r : Resume) → IsWholeProgram S.program → IsLawful (native_count S) S.count S.lib
    → Stands S r.store.heap → Known S r.store.heap f → All (Known S r.store.heap) args → LeavesStanding S r.store.heap (life S f args (r ∷ []))
