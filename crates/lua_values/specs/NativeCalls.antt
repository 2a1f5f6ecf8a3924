-- The functions of the host that a program may call (C functions in the Lua 5.1 Reference Manual, section 3.6): what each number means, as a function
-- of its arguments and of the heap.
use Rattle.std.specs.Prelude.{◌≡◌, ℕ, ◌+◌, ◌-◌, ◌<◌, nat_lt, min, List, take, All, if◌then◌else◌}
use Rattle.lua_values.specs.declared.values.Value.{Value}
use Rattle.lua_values.specs.declared.natives.NativeOut.{NativeOut}
use Rattle.lua_values.specs.declared.natives.NativeOut.TheVariants.{Values, Fault, Outside, Memory}
use Rattle.lua_values.specs.Heap.{Heap, StoreView, step_limit}
use Rattle.lua_values.specs.Fits.{Fits, FitsItself, IsNoShorter}
use Rattle.lua_values.specs.NativeNumbers.{NamesBelow, HeapNamesBelow}

-- what a call means: it gives values or faults with a value, and leaves a heap, or it leaves its answer to the outside;
-- each with a count of steps
pub data NativeResult : Type 0 where
  Gives : (values : List Value) (heap : Heap) (steps : ℕ) → NativeResult
  Faults : (value : Value) (heap : Heap) (steps : ℕ) → NativeResult
  Leaves : (steps : ℕ) → NativeResult

-- the meaning of each number
abbrev pub Meaning : Type 0
Meaning = ℕ → List Value → Heap → NativeResult

abbrev pub steps_of : NativeResult → ℕ
steps_of (Gives values heap steps) = steps
steps_of (Faults value heap steps) = steps
steps_of (Leaves steps) = steps

-- the answer and the heap are those that are meant
abbrev pub IsAnswer : NativeResult → Heap → NativeOut → Heap → Type 0
IsAnswer (Gives values heap steps) old (Values answer) new = (answer ≡ values) × (new ≡ heap)
IsAnswer (Faults value heap steps) old (Fault answer) new = (answer ≡ value) × (new ≡ heap)
IsAnswer (Leaves steps) old Outside new = new ≡ old
IsAnswer result old answer new = ⊥

-- A call counts its steps, to at most the limit. Where they stay below it, its answer and its heap are those that are
-- meant; at the limit nothing else is said of them, since the program ends there.
pub record Counts (result : NativeResult) (old : StoreView) (answer : NativeOut) (new : StoreView) : Type 0 where
  pub steps : new.steps ≡ min step_limit (old.steps + steps_of result)
  pub meant : new.steps < step_limit → IsAnswer result old.heap answer new.heap

-- a call gives what is meant, or `Memory`, after which nothing is said of the store
abbrev pub Answers : NativeResult → StoreView → NativeOut → StoreView → Type 0
Answers result old Memory new = Unit {0}
Answers result old (Values answer) new = Counts result old (Values answer) new
Answers result old (Fault answer) new = Counts result old (Fault answer) new
Answers result old Outside new = Counts result old Outside new

-- two meanings in a row: the numbers below the count of the first are its own
abbrev pub both : ℕ → Meaning → Meaning → Meaning
both count first second number args heap = if nat_lt number count then first number args heap else second (number - count) args heap

-- what a heap keeps in a call: its base and all that is frozen, and no list gets shorter
pub record KeepsFrozen (old new : Heap) : Type 0 where
  pub base : new.base ≡ old.base
  pub tables : take old.base.tables new.tables ≡ take old.base.tables old.tables
  pub cells : take old.base.cells new.cells ≡ take old.base.cells old.cells
  pub closures : take old.base.closures new.closures ≡ take old.base.closures old.closures
  pub no_shorter : IsNoShorter old new

-- what a call leaves of a heap: it keeps what is frozen and has the same closures, fits itself, and names only natives
-- below the bound
pub record LeavesHeap (bound : ℕ) (old new : Heap) : Type 0 where
  pub frozen : KeepsFrozen old new
  pub closures : new.closures ≡ old.closures
  pub fits : FitsItself new
  pub natives : HeapNamesBelow bound new

-- the value fits the heap, and if it is a native, it is one below the bound
abbrev pub IsKnown : ℕ → Heap → Value → Type 0
IsKnown bound heap value = Fits heap value × NamesBelow bound value

-- what a call leaves of the heap, and that its answer is known there
abbrev pub LeavesLawfully : ℕ → Heap → NativeResult → Type 0
LeavesLawfully bound old (Gives values heap steps) = LeavesHeap bound old heap × All (IsKnown bound heap) values
LeavesLawfully bound old (Faults value heap steps) = LeavesHeap bound old heap × IsKnown bound heap value
LeavesLawfully bound old (Leaves steps) = Unit {0}

-- The law of a library, where a program may call the natives below the bound: each of the library's numbers leaves a heap
-- so, if the heap and the arguments were so. It makes no closure, and adds no native from the bound on.
abbrev pub IsLawful : ℕ → ℕ → Meaning → Type 0
IsLawful bound count meaning =
    (number : ℕ) (args : List Value) (heap : Heap) → number < count → FitsItself heap → HeapNamesBelow bound heap → All (IsKnown bound heap) args
    → LeavesLawfully bound heap (meaning number args heap)
