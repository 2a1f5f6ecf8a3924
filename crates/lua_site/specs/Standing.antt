-- What a started store stands over: a program and the functions of the host. A form of this project.
use Rattle.std.specs.Prelude.{◌≡◌, ℕ, ◌≤◌, ◌<◌, List, [], ◌∷◌, length, Option, IfSome, Ok, All}
use Rattle.lua_values.specs.declared.values.Value.{Value}
use Rattle.lua_values.specs.Heap.{Heap, StoreView}
use Rattle.lua_values.specs.Fits.{FitsItself, IsNoShorter}
use Rattle.lua_values.specs.NativeCalls.{IsKnown}
use Rattle.lua_modules.specs.Sets.{Lists, IsChunk}
use Rattle.lua_meaning.specs.Evaluator.{Resume}
use Rattle.lua_meaning.specs.Life.{Done}
use Rattle.lua_meaning.specs.Setting.{Setting}
use Rattle.lua_meaning.specs.Over.{IsHeapOver, native_count}
use Rattle.lua_site.specs.Calls.{Life}
use Rattle.lua_site.specs.Starting.{Start, started}

-- all that a heap names is there: in it, in the program, or among the functions of the host
pub record Stands (S : Setting) (heap : Heap) : Type 0 where
  pub fits : FitsItself heap
  pub over : IsHeapOver S heap

-- a call of what is there with what is there, if it is done, leaves a heap that stands, in which no list is shorter
abbrev pub KeepsStanding : Setting → Life → Type 0
KeepsStanding S life =
    (f : Value) (args : List Value) (r : Resume) (vs : List Value) (store : StoreView)
    → Stands S r.store.heap → IsKnown (native_count S) r.store.heap f → All (IsKnown (native_count S) r.store.heap) args
    → life f args (r ∷ []) ≡ Done vs store → Stands S store.heap × IsNoShorter r.store.heap store.heap

-- each number in the lists is that of a chunk of the program
pub record AreChunks (S : Setting) (lists : Lists) : Type 0 where
  pub preludes : All (IsChunk S.program.functions.items) lists.preludes
  pub modules : All (λ m. IsChunk S.program.functions.items m.function) lists.modules
  pub blocks : All (IsChunk S.program.functions.items) lists.blocks

-- the store stands, and the blocks' closures are there
pub record IsStanding (S : Setting) (start : Start) : Type 0 where
  pub store : Stands S start.store.heap
  pub blocks : All (λ c. c < length start.store.heap.closures) start.blocks

abbrev pub StartsStand : Type 0
StartsStand =
    (S : Setting) (life : Life) (natives : ℕ) (lists : Lists) (init : Option ℕ) (start : Start)
    → KeepsStanding S life → natives ≤ native_count S → AreChunks S lists → IfSome init (λ b. b < length lists.blocks)
    → started life natives lists init ≡ Ok start → IsStanding S start
