-- Threads of a machine: what each resume leaves.
use Rattle.std.specs.Prelude.{◌≡◌, ℕ, List, ◌∷◌, ◌++◌, Option, All}
use Rattle.lua_values.specs.declared.values.Value.{Value}
use Rattle.lua_values.specs.Heap.{Heap, StoreView}
use Rattle.lua_meaning.specs.declared.positions.Position.{Position}
use Rattle.lua_meaning.specs.Evaluator.{Resume}
use Rattle.lua_meaning.specs.Life.{Asks, life}
use Rattle.lua_meaning.specs.Setting.{Setting}
use Rattle.lua_meaning_laws.specs.Standing.{Known, StandsAfter}
use Rattle.lua_meaning_laws.specs.Lives.{CanBegin, ComesAfter, OutsideKeeps}
use Rattle.lua_machine.specs.Finishes.{Finish, IsNew, Resumes}
use Rattle.lua_machine.specs.declared.slices.Slice.{Slice}
use Rattle.lua_machine.specs.declared.slices.Slice.TheVariants as slice

-- A thread that asked in this heap is what is left of a call, which was resumed so far by an outside that keeps to what is there.
pub record HasAsked (S : Setting) (finish : Finish) (left : Heap) : Type 0 where
  pub f : Value
  pub args : List Value
  pub first : Resume
  pub past : List Resume
  pub number : ℕ
  pub asked : List Value
  pub position : Option Position
  pub store : StoreView
  pub begins : CanBegin S f args first.store.heap
  pub outside : OutsideKeeps S (life S f args) first past
  pub asks : life S f args (first ∷ past) ≡ Asks number asked position store
  pub heap : store.heap ≡ left
  pub comes : (r : Resume) (more : List Resume) → finish (r ∷ more) ≡ life S f args (first ∷ past ++ r ∷ more)

-- What a slice left stands after this heap, what it gives, fails with or asks is known there, and a parked thread has asked there.
abbrev pub SliceStands : {T : Type 0} → Setting → (T → Finish) → Heap → StoreView → Slice T → Type 0
SliceStands S finish old store (slice.Parked thread op) =
    StandsAfter S old store.heap × All (Known S store.heap) op.args × HasAsked S (finish thread) store.heap
SliceStands S finish old store (slice.Done vs) = StandsAfter S old store.heap × All (Known S store.heap) vs
SliceStands S finish old store (slice.Failed v) = StandsAfter S old store.heap × Known S store.heap v
SliceStands S finish old store slice.Spent = Unit {0}
SliceStands S finish old store slice.Memory = Unit {0}

-- So it is with a thread that begins as it is resumed, and with one that has asked and is resumed after that.
pub record KeepStanding {T : Type 0} (finish : T → Finish) : Type 0 where
  pub begins : (S : Setting) (thread : T) (f : Value) (args : List Value) (r : Resume) (store : StoreView) (s : Slice T)
      → CanBegin S f args r.store.heap → IsNew (life S f args) (finish thread) → Resumes finish thread r store s
      → SliceStands S finish r.store.heap store s
  pub goes_on : (S : Setting) (thread : T) (left : Heap) (r : Resume) (store : StoreView) (s : Slice T)
      → HasAsked S (finish thread) left → ComesAfter S left r → Resumes finish thread r store s
      → SliceStands S finish r.store.heap store s
