-- What is said of the heaps of a thread over its whole life, in which the outside answers what it asks.
use Rattle.std.specs.Prelude.{◌≡◌, ℕ, List, [], ◌∷◌, ◌++◌, Option, All}
use Rattle.lua_ast.specs.WholeProgram.{IsWholeProgram}
use Rattle.lua_values.specs.declared.values.Value.{Value}
use Rattle.lua_values.specs.Heap.{Heap, StoreView}
use Rattle.lua_values.specs.NativeCalls.{IsLawful}
use Rattle.lua_meaning.specs.declared.positions.Position.{Position}
use Rattle.lua_meaning.specs.declared.resumes.Resumed.{Resumed}
use Rattle.lua_meaning.specs.declared.resumes.Resumed.TheVariants as resumed
use Rattle.lua_meaning.specs.Evaluator.{Resume}
use Rattle.lua_meaning.specs.Life.{Outcome, Asks, life}
use Rattle.lua_meaning.specs.Setting.{Setting}
use Rattle.lua_meaning.specs.Over.{native_count}
use Rattle.lua_meaning_laws.specs.Standing.{Stands, Known, StandsAfter, LeavesStanding}

-- a call of what is there with what is there, where the program is whole and its host lawful
pub record CanBegin (S : Setting) (f : Value) (args : List Value) (heap : Heap) : Type 0 where
  pub whole : IsWholeProgram S.program
  pub lawful : IsLawful (native_count S) S.count S.lib
  pub stands : Stands S heap
  pub function : Known S heap f
  pub arguments : All (Known S heap) args

-- what the outside gives a call is known
abbrev pub AnswerKnown : Setting → Heap → Resumed → Type 0
AnswerKnown S heap (resumed.Values vs) = All (Known S heap) vs
AnswerKnown S heap (resumed.Raise text) = Unit {0}

-- a resume in a heap that stands after this one, with an answer that is known there
pub record ComesAfter (S : Setting) (left : Heap) (r : Resume) : Type 0 where
  pub heap : StandsAfter S left r.store.heap
  pub answer : AnswerKnown S r.store.heap r.answer

-- The outside keeps to what is there: each resume but the first comes after the heap that the thread left as it asked.
abbrev pub OutsideKeeps : Setting → (List Resume → Outcome) → Resume → List Resume → Type 0
OutsideKeeps S comes first resumes =
    (past more : List Resume) (r : Resume) (number : ℕ) (args : List Value) (position : Option Position) (store : StoreView)
    → resumes ≡ past ++ r ∷ more → comes (first ∷ past) ≡ Asks number args position store → ComesAfter S store.heap r

-- By such an outside, whatever a thread comes to over all of its resumes stands after the heap in which it began.
abbrev pub LivesKeepStanding : Type 0
LivesKeepStanding =
    (S : Setting) (f : Value) (args : List Value) (first : Resume) (resumes : List Resume) → CanBegin S f args first.store.heap
    → OutsideKeeps S (life S f args) first resumes → LeavesStanding S first.store.heap (life S f args (first ∷ resumes))

-- And where it is resumed once more, what it comes to then stands after the heap of that resume.
abbrev pub ResumesKeepStanding : Type 0
ResumesKeepStanding =
    (S : Setting) (f : Value) (args : List Value) (first : Resume) (past : List Resume) (r : Resume)
    (number : ℕ) (asked : List Value) (position : Option Position) (store : StoreView) → CanBegin S f args first.store.heap
    → life S f args (first ∷ past) ≡ Asks number asked position store → OutsideKeeps S (life S f args) first (past ++ r ∷ [])
    → LeavesStanding S r.store.heap (life S f args (first ∷ past ++ r ∷ []))
