-- Sites that have started, by the evaluator, and what init left in the heaps of their runs.
use Rattle.std.specs.Prelude.{◌≡◌, ◌≢◌, ℕ, ◌≤◌, ◌<◌, List, ◌∷◌, length, take, Option, Some, None, Ok, IfSome}
use Rattle.lua_ast.specs.WholeProgram.{IsWholeProgram}
use Rattle.lua_values.specs.declared.values.Value.{Value}
use Rattle.lua_values.specs.declared.faults.StoreFault.TheVariants.{Frozen}
use Rattle.lua_values.specs.Heap.{Heap}
use Rattle.lua_values.specs.StoreCalls.{new_store, set_cause, frozen_cause}
use Rattle.lua_values.specs.NativeCalls.{IsLawful}
use Rattle.lua_modules.specs.Sets.{Lists}
use Rattle.lua_meaning.specs.Evaluator.{Resume}
use Rattle.lua_meaning.specs.Life.{Outcome, Done, Failure, Asks, OutOfSteps, Unbegun, life}
use Rattle.lua_meaning.specs.Setting.{Setting}
use Rattle.lua_meaning.specs.Over.{native_count}
use Rattle.lua_meaning_laws.specs.Standing.{StandsAfter}
use Rattle.lua_meaning_laws.specs.Lives.{CanBegin, OutsideKeeps}
use Rattle.lua_site.specs.Making.{Made, and_then}
use Rattle.lua_site.specs.Calls.{Life}
use Rattle.lua_site.specs.Loading.{loaded, init_run}
use Rattle.lua_site.specs.Starting.{Start, started}
use Rattle.lua_site.specs.Standing.{AreChunks, IsStanding}
use Rattle.lua_site.specs.Laws.{IsFrozenIn}

-- the chunks of a whole program with a lawful host, of whose functions the preludes get so many; init is one of the blocks
pub record CanStart (S : Setting) (natives : ℕ) (lists : Lists) (init : Option ℕ) : Type 0 where
  pub whole : IsWholeProgram S.program
  pub lawful : IsLawful (native_count S) S.count S.lib
  pub few : natives ≤ native_count S
  pub chunks : AreChunks S lists
  pub block : IfSome init (λ b. b < length lists.blocks)

-- By the evaluator all that a started store names is there, and so are the closures of the blocks.
abbrev pub StartedSitesStand : Type 0
StartedSitesStand =
    (S : Setting) (natives : ℕ) (lists : Lists) (init : Option ℕ) (start : Start) → CanStart S natives lists init
    → started (life S) natives lists init ≡ Ok start → IsStanding S start

-- the heap that init leaves, or that of the blocks where there is no init
abbrev pub init_left : Life → ℕ → Lists → Option ℕ → Made
init_left life natives lists init =
    and_then (loaded life natives lists new_store.heap) (λ site. init_run life site.blocks init site.heap)

-- what init left is in the started store as it was, and refuses every write
pub record FreezesInit (life : Life) (natives : ℕ) (lists : Lists) (init : Option ℕ) (start : Start) : Type 0 where
  pub heap : Heap
  pub left : init_left life natives lists init ≡ Ok heap
  pub frozen : IsFrozenIn start.store.heap heap

-- So it is with every start, whatever the lives of its threads.
abbrev pub StartsFreezeInit : Type 0
StartsFreezeInit =
    (life : Life) (natives : ℕ) (lists : Lists) (init : Option ℕ) (start : Start) → started life natives lists init ≡ Ok start
    → FreezesInit life natives lists init start

-- all that the older heap has is in the newer one as it was, and refuses every write there
pub record StaysFrozen (new old : Heap) : Type 0 where
  pub tables : take (length old.tables) new.tables ≡ old.tables
  pub cells : take (length old.cells) new.cells ≡ old.cells
  pub closures : take (length old.closures) new.closures ≡ old.closures
  pub entries : (t : ℕ) (key value : Value) → t < length old.tables → set_cause new t key value ≢ None
  pub metatables : (t : ℕ) → t < length old.tables → frozen_cause new.base.tables t ≡ Some Frozen
  pub variables : (c : ℕ) → c < length old.cells → frozen_cause new.base.cells c ≡ Some Frozen

-- it stays so in the heap that is left, if one is
abbrev pub LeavesFrozen : Heap → Outcome → Type 0
LeavesFrozen old (Done vs store) = StaysFrozen store.heap old
LeavesFrozen old (Failure v store) = StaysFrozen store.heap old
LeavesFrozen old (Asks number args position store) = StaysFrozen store.heap old
LeavesFrozen old OutOfSteps = Unit {0}
LeavesFrozen old Unbegun = Unit {0}

-- A run of a site begins in a copy of the started store. Whatever a thread of it comes to leaves what init left as it was.
abbrev pub RunsLeaveInit : Type 0
RunsLeaveInit =
    (S : Setting) (natives : ℕ) (lists : Lists) (init : Option ℕ) (start : Start) (heap : Heap)
    (f : Value) (args : List Value) (first : Resume) (resumes : List Resume)
    → started (life S) natives lists init ≡ Ok start → init_left (life S) natives lists init ≡ Ok heap
    → StandsAfter S start.store.heap first.store.heap → CanBegin S f args first.store.heap → OutsideKeeps S (life S f args) first resumes
    → LeavesFrozen heap (life S f args (first ∷ resumes))
