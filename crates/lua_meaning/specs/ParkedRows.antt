-- A worked row of a thread that parks: what it asks, with the position of the call, and what it comes to once it is resumed.
use Rattle.std.specs.Prelude.{◌≡◌, List, [], ◌∷◌, true, Some, codes, pos}
use Rattle.std.specs.declared.vec.Vec.{Vec}
use Rattle.std.specs.declared.alloc.Global.{Global}
use Rattle.lua_ast.specs.declared.expressions.BinOp.TheVariants.{Add}
use Rattle.lua_ast.specs.declared.programs.Function.{Function}
use Rattle.lua_values.specs.declared.values.Value.{Value}
use Rattle.lua_values.specs.declared.values.Value.TheVariants.{Truth, Number, Text, Closure, Native}
use Rattle.lua_values.specs.NativeCalls.{Meaning, Leaves}
use Rattle.lua_values.specs.Heap.{StoreView}
use Rattle.lua_values.specs.StoreCalls.{with_pair, with_closure}
use Rattle.lua_meaning.specs.declared.resumes.Resumed.TheVariants as resumed
use Rattle.lua_meaning.specs.Evaluator.{Resume}
use Rattle.lua_meaning.specs.Setting.{Setting}
use Rattle.lua_meaning.specs.Life.{Done, Asks, life}
use Rattle.lua_meaning.specs.Rows.{start, setting_of}
use Rattle.lua_meaning.specs.Trees as tree

-- functions of the host of which each leaves its answer to the outside
abbrev pub outside : Meaning
outside number args heap = Leaves 0

-- the store before the call: `pcall` and `w` are global, and `w` is the first of these functions
abbrev pub before : StoreView
before = record { heap = with_pair (with_pair start.heap 0 (Text (codes "pcall")) (Native 0)) 0 (Text (codes "w")) (Native 5); steps = 0 }

-- `local ok, v = pcall(function() return w(1) + 1 end) return ok, v`
abbrev pub guarded : Vec Function Global
guarded = tree.two
    (tree.function 0 2 tree.none (tree.two
    (tree.locals (tree.two 0 1) (tree.one (tree.call (tree.global (codes "pcall")) (tree.one (tree.closure 1)))))
    (tree.returns (tree.two (tree.slot 0) (tree.slot 1)))))
    (tree.function 0 0 tree.none (tree.one
    (tree.returns (tree.one (tree.binary Add (tree.call (tree.global (codes "w")) (tree.one (tree.number (pos 1)))) (tree.number (pos 1)))))))

abbrev pub setting : Setting
setting = setting_of 123 outside guarded

-- the store where the thread parks, and a resume in a store with these values
abbrev pub parked : StoreView
parked = record { heap = with_closure before.heap 1 []; steps = 13 }

abbrev pub resume : StoreView → List Value → Resume
resume store vs = record { store = store; answer = resumed.Values vs }

-- it asks function 0 with 1, from line 1 of the first file; resumed with 41 it is done
pub record ParkedRow : Type 0 where
  pub parks : life setting (Closure 0) [] (resume before [] ∷ []) ≡ Asks 0 (Number (pos 1) ∷ []) (Some (record { file = 0; line = 1 })) parked
  pub goes_on : life setting (Closure 0) [] (resume before [] ∷ resume parked (Number (pos 41) ∷ []) ∷ [])
      ≡ Done (Truth true ∷ Number (pos 42) ∷ []) (record { heap = parked.heap; steps = 17 })
