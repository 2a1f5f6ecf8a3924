use Rattle.std.proofs.Common.{ℕ, ◌-◌}
use Rattle.lua_values.specs.declared.values.Value.{Value}
use Rattle.lua_values.specs.Heap.{step_limit}
use Rattle.lua_meaning.specs.Works.{Places, Slots}
use Rattle.lua_meaning.specs.Setting.{Setting}
use Rattle.lua_meaning.specs.Indexing.{store_work}
use Rattle.lua_frames.specs.Follows.{ComesTo}
use Rattle.lua_vm_tables.proofs.destinations.find_destination.Given as goal

abbrev pub invariant-loop-value : goal.invariant-loop-value
invariant-loop-value l =
    (x : Value) (S : Setting) (line : ℕ) (p : Places) (s : Slots) → ComesTo S (store_work S line l.fn.value l.fn.key x p s) l.fn.store (store_work S line l.value l.fn.key x p s) l.store

abbrev pub decreases-loop-value : goal.decreases-loop-value
decreases-loop-value l = step_limit - l.store.steps
