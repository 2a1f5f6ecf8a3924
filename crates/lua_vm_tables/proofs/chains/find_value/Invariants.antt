use Rattle.std.proofs.Common.{ℕ, ◌-◌}
use Rattle.lua_values.specs.Heap.{step_limit}
use Rattle.lua_meaning.specs.Works.{Places, Slots}
use Rattle.lua_meaning.specs.Setting.{Setting}
use Rattle.lua_meaning.specs.Indexing.{index_work}
use Rattle.lua_frames.specs.Follows.{ComesTo}
use Rattle.lua_vm_tables.proofs.chains.find_value.Given as goal

abbrev pub invariant-loop-value : goal.invariant-loop-value
invariant-loop-value l =
    (S : Setting) (line : ℕ) (p : Places) (s : Slots) → ComesTo S (index_work S line l.fn.value l.fn.key p s) l.fn.store (index_work S line l.value l.fn.key p s) l.store

abbrev pub decreases-loop-value : goal.decreases-loop-value
decreases-loop-value l = step_limit - l.store.steps
