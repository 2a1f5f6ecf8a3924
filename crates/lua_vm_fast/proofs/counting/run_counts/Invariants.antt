use Rattle.std.proofs.Common.{ℕ}
use Rattle.lua_meaning.specs.Works.{Places}
use Rattle.lua_meaning.specs.Setting.{Setting}
use Rattle.lua_meaning.specs.Loops.{for_from}
use Rattle.lua_vm_fast.specs.Calls.{Allows}
use Rattle.lua_vm_fast.specs.Runs.{Becomes}
use Rattle.lua_vm_fast.specs.Counts.{run_at}
use Rattle.lua_vm_fast.proofs.counting.run_counts.Given as goal

abbrev pub invariant-loop : goal.invariant-loop
invariant-loop l =
    (S : Setting) → (line : ℕ) → (p : Places) → Allows l.site l.site.levels S p → Becomes S (for_from line l.count.slot l.fn.from l.count.limit l.count.step l.body p l.fn.slots.items) l.fn.store (run_at line l.count l.at l.body p l.slots.items) l.store
