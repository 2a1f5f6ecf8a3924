use Rattle.lua_meaning.specs.Works.{Places}
use Rattle.lua_meaning.specs.Setting.{Setting}
use Rattle.lua_meaning.specs.Loops.{while_work}
use Rattle.lua_vm_fast.specs.Calls.{Allows}
use Rattle.lua_vm_fast.specs.Runs.{Becomes}
use Rattle.lua_vm_fast.proofs.loops.run_turns.Given as goal

abbrev pub invariant-loop : goal.invariant-loop
invariant-loop l = (S : Setting) → (p : Places) → Allows l.site l.site.levels S p → Becomes S (while_work l.test.value l.body p l.fn.slots.items) l.fn.store (while_work l.test.value l.body p l.slots.items) l.store
