use Rattle.std.proofs.Common.{◌-◌, drop, length}
use Rattle.lua_meaning.specs.Works.{Places}
use Rattle.lua_meaning.specs.Setting.{Setting}
use Rattle.lua_meaning.specs.Blocks.{block}
use Rattle.lua_vm_fast.specs.Calls.{Allows}
use Rattle.lua_vm_fast.specs.Runs.{Becomes}
use Rattle.lua_vm_fast.proofs.statements.run_simple.Given as goal

abbrev pub invariant-loop-next : goal.invariant-loop-next
invariant-loop-next l =
    (S : Setting) → (p : Places) → Allows l.site l.site.levels S p → Becomes S (block (drop l.fn.from l.stmts) p l.fn.slots.items) l.fn.store (block (drop l.next l.stmts) p l.slots.items) l.store

abbrev pub decreases-loop-next : goal.decreases-loop-next
decreases-loop-next l = length l.stmts - l.next
