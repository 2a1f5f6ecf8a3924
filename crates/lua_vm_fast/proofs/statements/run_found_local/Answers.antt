use Rattle.std.proofs.Common.{sym, ◌∙◌, ◌+◌}
use Rattle.lua_vm_fast.proofs.RunLemmas.{counted, local_runs}
use Rattle.lua_vm_fast.proofs.statements.run_found_local.Goals as goal

pub returns-in-Ok : goal.returns-in-Ok
returns-in-Ok c = λ st is.
    local_runs st c.args.x.now c.args.i c.in-Some.seen.steps c.in-Ok.value c.args.slots.now.items c.put_value.new.slots.items c.args.store.now c.count.new.self
    is (rw (c.deref.ensures.value, ← c.in-Ok.ensures.cases) at c.in-Some.ensures.gives) (sym c.affords.ensures ∙ c.if-not-affords.false) c.put_value.ensures
    (counted (c.in-Some.seen.steps + 1) c.args.store.now c.count.new.self c.count.ensures.counted (sym c.affords.ensures ∙ c.if-not-affords.false))
