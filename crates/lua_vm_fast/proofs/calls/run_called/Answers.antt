use Rattle.std.proofs.Common.{sym, ◌∙◌, ◌+◌}
use Rattle.lua_vm_fast.proofs.RunLemmas.{counted}
use Rattle.lua_vm_fast.proofs.CallLemmas.{call_runs}
use Rattle.lua_vm_fast.proofs.calls.run_called.Goals as goal

pub returns-else-not-affords : goal.returns-else-not-affords
returns-else-not-affords c = λ st is.
    call_runs c.args.site.now c.args.site.now.levels st c.args.f.now c.args.xs.now.value.items c.args.slots.now c.args.store.now c.count.new.self _ c.in-Some.called.steps is c.in-Some.ensures.gives (sym c.affords.ensures ∙ c.if-not-affords.false)
    (counted (c.in-Some.called.steps + 2) c.args.store.now c.count.new.self c.count.ensures.counted (sym c.affords.ensures ∙ c.if-not-affords.false))
