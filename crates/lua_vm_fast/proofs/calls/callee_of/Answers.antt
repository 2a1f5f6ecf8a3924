use Rattle.lua_vm_fast.proofs.CallLemmas.{captured_seen}
use Rattle.lua_vm_fast.proofs.calls.callee_of.Goals as goal

pub returns-in-Captured-clause-gives : goal.returns-in-Captured-clause-gives
returns-in-Captured-clause-gives c =
    captured_seen c.args.site.now c.args.x.now c.args.slots.now c.args.store.now.heap c.in-Captured.i c.seen_captured.result c.in-Captured.is c.seen_captured.ensures.value c.seen_captured.ensures.steps
