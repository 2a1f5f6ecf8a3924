use Rattle.std.proofs.Common.{sym, ◌∙◌}
use Rattle.lua_vm_fast.proofs.CountLemmas.{run_begins}
use Rattle.lua_vm_fast.proofs.counting.take_run.Goals as goal

pub returns : goal.returns
returns c =
    run_begins c.args.count.now c.args.at c.args.slots.now.items c.put.new.slots.items c.args.store.now c.count.new.self (sym c.affords.ensures ∙ c.if-not-affords.false) c.put.ensures c.count.ensures.counted
