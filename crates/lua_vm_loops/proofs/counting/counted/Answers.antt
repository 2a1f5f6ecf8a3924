use Rattle.std.proofs.Common.{sym, ◌∙◌}
use Rattle.lua_frames.specs.Items.{counted}
use Rattle.lua_vm_loops.proofs.RunForms.{body_ran}
use Rattle.lua_vm_loops.proofs.counting.counted.Goals as goal

pub returns-in-Ran : goal.returns-in-Ran
returns-in-Ran c = λ S e.
    body_ran S (counted S c.args.counter) c.args.frames.now c.count_next.new.frames c.args.store.now c.count_next.new.store c.count_next.result (sym c.end_of_run.ensures ∙ c.in-Ran.is) (c.count_next.ensures S e)
