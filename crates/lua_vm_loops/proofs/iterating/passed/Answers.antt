use Rattle.std.proofs.Common.{sym, ◌∙◌}
use Rattle.lua_frames.specs.Items.{iterating}
use Rattle.lua_vm_loops.proofs.RunForms.{body_ran}
use Rattle.lua_vm_loops.proofs.iterating.passed.Goals as goal

pub returns-in-Ran : goal.returns-in-Ran
returns-in-Ran g c =
    body_ran (g.H.Host.setting c.args.host.now) (iterating c.args.iteration c.args.control) c.args.frames.now c.call_next.new.frames c.args.store.now c.call_next.new.store c.call_next.result (sym c.end_of_run.ensures ∙ c.in-Ran.is) c.call_next.ensures
