use Rattle.std.proofs.Common.{sym, ◌∙◌}
use Rattle.lua_vm_loops.proofs.WhileForms.{loop_again}
use Rattle.lua_vm_loops.proofs.whiles.turned.Goals as goal

pub returns-in-Ran : goal.returns-in-Ran
returns-in-Ran g c =
    loop_again (g.H.Host.setting c.args.host.now) c.args.test c.args.body c.args.frames.now c.go_on.new.frames c.args.store.now c.go_on.new.store c.go_on.result (sym c.end_of_run.ensures ∙ c.in-Ran.is) c.go_on.ensures
