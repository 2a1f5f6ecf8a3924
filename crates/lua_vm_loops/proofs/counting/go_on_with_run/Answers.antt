use Rattle.lua_vm_loops.proofs.CountForms.{run_goes}
use Rattle.lua_vm_loops.proofs.counting.go_on_with_run.Goals as goal

pub returns : goal.returns
returns c = λ S store.
    run_goes S c.args.counter c.in_ok-block.block c.args.next c.args.frames.now c.wait.new.frames c.begin_rest.new.frames store store c.begin_rest.result c.in_ok-block.ensures c.in_ok-wait.ensures (c.begin_rest.ensures S store)
