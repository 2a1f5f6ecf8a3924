use Rattle.lua_frames.proofs.FollowLemmas.{enters_spent}
use Rattle.lua_vm_loops.specs.Ranges.{run_of}
use Rattle.lua_vm_loops.proofs.CountForms.{run_counts}
use Rattle.lua_vm_loops.proofs.counting.enter_run.Goals as goal

pub returns-then-not-count : goal.returns-then-not-count
returns-then-not-count c = λ S. enters_spent S (run_of c.args.counter) c.args.frames.now _ c.args.store.now _ c.count.result c.count.ensures.below c.if-not-count.true

pub returns : goal.returns
returns c = λ S.
    run_counts S c.args.counter c.in_ok-block.block c.args.frames.now c.put_plain.new.frames c.wait.new.frames c.begin_block.new.frames c.args.store.now c.count.new.self c.count.new.self c.count.result c.begin_block.result
    c.count.ensures.counted c.count.ensures.below c.if-not-count.false c.put_plain.ensures c.in_ok-block.ensures c.in_ok-wait.ensures (c.begin_block.ensures S c.count.new.self)
