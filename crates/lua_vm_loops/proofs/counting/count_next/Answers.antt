use Rattle.lua_frames.specs.Frames.{here, slots_of}
use Rattle.lua_frames.proofs.FollowLemmas.{works_as}
use Rattle.lua_vm_loops.proofs.CountForms.{next_counts, next_faults}
use Rattle.lua_vm_loops.proofs.counting.count_next.Goals as goal

pub returns-in-Ok : goal.returns-in-Ok
returns-in-Ok c = λ S e.
    works_as S _ _ c.args.frames.now c.count_from.new.frames c.args.store.now c.count_from.new.store c.count_from.result (c.count_from.ensures S e)
    (next_counts S c.args.counter c.in-Ok.at c.add.result (here c.args.frames.now) (slots_of c.args.frames.now) c.add.ensures c.in-Ok.is)

pub returns-in-Err : goal.returns-in-Err
returns-in-Err c = λ S e.
    works_as S _ _ c.args.frames.now c.raise_fault.new.frames c.args.store.now c.args.store.now c.raise_fault.result (c.raise_fault.ensures S c.args.store.now e)
    (next_faults S c.args.counter c.in-Err.fault c.add.result (here c.args.frames.now) (slots_of c.args.frames.now) c.add.ensures c.in-Err.is)
