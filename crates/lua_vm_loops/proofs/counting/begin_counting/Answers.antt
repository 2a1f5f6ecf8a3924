use Rattle.lua_frames.specs.Frames.{here, slots_of}
use Rattle.lua_frames.proofs.FollowLemmas.{works_as}
use Rattle.lua_vm_loops.specs.Ranges.{Counts}
use Rattle.std.proofs.Common.{Ok, Err}
use Rattle.lua_vm_loops.proofs.counting.begin_counting.Goals as goal

pub returns-in-Ok : goal.returns-in-Ok
returns-in-Ok c = λ S e.
    let counts : Counts c.args.from.now c.args.to.now c.args.step.now (Ok c.in-Ok.range) = rw c.in-Ok.is at c.range_of.ensures in
    works_as S _ _ c.args.frames.now c.count_from.new.frames c.args.store.now c.count_from.new.store c.count_from.result (c.count_from.ensures S e)
    (counts S c.args.bounds.line c.args.bounds.slot c.args.bounds.body.value.items (here c.args.frames.now) (slots_of c.args.frames.now))

pub returns : goal.returns
returns c = λ S e.
    let counts : Counts c.args.from.now c.args.to.now c.args.step.now (Err c.in-Err.fault) = rw c.in-Err.is at c.range_of.ensures in
    works_as S _ _ c.args.frames.now c.raise_fault.new.frames c.args.store.now c.args.store.now c.raise_fault.result (c.raise_fault.ensures S c.args.store.now e)
    (counts S c.args.bounds.line c.args.bounds.slot c.args.bounds.body.value.items (here c.args.frames.now) (slots_of c.args.frames.now))
