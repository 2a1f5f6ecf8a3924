use Rattle.std.proofs.lemmas.List.{drop_more}
use Rattle.lua_frames.proofs.DropLemmas.{dropped_all}
use Rattle.lua_frames.proofs.MovedLemmas.{kept_on}
use Rattle.lua_vm_expressions.proofs.CaptureLemmas.{one_more_shared, one_refused, all_shared}
use Rattle.lua_vm_expressions.proofs.captures.share_variables.Goals as goal

pub returns-in-None : goal.returns-in-None
returns-in-None c =
    one_refused c.args.captures.now c.loop-capture.capture-index _ c.loop-capture.cells.items c.args.frames.now c.loop-capture.frames c.share_variable.new.frames c.args.store.now c.loop-capture.store c.share_variable.new.store
    (drop_more c.args.captures.now c.loop-capture.capture-index _ c.loop-capture-test.true) c.loop-capture.invariant.0 c.loop-capture.invariant.1 (rw c.in-None.is at c.in_ok-share_variable.ensures)

pub loop-capture-preserved : goal.loop-capture-preserved
loop-capture-preserved c = (
  kept_on c.args.frames.now c.loop-capture.frames c.share_variable.new.frames c.loop-capture.invariant.0 c.in_ok-share_variable.ensures.keeps,
  one_more_shared c.args.captures.now c.loop-capture.capture-index _ c.loop-capture.cells.items c.push.new.self.items c.in-Some.c c.args.frames.now c.loop-capture.frames c.share_variable.new.frames c.args.store.now c.loop-capture.store c.share_variable.new.store
      (drop_more c.args.captures.now c.loop-capture.capture-index _ c.loop-capture-test.true) c.loop-capture.invariant.0 c.loop-capture.invariant.1 (rw c.in-Some.is at c.in_ok-share_variable.ensures) c.in_ok-push-in-Some.ensures.items,
)

pub returns : goal.returns
returns c =
    all_shared c.args.captures.now c.loop-capture.capture-index c.loop-capture.cells.items c.args.frames.now c.loop-capture.frames c.args.store.now c.loop-capture.store
    (dropped_all c.args.captures.now c.loop-capture.capture-index c.loop-capture-test.false) c.loop-capture.invariant.0 c.loop-capture.invariant.1
