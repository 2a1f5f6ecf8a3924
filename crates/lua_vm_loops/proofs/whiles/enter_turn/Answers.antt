use Rattle.lua_meaning.specs.Works.{ATurn}
use Rattle.lua_frames.proofs.FollowLemmas.{enters_spent}
use Rattle.lua_vm_loops.proofs.WhileForms.{turn_enters}
use Rattle.lua_vm_loops.proofs.whiles.enter_turn.Goals as goal

pub returns-then-not-count : goal.returns-then-not-count
returns-then-not-count c = λ S.
    enters_spent S (ATurn c.args.test.value c.args.body.value.items) c.args.frames.now _ c.args.store.now _ c.count.result c.count.ensures.below c.if-not-count.true

pub returns : goal.returns
returns c = λ S.
    turn_enters S c.args.test c.args.body c.in_ok-block.block c.args.frames.now c.wait.new.frames c.begin_block.new.frames c.args.store.now c.count.new.self c.count.new.self c.count.result c.begin_block.result
    c.count.ensures.counted c.count.ensures.below c.if-not-count.false c.in_ok-block.ensures c.in_ok-wait.ensures (c.begin_block.ensures S c.count.new.self)
