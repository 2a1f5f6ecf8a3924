use Rattle.std.proofs.Common.{refl}
use Rattle.lua_meaning.specs.Works.{ARepeat}
use Rattle.lua_frames.specs.declared.items.Item.TheVariants as i
use Rattle.lua_frames.proofs.FollowLemmas.{enters_spent, enters_works}
use Rattle.lua_vm_loops.proofs.RunForms.{keeps_all, run_enters}
use Rattle.lua_vm_loops.proofs.repeats.begin_repeat.Goals as goal

pub returns-then-not-count : goal.returns-then-not-count
returns-then-not-count c = λ S.
    enters_works S (ARepeat c.args.body.value.items c.args.test.value) c.args.frames.now _ c.args.store.now _ _
    (enters_spent S (ARepeat c.args.body.value.items c.args.test.value) c.args.frames.now _ c.args.store.now _ c.count.result c.count.ensures.below c.if-not-count.true)

pub returns : goal.returns
returns c = λ S.
    enters_works S (ARepeat c.args.body.value.items c.args.test.value) c.args.frames.now c.begin_block.new.frames c.args.store.now c.count.new.self c.begin_block.result
    (run_enters S (ARepeat c.args.body.value.items c.args.test.value) (i.Repeated c.args.body c.args.test) c.args.body c.in_ok-block.block c.args.frames.now c.args.frames.now c.wait.new.frames c.begin_block.new.frames c.args.store.now c.count.new.self c.count.new.self c.count.result c.begin_block.result
    c.count.ensures.counted c.count.ensures.below c.if-not-count.false (keeps_all c.args.frames.now) c.in_ok-block.ensures c.in_ok-wait.ensures refl (c.begin_block.ensures S c.count.new.self))
