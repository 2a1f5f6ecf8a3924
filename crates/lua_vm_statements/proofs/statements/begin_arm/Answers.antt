use Rattle.lua_frames.specs.Frames.{here, slots_of}
use Rattle.lua_frames.proofs.FollowLemmas.{works_as}
use Rattle.lua_vm_statements.proofs.StatementForms.{arm_form, no_arm_form}
use Rattle.lua_vm_statements.proofs.statements.begin_arm.Goals as goal

pub returns-in-None : goal.returns-in-None
returns-in-None g c =
    works_as _ _ _ _ _ _ _ _ (c.begin_block.ensures (g.H.Host.setting c.args.host.now) c.args.store.now)
    (no_arm_form _ c.args.last.now.value.items (here c.args.frames.now) (slots_of c.args.frames.now) (rw c.in-None.is at c.element.ensures))

pub returns-in_ok-share-in-Some-2 : goal.returns-in_ok-share-in-Some-2
returns-in_ok-share-in-Some-2 g c =
    works_as _ _ _ _ _ _ _ _ c.value_under.ensures
    (arm_form (g.H.Host.setting c.args.host.now) c.args.arms.now c.in_ok-share-in-Some.field-0 c.args.last.now c.in_ok-share-in-Some-2.field-0 c.in-Some.arm.now c.args.next (here c.args.frames.now) (slots_of c.args.frames.now) (rw c.in-Some.is at c.element.ensures) c.in_ok-share-in-Some.ensures c.in_ok-share-in-Some-2.ensures)
