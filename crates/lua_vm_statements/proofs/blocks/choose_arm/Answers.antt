use Rattle.std.proofs.Common.{◌∙◌, sym}
use Rattle.lua_frames.specs.Frames.{here, slots_of}
use Rattle.lua_frames.proofs.FollowLemmas.{works_as}
use Rattle.lua_vm_statements.proofs.ItemForms.{no_arm, arm_holds}
use Rattle.lua_vm_statements.proofs.blocks.choose_arm.Goals as goal

pub returns-in-None : goal.returns-in-None
returns-in-None g c =
    works_as _ _ _ _ _ _ _ _ (c.begin_block.ensures (g.H.Host.setting c.args.host.now) c.args.store.now)
    (no_arm _ c.args.last.now.value.items (here c.args.frames.now) c.args.test.now (slots_of c.args.frames.now) (rw c.in-None.is at c.element.ensures))

pub returns-then-is_truthy : goal.returns-then-is_truthy
returns-then-is_truthy g c =
    works_as _ _ _ _ _ _ _ _ (c.begin_block-then-is_truthy.ensures (g.H.Host.setting c.args.host.now) c.args.store.now)
    (arm_holds _ c.in-Some.arm.now _ c.args.last.now.value.items (here c.args.frames.now) c.args.test.now (slots_of c.args.frames.now) (rw c.in-Some.is at c.element.ensures) (sym c.is_truthy.ensures ∙ c.if-is_truthy.true))
