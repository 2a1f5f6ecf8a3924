use Rattle.std.proofs.Common.{sym, ◌∙◌}
use Rattle.lua_frames.specs.Frames.{here, slots_of}
use Rattle.lua_frames.specs.declared.items.Item.TheVariants as i
use Rattle.lua_frames.specs.Items.{counting}
use Rattle.lua_frames.proofs.FollowLemmas.{works_as}
use Rattle.lua_vm_loops.proofs.RunForms.{value_by}
use Rattle.lua_vm_loops.proofs.CountForms.{unit_step, own_step}
use Rattle.lua_vm_loops.proofs.bounds.begin_step.Goals as goal

pub returns-in-None : goal.returns-in-None
returns-in-None g c =
    works_as (g.H.Host.setting c.args.host.now) _ (counting (g.H.Host.setting c.args.host.now) c.args.bounds (here c.args.frames.now) c.args.from c.args.to c.one.result (slots_of c.args.frames.now)) c.args.frames.now c.begin_counting.new.frames c.args.store.now c.begin_counting.new.store c.begin_counting.result
    (rw c.get.ensures at (c.begin_counting.ensures (g.H.Host.setting c.args.host.now) (sym c.program.ensures)))
    (unit_step (g.H.Host.setting c.args.host.now) c.args.bounds c.args.from c.args.to c.one.result (here c.args.frames.now) (slots_of c.args.frames.now) c.in-None.is c.one.ensures)

pub returns-in_ok-to-in-Some : goal.returns-in_ok-to-in-Some
returns-in_ok-to-in-Some g c =
    value_by (g.H.Host.setting c.args.host.now) c.deref.result.now c.in-Some.step.value (i.ForStep c.args.bounds c.args.from c.in_ok-to-in-Some.to) _
    c.args.frames.now c.value_under.new.frames c.args.store.now c.value_under.new.store c.value_under.result (c.deref.ensures ∙ c.in_ok-next-in-Some.ensures)
    (own_step (g.H.Host.setting c.args.host.now) c.args.bounds c.in-Some.step c.args.from c.args.to c.in_ok-to-in-Some.to (here c.args.frames.now) (slots_of c.args.frames.now) c.in-Some.is c.in_ok-to-in-Some.ensures) c.value_under.ensures
