use Rattle.lua_vm_statements.proofs.TargetLemmas.{slot_begins, slot_spent}
use Rattle.lua_vm_statements.proofs.targets.begin_one.Goals as goal

pub returns-then-not-count : goal.returns-then-not-count
returns-then-not-count g c =
    slot_spent (g.H.Host.setting c.args.host.now) c.args.targets.now.value.items c.args.xs.now.value.items c.args.target.now c.in-Slot.i c.args.frames.now _ c.args.store.now _ c.count.result c.requires c.in-Slot.is c.count.ensures.below c.if-not-count.true

pub returns-else-not-count : goal.returns-else-not-count
returns-else-not-count g c =
    slot_begins (g.H.Host.setting c.args.host.now) c.args.targets.now.value.items c.args.xs.now.value.items c.args.target.now c.in-Slot.i c.args.frames.now c.list_under.new.frames c.args.store.now c.count.new.self c.list_under.new.store c.count.result c.list_under.result
    c.requires c.in-Slot.is c.count.ensures.counted c.count.ensures.below c.if-not-count.false c.list_under.ensures
