use Rattle.lua_vm_statements.proofs.ReturnForms.{tail_goes, tail_spent}
use Rattle.lua_vm_statements.proofs.returns.begin_tail_call.Goals as goal

pub returns-then-not-count : goal.returns-then-not-count
returns-then-not-count g c =
    tail_spent (g.H.Host.setting c.args.host.now) c.args.line c.args.f.now.value c.args.args.now.value.items c.args.frames.now _ c.args.store.now _ c.count.result c.count.ensures.below c.if-not-count.true

pub returns : goal.returns
returns g c =
    tail_goes (g.H.Host.setting c.args.host.now) c.args.line c.args.f.now.value c.args.args.now c.in_ok-share.field-0 c.args.frames.now c.value_under.new.frames c.args.store.now c.count.new.self c.value_under.new.store c.count.result c.value_under.result
    c.in_ok-share.ensures c.count.ensures.counted c.count.ensures.below c.if-not-count.false (rw c.deref.ensures at c.value_under.ensures)
