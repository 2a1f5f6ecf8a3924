use Rattle.std.proofs.Common.{◌≡◌, rules}
use Rattle.lua_vm_statements.proofs.ReturnForms.{tail_method_goes, tail_method_spent}
use Rattle.lua_vm_statements.proofs.returns.begin_tail_method.Goals as goal

pub returns-then-not-count : goal.returns-then-not-count
returns-then-not-count g c =
    tail_method_spent (g.H.Host.setting c.args.host.now) c.args.line c.args.object.now.value c.args.name.now c.args.args.now c.args.frames.now _ c.args.store.now _ c.count.result c.count.ensures.below c.if-not-count.true

pub returns : goal.returns
returns g c =
    let same : c.in_ok-copy.copy ≡ c.args.name.now = search rules in
    tail_method_goes (g.H.Host.setting c.args.host.now) c.args.line c.args.object.now.value c.deref.result.now c.args.name.now c.in_ok-copy.copy c.args.args.now c.in_ok-share.field-0 c.args.frames.now c.value_under-2.new.frames c.args.store.now c.count.new.self c.value_under-2.new.store c.count.result c.value_under-2.result
    c.deref.ensures same c.in_ok-share.ensures c.count.ensures.counted c.count.ensures.below c.if-not-count.false c.value_under-2.ensures
