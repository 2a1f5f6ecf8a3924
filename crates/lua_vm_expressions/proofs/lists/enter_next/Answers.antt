use Rattle.std.proofs.Common.{◌≡◌, length, arith}
use Rattle.lua_frames.proofs.DropLemmas.{counted}
use Rattle.lua_vm_expressions.proofs.ListForms.{rest_last, rest_next}
use Rattle.lua_vm_expressions.proofs.lists.enter_next.Goals as goal

pub returns-then-next-len : goal.returns-then-next-len
returns-then-next-len g c =
    let count : c.len.result ≡ length c.args.xs.now.value.items = counted c.len.result c.deref.result.now c.args.xs.now.value c.len.ensures c.deref.ensures in
    rest_next (g.H.Host.setting c.args.host.now) c.args.xs.now c.in_ok-share-in-Some.field-0 c.in-Some.x.now c.args.next c.args.done c.args.frames.now c.wait.new.frames c.enter_value.new.frames c.args.store.now c.enter_value.new.store c.enter_value.result
    c.in-Some.ensures (omega (arith, count, c.if-next-len.true)) c.in_ok-share-in-Some.ensures c.in_ok-wait-in-Some.ensures c.enter_value.ensures

pub returns-else-next-len : goal.returns-else-next-len
returns-else-next-len g c =
    let count : c.len.result ≡ length c.args.xs.now.value.items = counted c.len.result c.deref.result.now c.args.xs.now.value c.len.ensures c.deref.ensures in
    rest_last (g.H.Host.setting c.args.host.now) c.args.xs.now c.in_ok-share-in-Some.field-0 c.in-Some.x.now c.args.next c.args.done c.args.frames.now c.wait.new.frames c.enter_expr.new.frames c.args.store.now c.enter_expr.new.store c.enter_expr.result
    c.in-Some.ensures (omega (arith, count, c.if-next-len.false)) c.in_ok-share-in-Some.ensures c.in_ok-wait-in-Some.ensures c.enter_expr.ensures
