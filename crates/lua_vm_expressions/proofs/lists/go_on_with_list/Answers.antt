use Rattle.std.proofs.Common.{◌≡◌, length, arith}
use Rattle.lua_frames.proofs.DropLemmas.{counted}
use Rattle.lua_vm_expressions.proofs.ListForms.{more_ends, more_goes_on}
use Rattle.lua_vm_expressions.proofs.lists.go_on_with_list.Goals as goal

pub returns-then-next-len : goal.returns-then-next-len
returns-then-next-len g c =
    let count : c.len.result ≡ length c.args.xs.value.items = counted c.len.result c.deref.result.now c.args.xs.value c.len.ensures c.deref.ensures in
    more_ends (g.H.Host.setting c.args.host.now) c.args.xs c.args.next c.args.done c.args.frames.now c.end_list.new.frames c.args.store.now c.end_list.result (omega (arith, count, c.if-next-len.true))
    (c.end_list.ensures (g.H.Host.setting c.args.host.now) c.args.store.now)

pub returns : goal.returns
returns g c =
    let count : c.len.result ≡ length c.args.xs.value.items = counted c.len.result c.deref.result.now c.args.xs.value c.len.ensures c.deref.ensures in
    more_goes_on (g.H.Host.setting c.args.host.now) c.args.xs c.args.next c.args.done c.push.new.self c.in-Some.value c.args.frames.now c.take_first.new.frames c.enter_next.new.frames c.args.store.now c.enter_next.new.store c.enter_next.result
    (omega (arith, count, c.if-next-len.false)) (rw c.in-Some.is at c.take_first.ensures.value) c.in_ok-push-in-Some.ensures.items c.take_first.ensures.below c.take_first.ensures.top c.enter_next.ensures
