use Rattle.std.proofs.Common.{◌≡◌, length, arith}
use Rattle.lua_frames.proofs.DropLemmas.{counted}
use Rattle.lua_vm_tables.proofs.ItemLemmas.{items_end, pair_begins, item_begins, last_begins}
use Rattle.lua_vm_tables.proofs.constructors.next_item.Goals as goal

pub returns-in-None : goal.returns-in-None
returns-in-None g c =
    items_end (g.H.Host.setting c.args.host.now) c.args.c c.in_ok-items.items c.args.frames.now c.give_one.new.frames c.args.store.now c.give_one.result c.in_ok-items.ensures (rw c.in-None.is at c.element.ensures) c.give_one.ensures

pub returns-in-Some-Pair : goal.returns-in-Some-Pair
returns-in-Some-Pair g c =
    pair_begins (g.H.Host.setting c.args.host.now) c.args.c c.in_ok-items.items c.in-Some-Pair.key c.in-Some-Pair.field-0-1 _ c.args.frames.now c.value_under.new.frames c.args.store.now c.value_under.new.store c.value_under.result
    c.in_ok-items.ensures (rw c.in-Some-Pair.field-0-is at c.in-Some-Pair.ensures) c.value_under.ensures

pub returns-then-next-len : goal.returns-then-next-len
returns-then-next-len g c =
    let all : c.len.result ≡ length c.in_ok-items.items.value.items = counted _ _ _ c.len.ensures c.deref.ensures in
    item_begins (g.H.Host.setting c.args.host.now) c.args.c c.in_ok-items.items c.in-Some-Item.value c.args.frames.now c.value_under-then-next-len.new.frames c.args.store.now c.value_under-then-next-len.new.store c.value_under-then-next-len.result
    c.in_ok-items.ensures (rw c.in-Some-Item.field-0-is at c.in-Some-Item.ensures) (omega (arith, all, c.if-next-len.true)) c.value_under-then-next-len.ensures

pub returns : goal.returns
returns g c =
    let all : c.len.result ≡ length c.in_ok-items.items.value.items = counted _ _ _ c.len.ensures c.deref.ensures in
    last_begins (g.H.Host.setting c.args.host.now) c.args.c c.in_ok-items.items c.in-Some-Item.value c.args.frames.now c.expr_under.new.frames c.args.store.now c.expr_under.new.store c.expr_under.result
    c.in_ok-items.ensures (rw c.in-Some-Item.field-0-is at c.in-Some-Item.ensures) (omega (arith, all, c.if-next-len.false)) c.expr_under.ensures
