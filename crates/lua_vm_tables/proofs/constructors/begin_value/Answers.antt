use Rattle.std.proofs.Common.{ap, sym, drop}
use Rattle.lua_values.specs.declared.values.Value.{Value}
use Rattle.lua_frames.specs.Items.{value_at_key}
use Rattle.lua_frames.specs.Frames.{here, slots_of}
use Rattle.lua_frames.proofs.FollowLemmas.{works_as}
use Rattle.lua_vm_tables.proofs.ItemLemmas.{value_begins, no_item}
use Rattle.lua_vm_tables.proofs.constructors.begin_value.Goals as goal

pub returns-in-None : goal.returns-in-None
returns-in-None g c =
    no_item (g.H.Host.setting c.args.host.now) c.args.c c.in_ok-items.items c.args.key c.args.frames.now c.give_one-in-None.new.frames c.args.store.now c.give_one-in-None.result c.in_ok-items.ensures (rw c.in-None.is at c.element.ensures) c.give_one-in-None.ensures

pub returns-in_ok-key-in-Some-Pair : goal.returns-in_ok-key-in-Some-Pair
returns-in_ok-key-in-Some-Pair g c =
    works_as _ _ _ _ _ _ _ _
    (value_begins (g.H.Host.setting c.args.host.now) c.args.c c.in_ok-items.items c.in-Some-Pair.field-0-0 c.in-Some-Pair.value c.in_ok-key-in-Some-Pair.key c.args.frames.now c.value_under.new.frames c.args.store.now c.value_under.new.store c.value_under.result
    c.in_ok-items.ensures (rw c.in-Some-Pair.field-0-is at c.in-Some-Pair.ensures) c.value_under.ensures)
    (ap (λ (k : Value). value_at_key (g.H.Host.setting c.args.host.now) c.args.c (drop c.args.c.next c.args.c.items.value.items) k (here c.args.frames.now) (slots_of c.args.frames.now)) (sym c.in_ok-key-in-Some-Pair.ensures))
