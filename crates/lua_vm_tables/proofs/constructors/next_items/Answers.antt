use Rattle.lua_frames.specs.Items.{items_left}
use Rattle.lua_frames.proofs.TakeForms.{takes_one}
use Rattle.lua_vm_tables.proofs.constructors.next_items.Goals as goal

pub returns-in-Some : goal.returns-in-Some
returns-in-Some g c =
    takes_one (g.H.Host.setting c.args.host.now) (λ p v s. items_left (g.H.Host.setting c.args.host.now) c.args.c.number c.args.c p s) _
    c.args.frames.now c.take_first.new.frames c.next_item.new.frames c.args.store.now c.next_item.new.store c.next_item.result
    (rw c.in-Some.is at c.take_first.ensures.value) c.take_first.ensures.below c.take_first.ensures.top c.next_item.ensures
