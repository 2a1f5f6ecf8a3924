use Rattle.std.proofs.Common.{drop}
use Rattle.lua_frames.specs.Items.{value_at_key}
use Rattle.lua_frames.proofs.TakeForms.{takes_one}
use Rattle.lua_vm_tables.proofs.constructors.item_key.Goals as goal

pub returns-in-Some : goal.returns-in-Some
returns-in-Some g c =
    takes_one (g.H.Host.setting c.args.host.now) (λ p key s. value_at_key (g.H.Host.setting c.args.host.now) c.args.c (drop c.args.c.next c.args.c.items.value.items) key p s) c.in-Some.key
    c.args.frames.now c.take_first.new.frames c.begin_value.new.frames c.args.store.now c.begin_value.new.store c.begin_value.result
    (rw c.in-Some.is at c.take_first.ensures.value) c.take_first.ensures.below c.take_first.ensures.top c.begin_value.ensures
