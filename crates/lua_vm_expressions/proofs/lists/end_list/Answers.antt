use Rattle.lua_vm_expressions.proofs.ListForms.{list_ends}
use Rattle.lua_vm_expressions.proofs.lists.end_list.Goals as goal

pub returns-in-Some : goal.returns-in-Some
returns-in-Some c = λ S store.
    list_ends S c.args.done.items c.in-Some.values.items c.args.frames.now c.take_values.new.frames c.give_joined.new.frames store c.give_joined.result
    (rw c.in-Some.is at c.in_ok-take_values.ensures.values) c.in_ok-take_values.ensures.below c.in_ok-take_values.ensures.top (c.give_joined.ensures S store)
