use Rattle.lua_vm_fast.proofs.JoiningLemmas.{joined_makes}
use Rattle.lua_vm_fast.proofs.concatenation.+joining.Goals as goal

pub joined_of-returns-clause-makes : goal.joined_of-returns-clause-makes
joined_of-returns-clause-makes t c =
    joined_makes c.args.a.now c.args.b.now c.args.slots.now c.args.store.now.heap c.in_ok-left.left c.in_ok-right.right c.joined.result c.in_ok-left.ensures.gives c.in_ok-right.ensures.makes c.joined.ensures.joins
