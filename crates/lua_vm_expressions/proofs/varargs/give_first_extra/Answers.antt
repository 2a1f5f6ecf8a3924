use Rattle.lua_vm_expressions.proofs.LeafForms.{first_extra_spent}
use Rattle.lua_vm_expressions.proofs.varargs.give_first_extra.Goals as goal

pub returns-then-not-count : goal.returns-then-not-count
returns-then-not-count c = λ S.
    first_extra_spent S c.args.frames.now.top.extras.items _ c.args.frames.now _ c.args.store.now _ c.count.result c.as_slice.ensures.value c.in-len1-up.len_at_least c.count.ensures.below c.if-not-count.true
