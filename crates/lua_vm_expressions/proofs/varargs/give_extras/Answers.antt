use Rattle.lua_vm_expressions.proofs.LeafForms.{extras_spent}
use Rattle.lua_vm_expressions.proofs.varargs.give_extras.Goals as goal

pub returns-then-not-count : goal.returns-then-not-count
returns-then-not-count c = λ S.
    extras_spent S c.args.frames.now.top.extras c.args.frames.now _ c.args.store.now _ c.len.result c.count.result c.len.ensures c.count.ensures.below c.if-not-count.true
