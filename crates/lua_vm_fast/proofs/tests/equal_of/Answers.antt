use Rattle.lua_vm_fast.proofs.ValueLemmas.{compared_gives}
use Rattle.lua_vm_fast.proofs.tests.equal_of.Goals as goal

pub returns-clause-gives : goal.returns-clause-gives
returns-clause-gives c =
    compared_gives c.args.operator c.args.a.now c.args.b.now c.args.slots.now c.args.store.now.heap c.in_ok-a.a c.in_ok-b.b c.in_ok-wanted.wanted c.equated.result
    c.in_ok-wanted.ensures c.in_ok-a.ensures.gives c.in_ok-b.ensures.gives c.equated.ensures.compares
