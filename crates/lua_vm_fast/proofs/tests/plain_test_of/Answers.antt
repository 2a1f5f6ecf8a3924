use Rattle.lua_vm_fast.proofs.ValueLemmas.{true_tells, false_tells}
use Rattle.lua_vm_fast.proofs.tests.plain_test_of.Goals as goal

pub returns-in-True-clause-tells : goal.returns-in-True-clause-tells
returns-in-True-clause-tells c = true_tells c.args.x.now c.args.slots.now c.args.store.now.heap c.in-True.is

pub returns-in-False-clause-tells : goal.returns-in-False-clause-tells
returns-in-False-clause-tells c = false_tells c.args.x.now c.args.slots.now c.args.store.now.heap c.in-False.is
