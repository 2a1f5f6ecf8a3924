use Rattle.std.proofs.Common.{refl, ◌+◌}
use Rattle.lua_values.specs.declared.values.Value.TheVariants.{Truth}
use Rattle.lua_vm_fast.proofs.ValueLemmas.{gives_binary}
use Rattle.lua_vm_fast.proofs.tests.compared_of.Goals as goal

pub returns-clause-gives : goal.returns-clause-gives
returns-clause-gives c =
    gives_binary c.args.operator c.args.a.now c.args.b.now c.args.slots.now c.args.store.now.heap c.in_ok-a.a.number c.in_ok-b.b.number (Truth c.in_ok-holds.holds) c.in_ok-a.a.steps c.in_ok-b.b.steps (c.in_ok-a.a.steps + c.in_ok-b.b.steps + 1)
    c.in_ok-a.ensures.gives c.in_ok-b.ensures.gives c.in_ok-holds.ensures refl
