use Rattle.std.proofs.Common.{sym, ◌∙◌}
use Rattle.lua_values.specs.declared.values.Value.TheVariants.{Number}
use Rattle.lua_vm_fast.proofs.RunLemmas.{assignment_sets}
use Rattle.lua_vm_fast.proofs.statements.run_assignment.Goals as goal

pub returns-in-Some : goal.returns-in-Some
returns-in-Some c = λ st is.
    assignment_sets st c.args.x.now c.args.i c.in-Some.n.steps (Number c.in-Some.n.number) c.take_number.result c.args.slots.now.items c.take_number.new.slots.items c.args.store.now c.take_number.new.store
    is (rw (c.in-Some.is, c.deref-2.ensures.value) at c.number_of.ensures.gives) (rw c.deref.ensures.value at (sym c.is_plain.ensures ∙ c.if-not-is_plain.false)) c.take_number.ensures
