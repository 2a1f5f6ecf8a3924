use Rattle.lua_vm_fast.proofs.RunLemmas.{locals_kind, assignments_kind}
use Rattle.lua_vm_fast.proofs.statements.run_one.Goals as goal

pub returns-in-Local : goal.returns-in-Local
returns-in-Local c = c.run_locals.ensures c.args.stmt.now (locals_kind c.args.stmt.now c.in-Local.places c.in-Local.xs c.in-Local.is)

pub returns-in-Assign : goal.returns-in-Assign
returns-in-Assign c = c.run_assignments.ensures c.args.stmt.now (assignments_kind c.args.stmt.now c.in-Assign.targets c.in-Assign.xs c.in-Assign.is)
