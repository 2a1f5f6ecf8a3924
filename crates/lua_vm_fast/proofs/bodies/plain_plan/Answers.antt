use Rattle.lua_vm_fast.proofs.RunLemmas.{locals_kind, assignments_kind}
use Rattle.lua_vm_fast.proofs.CallLemmas.{return_kind}
use Rattle.lua_vm_fast.proofs.BodyLemmas.{if_some}
use Rattle.lua_vm_fast.proofs.bodies.plain_plan.Goals as goal

pub returns-in-Local-clause-follows : goal.returns-in-Local-clause-follows
returns-in-Local-clause-follows c =
    if_some c.local_plan.result _ _ (λ q follows. follows c.args.stmt.now (locals_kind c.args.stmt.now c.in-Local.places c.in-Local.xs c.in-Local.is) c.args.slots.now) c.local_plan.ensures.follows

pub returns-in-Assign-clause-follows : goal.returns-in-Assign-clause-follows
returns-in-Assign-clause-follows c =
    if_some c.assigned_plan.result _ _ (λ q follows. follows c.args.stmt.now (assignments_kind c.args.stmt.now c.in-Assign.targets c.in-Assign.xs c.in-Assign.is)) c.assigned_plan.ensures.follows

pub returns-in-Return-clause-follows : goal.returns-in-Return-clause-follows
returns-in-Return-clause-follows c =
    if_some c.returned_plan.result _ _ (λ q follows. follows c.args.stmt.now (return_kind c.args.stmt.now c.in-Return.xs c.in-Return.is) c.args.slots.now) c.returned_plan.ensures.follows
