use Rattle.lua_vm_fast.proofs.BodyLemmas.{if_some}
use Rattle.lua_vm_fast.proofs.BranchLemmas.{if_kind}
use Rattle.lua_vm_fast.proofs.bodies.plan_of.Goals as goal

pub returns-in-If-clause-follows : goal.returns-in-If-clause-follows
returns-in-If-clause-follows c = if_some c.if_plan.result _ _ (λ q follows. follows c.args.stmt.now (if_kind c.args.stmt.now c.in-If.arms c.in-If.last c.in-If.is)) c.if_plan.ensures.follows

pub returns-in_default-clause-follows : goal.returns-in_default-clause-follows
returns-in_default-clause-follows c = if_some c.plain_plan.result _ _ (λ q follows. follows c.args.store.now.heap) c.plain_plan.ensures.follows
