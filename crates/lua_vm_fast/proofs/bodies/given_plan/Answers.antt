use Rattle.lua_vm_fast.proofs.CallLemmas.{value_returned}
use Rattle.lua_vm_fast.proofs.bodies.given_plan.Goals as goal

pub returns-in_default-clause-follows : goal.returns-in_default-clause-follows
returns-in_default-clause-follows c = λ st is s h site levels u n g. value_returned site levels c.args.x.now st s h u n c.in_default.not-Call c.in_default.not-Method g is
