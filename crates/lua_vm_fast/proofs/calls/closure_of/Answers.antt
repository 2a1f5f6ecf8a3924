use Rattle.lua_vm_fast.proofs.calls.closure_of.Goals as goal

pub returns-in-Closure-clause-gives : goal.returns-in-Closure-clause-gives
returns-in-Closure-clause-gives c = λ levels. rw c.in-Closure.is at (c.in_ok-callee.ensures.gives levels)
