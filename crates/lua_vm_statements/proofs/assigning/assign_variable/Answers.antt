use Rattle.lua_vm_statements.proofs.assigning.assign_variable.Goals as goal

pub returns-in-Slot : goal.returns-in-Slot
returns-in-Slot c = λ S e. rw c.in-Slot.is (c.assign_slot.ensures S e)

pub returns-in-Captured : goal.returns-in-Captured
returns-in-Captured c = λ S e. rw c.in-Captured.is (c.assign_captured.ensures S e)
