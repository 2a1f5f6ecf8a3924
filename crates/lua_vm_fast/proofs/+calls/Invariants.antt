use Rattle.std.proofs.Common.{◌+◌, ◌*◌, ◌-◌, ◌<◌, length}
use Rattle.lua_values.specs.Heap.{step_limit}
use Rattle.lua_vm_fast.proofs.CallLemmas.{GivesSome}
use Rattle.lua_vm_fast.proofs.BodyLemmas.{Going}
use Rattle.lua_vm_fast.proofs.+calls.Given as goal

abbrev pub decreases-calls::called_of : goal.decreases-calls::called_of
decreases-calls::called_of l = 10 * l.levels

abbrev pub decreases-calls::operated_at : goal.decreases-calls::operated_at
decreases-calls::operated_at l = 10 * l.levels

abbrev pub decreases-calls::one_called : goal.decreases-calls::one_called
decreases-calls::one_called l = 10 * l.levels + 1

abbrev pub decreases-calls::value_at : goal.decreases-calls::value_at
decreases-calls::value_at l = 10 * l.levels + 2

abbrev pub decreases-calls::number_at : goal.decreases-calls::number_at
decreases-calls::number_at l = 10 * l.levels + 3

abbrev pub decreases-calls::give : goal.decreases-calls::give
decreases-calls::give l = 10 * l.levels + 3

abbrev pub decreases-bodies::stmt_end : goal.decreases-bodies::stmt_end
decreases-bodies::stmt_end l = 10 * l.levels + 3

abbrev pub decreases-bodies::block_end : goal.decreases-bodies::block_end
decreases-bodies::block_end l = 10 * l.levels + 4

abbrev pub decreases-calls::closure_end : goal.decreases-calls::closure_end
decreases-calls::closure_end l = 10 * l.levels + 5

abbrev pub invariant-calls::give-loop-i : goal.invariant-calls::give-loop-i
invariant-calls::give-loop-i l = GivesSome l.site l.levels l.xs l.i l.slots l.store.heap l.given.items l.steps × (l.steps < step_limit)

abbrev pub decreases-calls::give-loop-i : goal.decreases-calls::give-loop-i
decreases-calls::give-loop-i l = length l.xs - l.i

abbrev pub invariant-bodies::block_end-loop-i : goal.invariant-bodies::block_end-loop-i
invariant-bodies::block_end-loop-i l = Going l.site l.levels l.stmts l.i l.fn.slots.items l.slots.items l.store.heap l.steps × (l.steps < step_limit)

abbrev pub decreases-bodies::block_end-loop-i : goal.decreases-bodies::block_end-loop-i
decreases-bodies::block_end-loop-i l = length l.stmts - l.i

abbrev pub decreases-bodies::if_end : goal.decreases-bodies::if_end
decreases-bodies::if_end l = 10 * l.levels + 2
