use Rattle.std.proofs.Common.{◌+◌, arith}
use Rattle.lua_vm_fast.proofs.BodyLemmas.{none_of}
use Rattle.lua_vm_fast.proofs.BranchLemmas.{no_stmt_ends, one_stmt_ends}
use Rattle.lua_vm_fast.proofs.bodies.if_plan.Goals as goal

pub returns-in-empty-clause-follows : goal.returns-in-empty-clause-follows
returns-in-empty-clause-follows c = λ st is site levels.
    no_stmt_ends site levels c.args.arms.now.value.items c.args.last.now.value.items c.in_ok-chosen.chosen.body.now st c.args.slots.now c.args.store.now.heap c.in_ok-chosen.chosen.steps
    is c.in_ok-chosen.ensures.chooses (none_of c.in_ok-chosen.chosen.body.now (omega (arith, c.in-empty.len_below)))

pub returns-in-Sets-clause-follows : goal.returns-in-Sets-clause-follows
returns-in-Sets-clause-follows c = λ st is site levels v n g.
    let follows = rw c.in-Sets.is at (c.in_ok-slot-in_default.ensures.follows c.args.store.now.heap) in
    one_stmt_ends site levels c.args.arms.now.value.items c.args.last.now.value.items c.in_ok-chosen.chosen.body.now c.in_ok-stmt-in_default.stmt.now st c.args.slots.now _ c.args.store.now.heap c.in_ok-chosen.chosen.steps (n + c.in-Sets.more) (n + (c.in-Sets.more + (c.in_ok-chosen.chosen.steps + 1)))
    is c.in_ok-chosen.ensures.chooses c.in_ok-stmt-in_default.ensures (follows site levels v n g) (omega arith)
