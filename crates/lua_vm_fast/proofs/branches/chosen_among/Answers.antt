use Rattle.std.proofs.Common.{◌∙◌, ◌+◌, ap, refl, arith, Vec, Global}
use Rattle.lua_ast.specs.declared.statements.Stmt.{Stmt}
use Rattle.lua_vm_fast.proofs.BranchLemmas.{chosen, next_tried}
use Rattle.lua_vm_fast.proofs.branches.chosen_among.Goals as goal

pub returns-then-test-clause-chooses : goal.returns-then-test-clause-chooses
returns-then-test-clause-chooses c =
    chosen c.args.arms.now c.args.last.now c.in_ok-arm.arm.now c.loop-i.i c.args.slots.now c.args.store.now.heap c.as_slice.result.now c.loop-i.steps c.in_ok-test.test.steps (c.loop-i.steps + c.in_ok-test.test.steps)
    c.in_ok-arm.ensures c.loop-i.invariant.0 (rw c.if-test.true at c.in_ok-test.ensures.tells) (c.as_slice.ensures.value ∙ ap (λ (v : Vec Stmt Global). v.items) c.deref.ensures) refl

pub loop-i-preserved : goal.loop-i-preserved
loop-i-preserved c = (
  next_tried c.args.arms.now c.args.last.now c.in_ok-arm.arm.now c.loop-i.i c.args.slots.now c.args.store.now.heap c.loop-i.steps c.in_ok-test.test.steps (c.loop-i.steps + c.in_ok-test.test.steps)
      c.in_ok-arm.ensures c.loop-i.invariant.0 (rw c.if-test.false at c.in_ok-test.ensures.tells) refl,
  omega (arith, c.if-steps-ge-STEP_LIMIT.false),
)
