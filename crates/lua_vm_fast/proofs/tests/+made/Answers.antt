use Rattle.std.proofs.Common.{sym, ◌∙◌, ◌+◌, ap, not, refl}
use Rattle.lua_ast.specs.declared.expressions.UnOp.{UnOp}
use Rattle.lua_ast.specs.declared.expressions.ExprKind.TheVariants as v
use Rattle.lua_vm_fast.proofs.ValueLemmas.{told_so, not_tells, paren_tells, and_tells, or_tells, joined_so, joined_stops, joined_goes}
use Rattle.lua_vm_fast.proofs.tests.+made.Goals as goal

pub made_test_of-returns-in_ok-test-in-Not-clause-tells : goal.made_test_of-returns-in_ok-test-in-Not-clause-tells
made_test_of-returns-in_ok-test-in-Not-clause-tells t c =
    told_so c.args.x.now c.args.slots.now c.args.store.now.heap (not c.in_ok-test-in-Not.test.holds) (c.in_ok-test-in-Not.test.steps + 1) c.counted_test.result
    (not_tells c.args.x.now c.in-Unary.a c.deref.result.now c.args.slots.now c.args.store.now.heap c.in_ok-test-in-Not.test.holds c.in_ok-test-in-Not.test.steps (c.in_ok-test-in-Not.test.steps + 1)
    (c.in-Unary.is ∙ ap (λ (o : UnOp). v.Unary o c.in-Unary.a) c.in-Not.is) c.deref.ensures c.in_ok-test-in-Not.ensures.tells refl) c.counted_test.ensures.holds c.counted_test.ensures.steps

pub made_test_of-returns-in_ok-test-in-Paren-clause-tells : goal.made_test_of-returns-in_ok-test-in-Paren-clause-tells
made_test_of-returns-in_ok-test-in-Paren-clause-tells t c =
    told_so c.args.x.now c.args.slots.now c.args.store.now.heap c.in_ok-test-in-Paren.test.holds (c.in_ok-test-in-Paren.test.steps + 1) c.counted_test-in-Paren.result
    (paren_tells c.args.x.now c.in-Paren.a c.deref-in-Paren.result.now c.args.slots.now c.args.store.now.heap c.in_ok-test-in-Paren.test.holds c.in_ok-test-in-Paren.test.steps (c.in_ok-test-in-Paren.test.steps + 1)
    c.in-Paren.is c.deref-in-Paren.ensures c.in_ok-test-in-Paren.ensures.tells refl) c.counted_test-in-Paren.ensures.holds c.counted_test-in-Paren.ensures.steps

pub made_test_of-returns-in-And-clause-tells : goal.made_test_of-returns-in-And-clause-tells
made_test_of-returns-in-And-clause-tells t c =
    and_tells c.args.x.now c.in-And.a c.in-And.b c.deref-in-And.result.now c.deref-in-And-2.result.now c.args.slots.now c.args.store.now.heap c.joined_test_of.result
    c.in-And.is c.deref-in-And.ensures c.deref-in-And-2.ensures c.joined_test_of.ensures.tells

pub made_test_of-returns-in-Or-clause-tells : goal.made_test_of-returns-in-Or-clause-tells
made_test_of-returns-in-Or-clause-tells t c =
    or_tells c.args.x.now c.in-Or.a c.in-Or.b c.deref-in-Or.result.now c.deref-in-Or-2.result.now c.args.slots.now c.args.store.now.heap c.joined_test_of-in-Or.result
    c.in-Or.is c.deref-in-Or.ensures c.deref-in-Or-2.ensures c.joined_test_of-in-Or.ensures.tells

pub joined_test_of-returns-then-not-as_wanted-clause-tells : goal.joined_test_of-returns-then-not-as_wanted-clause-tells
joined_test_of-returns-then-not-as_wanted-clause-tells t c =
    joined_so c.args.goes_on c.args.a.now c.args.b.now c.args.slots.now c.args.store.now.heap c.in_ok-first.first.holds (c.in_ok-first.first.steps + 1) c.counted_test.result
    (joined_stops c.args.goes_on c.args.a.now c.args.b.now c.args.slots.now c.args.store.now.heap c.in_ok-first.first.holds c.in_ok-first.first.steps (sym c.as_wanted.ensures ∙ c.if-not-as_wanted.true) c.in_ok-first.ensures.tells)
    c.counted_test.ensures.holds c.counted_test.ensures.steps

pub joined_test_of-returns-clause-tells : goal.joined_test_of-returns-clause-tells
joined_test_of-returns-clause-tells t c =
    joined_so c.args.goes_on c.args.a.now c.args.b.now c.args.slots.now c.args.store.now.heap c.in_ok-second.second.holds (c.in_ok-first.first.steps + c.in_ok-second.second.steps + 1) c.counted_test-2.result
    (joined_goes c.args.goes_on c.args.a.now c.args.b.now c.args.slots.now c.args.store.now.heap c.in_ok-first.first.holds c.in_ok-second.second.holds c.in_ok-first.first.steps c.in_ok-second.second.steps
    (sym c.as_wanted.ensures ∙ c.if-not-as_wanted.false) c.in_ok-first.ensures.tells c.in_ok-second.ensures.tells)
    c.counted_test-2.ensures.holds c.counted_test-2.ensures.steps
