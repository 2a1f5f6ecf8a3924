use Rattle.std.proofs.Common.{arith, true, false}
use Rattle.lua_meaning.specs.Loops.{while_work}
use Rattle.lua_vm_fast.proofs.RunLemmas.{tests_as, loop_stays, loop_ends, turn_goes, turn_ends}
use Rattle.lua_vm_fast.proofs.loops.run_turns.Goals as goal

pub returns-in-None : goal.returns-in-None
returns-in-None c = λ S p a.
    loop_stays S p (while_work c.args.test.now.value c.args.body.now p c.args.slots.now.items) c.args.test.now.value c.args.body.now c.loop.slots.items c.args.store.now c.loop.store c.take_test.new.store
    (c.loop.invariant S p a) (rw c.in-None.is at c.take_test.ensures)

pub returns-then-not-holds : goal.returns-then-not-holds
returns-then-not-holds c = λ S p a.
    loop_ends S p (while_work c.args.test.now.value c.args.body.now p c.args.slots.now.items) c.args.test.now.value c.args.body.now c.loop.slots.items c.args.store.now c.loop.store c.take_test.new.store
    (c.loop.invariant S p a) (tests_as c.deref-in-loop.result.now c.args.test.now.value c.deref.result.now c.loop.slots.items c.in-Some.holds false c.take_test.result c.loop.store c.take_test.new.store c.in-Some.is c.if-not-holds.true c.deref-in-loop.ensures c.deref.ensures.value c.take_test.ensures)

pub returns-then-next-body : goal.returns-then-next-body
returns-then-next-body c = λ S p a.
    turn_goes S p (while_work c.args.test.now.value c.args.body.now p c.args.slots.now.items) c.args.test.now.value c.args.body.now c.run_simple-next.result c.loop.slots.items c.run_simple-next.new.slots.items c.args.store.now c.loop.store c.take_test.new.store c.run_simple-next.new.store
    (c.loop.invariant S p a) (tests_as c.deref-in-loop.result.now c.args.test.now.value c.deref.result.now c.loop.slots.items c.in-Some.holds true c.take_test.result c.loop.store c.take_test.new.store c.in-Some.is c.if-not-holds.false c.deref-in-loop.ensures c.deref.ensures.value c.take_test.ensures) (c.run_simple-next.ensures S p a)

pub loop-preserved : goal.loop-preserved
loop-preserved c = λ S p a.
    turn_ends S p (while_work c.args.test.now.value c.args.body.now p c.args.slots.now.items) c.args.test.now.value c.args.body.now c.run_simple-next.result c.run_simple-next.new.slots.items c.args.store.now c.run_simple-next.new.store
    (omega (arith, c.if-next-body.false))
    (turn_goes S p (while_work c.args.test.now.value c.args.body.now p c.args.slots.now.items) c.args.test.now.value c.args.body.now c.run_simple-next.result c.loop.slots.items c.run_simple-next.new.slots.items c.args.store.now c.loop.store c.take_test.new.store c.run_simple-next.new.store
    (c.loop.invariant S p a) (tests_as c.deref-in-loop.result.now c.args.test.now.value c.deref.result.now c.loop.slots.items c.in-Some.holds true c.take_test.result c.loop.store c.take_test.new.store c.in-Some.is c.if-not-holds.false c.deref-in-loop.ensures c.deref.ensures.value c.take_test.ensures) (c.run_simple-next.ensures S p a))
