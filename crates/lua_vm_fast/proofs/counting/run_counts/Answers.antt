use Rattle.std.proofs.Common.{arith, []}
use Rattle.lua_meaning.specs.Loops.{for_from}
use Rattle.lua_meaning.specs.Signs.{give}
use Rattle.lua_vm_fast.specs.Counts.{run_at}
use Rattle.lua_vm_fast.proofs.CountLemmas.{within_runs, beyond_ends, becomes_as, becomes_same, run_stays, run_goes, run_ends}
use Rattle.lua_vm_fast.proofs.counting.run_counts.Goals as goal

pub returns-then-not-is_within : goal.returns-then-not-is_within
returns-then-not-is_within c = λ S line p a.
    becomes_same S (for_from line c.args.count.now.slot c.args.from c.args.count.now.limit c.args.count.now.step c.args.body.now p c.args.slots.now.items) (give [] c.args.slots.now.items) c.args.store.now
    (beyond_ends line c.args.count.now c.args.from c.args.body.now p c.args.slots.now.items c.is_within.result c.is_within.ensures c.if-not-is_within.true)

pub loop-init : goal.loop-init
loop-init c = λ S line p a.
    becomes_same S (for_from line c.args.count.now.slot c.args.from c.args.count.now.limit c.args.count.now.step c.args.body.now p c.args.slots.now.items) (run_at line c.args.count.now c.args.from c.args.body.now p c.args.slots.now.items) c.args.store.now
    (within_runs line c.args.count.now c.args.from c.args.body.now p c.args.slots.now.items c.is_within.result c.is_within.ensures c.if-not-is_within.false)

pub returns-then-not-take_run : goal.returns-then-not-take_run
returns-then-not-take_run c = λ S line p a.
    run_stays S line c.args.count.now c.loop.at c.args.body.now p (for_from line c.args.count.now.slot c.args.from c.args.count.now.limit c.args.count.now.step c.args.body.now p c.args.slots.now.items) c.loop.slots.items c.take_run.new.slots.items c.args.store.now c.loop.store c.take_run.new.store
    (c.loop.invariant S line p a) (rw c.if-not-take_run.true at c.take_run.ensures)

pub returns-then-next-body : goal.returns-then-next-body
returns-then-next-body c = λ S line p a.
    run_goes S line c.args.count.now c.loop.at c.args.body.now c.run_simple-next.result p (for_from line c.args.count.now.slot c.args.from c.args.count.now.limit c.args.count.now.step c.args.body.now p c.args.slots.now.items) c.loop.slots.items c.take_run.new.slots.items c.run_simple-next.new.slots.items c.args.store.now c.loop.store c.take_run.new.store c.run_simple-next.new.store
    (c.loop.invariant S line p a) (rw c.if-not-take_run.false at c.take_run.ensures) (c.run_simple-next.ensures S p a)

pub returns-in-Err : goal.returns-in-Err
returns-in-Err c = λ S line p a.
    run_goes S line c.args.count.now c.loop.at c.args.body.now c.run_simple-next.result p (for_from line c.args.count.now.slot c.args.from c.args.count.now.limit c.args.count.now.step c.args.body.now p c.args.slots.now.items) c.loop.slots.items c.take_run.new.slots.items c.run_simple-next.new.slots.items c.args.store.now c.loop.store c.take_run.new.store c.run_simple-next.new.store
    (c.loop.invariant S line p a) (rw c.if-not-take_run.false at c.take_run.ensures) (c.run_simple-next.ensures S p a)

pub returns-then-not-is_within-2 : goal.returns-then-not-is_within-2
returns-then-not-is_within-2 c = λ S line p a.
    becomes_as S (for_from line c.args.count.now.slot c.args.from c.args.count.now.limit c.args.count.now.step c.args.body.now p c.args.slots.now.items) (for_from line c.args.count.now.slot c.in-Ok.number c.args.count.now.limit c.args.count.now.step c.args.body.now p c.run_simple-next.new.slots.items) (give [] c.run_simple-next.new.slots.items) c.args.store.now c.run_simple-next.new.store
    (run_ends S line c.args.count.now c.loop.at c.in-Ok.number c.add.result c.args.body.now c.run_simple-next.result p (for_from line c.args.count.now.slot c.args.from c.args.count.now.limit c.args.count.now.step c.args.body.now p c.args.slots.now.items) c.run_simple-next.new.slots.items c.args.store.now c.run_simple-next.new.store (omega (arith, c.if-next-body.false)) c.add.ensures c.in-Ok.is
    (run_goes S line c.args.count.now c.loop.at c.args.body.now c.run_simple-next.result p (for_from line c.args.count.now.slot c.args.from c.args.count.now.limit c.args.count.now.step c.args.body.now p c.args.slots.now.items) c.loop.slots.items c.take_run.new.slots.items c.run_simple-next.new.slots.items c.args.store.now c.loop.store c.take_run.new.store c.run_simple-next.new.store
    (c.loop.invariant S line p a) (rw c.if-not-take_run.false at c.take_run.ensures) (c.run_simple-next.ensures S p a)))
    (beyond_ends line c.args.count.now c.in-Ok.number c.args.body.now p c.run_simple-next.new.slots.items c.is_within-in-Ok.result c.is_within-in-Ok.ensures c.if-not-is_within-2.true)

pub loop-preserved : goal.loop-preserved
loop-preserved c = λ S line p a.
    becomes_as S (for_from line c.args.count.now.slot c.args.from c.args.count.now.limit c.args.count.now.step c.args.body.now p c.args.slots.now.items) (for_from line c.args.count.now.slot c.in-Ok.number c.args.count.now.limit c.args.count.now.step c.args.body.now p c.run_simple-next.new.slots.items)
    (run_at line c.args.count.now c.in-Ok.number c.args.body.now p c.run_simple-next.new.slots.items) c.args.store.now c.run_simple-next.new.store
    (run_ends S line c.args.count.now c.loop.at c.in-Ok.number c.add.result c.args.body.now c.run_simple-next.result p (for_from line c.args.count.now.slot c.args.from c.args.count.now.limit c.args.count.now.step c.args.body.now p c.args.slots.now.items) c.run_simple-next.new.slots.items c.args.store.now c.run_simple-next.new.store (omega (arith, c.if-next-body.false)) c.add.ensures c.in-Ok.is
    (run_goes S line c.args.count.now c.loop.at c.args.body.now c.run_simple-next.result p (for_from line c.args.count.now.slot c.args.from c.args.count.now.limit c.args.count.now.step c.args.body.now p c.args.slots.now.items) c.loop.slots.items c.take_run.new.slots.items c.run_simple-next.new.slots.items c.args.store.now c.loop.store c.take_run.new.store c.run_simple-next.new.store
    (c.loop.invariant S line p a) (rw c.if-not-take_run.false at c.take_run.ensures) (c.run_simple-next.ensures S p a)))
    (within_runs line c.args.count.now c.in-Ok.number c.args.body.now p c.run_simple-next.new.slots.items c.is_within-in-Ok.result c.is_within-in-Ok.ensures c.if-not-is_within-2.false)
