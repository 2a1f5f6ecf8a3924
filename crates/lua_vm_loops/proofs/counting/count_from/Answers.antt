use Rattle.std.proofs.Common.{refl}
use Rattle.lua_vm_fast.specs.declared.counting.CountEnd.TheVariants as count_end
use Rattle.lua_frames.specs.Frames.{here}
use Rattle.lua_vm_loops.proofs.SiteLemmas.{allows_here}
use Rattle.lua_vm_loops.proofs.CountForms.{count_goes, count_over, count_next}
use Rattle.lua_vm_loops.proofs.counting.count_from.Goals as goal

pub returns-in-Over : goal.returns-in-Over
returns-in-Over c = λ S is.
    let mid = record c.args.frames.now { top = record c.args.frames.now.top { slots = c.run_for.new.slots } } in
    count_goes S c.args.counter count_end.Over c.run_for.result c.args.frames.now mid c.give_nothing.new.frames c.args.store.now c.run_for.new.store c.run_for.new.store c.give_nothing.result
    (record { below = refl; kind = refl; function = refl; cells = refl; extras = refl; items = refl }) c.in-Over.is (c.run_for.ensures S c.args.counter.line (here c.args.frames.now) (allows_here S c.args.frames.now _ is c.as_slice.ensures.value c.levels_of-levels.ensures))
    (count_over S c.args.counter mid c.give_nothing.new.frames c.run_for.new.store c.give_nothing.result c.give_nothing.ensures)

pub returns-in-Next : goal.returns-in-Next
returns-in-Next c = λ S is.
    let mid = record c.args.frames.now { top = record c.args.frames.now.top { slots = c.run_for.new.slots } } in
    count_goes S c.args.counter (count_end.Next c.in-Next.at) c.run_for.result c.args.frames.now mid c.enter_run.new.frames c.args.store.now c.run_for.new.store c.enter_run.new.store c.enter_run.result
    (record { below = refl; kind = refl; function = refl; cells = refl; extras = refl; items = refl }) c.in-Next.is (c.run_for.ensures S c.args.counter.line (here c.args.frames.now) (allows_here S c.args.frames.now _ is c.as_slice.ensures.value c.levels_of-levels.ensures))
    (count_next S c.args.counter c.in-Next.at mid c.enter_run.new.frames c.run_for.new.store c.enter_run.new.store c.enter_run.result (c.enter_run.ensures S))

pub returns-in-Body : goal.returns-in-Body
returns-in-Body c = λ S is.
    let mid = record c.args.frames.now { top = record c.args.frames.now.top { slots = c.run_for.new.slots } } in
    count_goes S c.args.counter (count_end.Body c.in-Body.at c.in-Body.next) c.run_for.result c.args.frames.now mid c.go_on_with_run.new.frames c.args.store.now c.run_for.new.store c.run_for.new.store c.go_on_with_run.result
    (record { below = refl; kind = refl; function = refl; cells = refl; extras = refl; items = refl }) c.in-Body.is (c.run_for.ensures S c.args.counter.line (here c.args.frames.now) (allows_here S c.args.frames.now _ is c.as_slice.ensures.value c.levels_of-levels.ensures)) (c.go_on_with_run.ensures S c.run_for.new.store)
