use Rattle.std.proofs.Common.{refl, sym}
use Rattle.lua_vm_fast.specs.declared.loops.LoopEnd.TheVariants as loop_end
use Rattle.lua_frames.specs.Frames.{here}
use Rattle.lua_vm_loops.proofs.SiteLemmas.{allows_here}
use Rattle.lua_vm_loops.proofs.WhileForms.{loop_goes, loop_over, loop_tests, loop_turns}
use Rattle.lua_vm_loops.proofs.whiles.go_on.Goals as goal

pub returns-in-Over : goal.returns-in-Over
returns-in-Over g c =
    let mid = record c.args.frames.now { top = record c.args.frames.now.top { slots = c.run_loop.new.slots } } in
    loop_goes (g.H.Host.setting c.args.host.now) c.args.test c.args.body loop_end.Over c.run_loop.result c.args.frames.now mid c.give_nothing.new.frames c.args.store.now c.run_loop.new.store c.run_loop.new.store c.give_nothing.result
    (record { below = refl; kind = refl; function = refl; cells = refl; extras = refl; items = refl }) c.in-Over.is (c.run_loop.ensures (g.H.Host.setting c.args.host.now) (here c.args.frames.now) (allows_here (g.H.Host.setting c.args.host.now) c.args.frames.now _ (sym c.program.ensures) c.as_slice.ensures.value c.levels_of-levels.ensures))
    (loop_over (g.H.Host.setting c.args.host.now) c.args.test.value c.args.body.value.items mid c.give_nothing.new.frames c.run_loop.new.store c.give_nothing.result c.give_nothing.ensures)

pub returns-in_ok-again-in-Test : goal.returns-in_ok-again-in-Test
returns-in_ok-again-in-Test g c =
    let mid = record c.args.frames.now { top = record c.args.frames.now.top { slots = c.run_loop.new.slots } } in
    loop_goes (g.H.Host.setting c.args.host.now) c.args.test c.args.body loop_end.Test c.run_loop.result c.args.frames.now mid c.value_under.new.frames c.args.store.now c.run_loop.new.store c.value_under.new.store c.value_under.result
    (record { below = refl; kind = refl; function = refl; cells = refl; extras = refl; items = refl }) c.in-Test.is (c.run_loop.ensures (g.H.Host.setting c.args.host.now) (here c.args.frames.now) (allows_here (g.H.Host.setting c.args.host.now) c.args.frames.now _ (sym c.program.ensures) c.as_slice.ensures.value c.levels_of-levels.ensures))
    (loop_tests (g.H.Host.setting c.args.host.now) c.args.test c.in_ok-again-in-Test.again c.deref.result.now c.args.body mid c.value_under.new.frames c.run_loop.new.store c.value_under.new.store c.value_under.result
    c.in_ok-again-in-Test.ensures c.deref.ensures c.value_under.ensures)

pub returns-in_ok-wait-in-Body : goal.returns-in_ok-wait-in-Body
returns-in_ok-wait-in-Body g c =
    let mid = record c.args.frames.now { top = record c.args.frames.now.top { slots = c.run_loop.new.slots } } in
    loop_goes (g.H.Host.setting c.args.host.now) c.args.test c.args.body (loop_end.Body c.in-Body.next) c.run_loop.result c.args.frames.now mid c.begin_rest.new.frames c.args.store.now c.run_loop.new.store c.run_loop.new.store c.begin_rest.result
    (record { below = refl; kind = refl; function = refl; cells = refl; extras = refl; items = refl }) c.in-Body.is (c.run_loop.ensures (g.H.Host.setting c.args.host.now) (here c.args.frames.now) (allows_here (g.H.Host.setting c.args.host.now) c.args.frames.now _ (sym c.program.ensures) c.as_slice.ensures.value c.levels_of-levels.ensures))
    (loop_turns (g.H.Host.setting c.args.host.now) c.args.test c.args.body c.in_ok-block-in-Body.block c.in-Body.next mid c.wait.new.frames c.begin_rest.new.frames c.run_loop.new.store c.run_loop.new.store c.begin_rest.result
    c.in_ok-block-in-Body.ensures c.in_ok-wait-in-Body.ensures (c.begin_rest.ensures (g.H.Host.setting c.args.host.now) c.run_loop.new.store))
