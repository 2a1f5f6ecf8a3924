use Rattle.std.proofs.Common.{drop}
use Rattle.lua_frames.specs.Frames.{here, slots_of}
use Rattle.lua_meaning.specs.Signs.{first}
use Rattle.lua_meaning.specs.Loops.{iterate}
use Rattle.lua_frames.proofs.FollowLemmas.{works_as}
use Rattle.lua_frames.proofs.TakeForms.{takes_all}
use Rattle.lua_vm_loops.proofs.IterationForms.{iteration_begins}
use Rattle.lua_vm_loops.proofs.iterating.iterate.Goals as goal

pub returns-in_ok-iteration-in-Some : goal.returns-in_ok-iteration-in-Some
returns-in_ok-iteration-in-Some g c =
    takes_all (g.H.Host.setting c.args.host.now) (λ p vs s. iterate c.args.line c.args.slots.value.items (first vs) (first (drop 1 vs)) (first (drop 2 vs)) c.args.body.value.items p s) c.in-Some.values.items
    c.args.frames.now _ c.call_next.new.frames c.args.store.now c.call_next.new.store c.call_next.result
    (rw c.in-Some.is at c.in_ok-take_values.ensures.values) c.in_ok-take_values.ensures.below c.in_ok-take_values.ensures.top
    (works_as (g.H.Host.setting c.args.host.now) _ _ _ c.call_next.new.frames c.args.store.now c.call_next.new.store c.call_next.result c.call_next.ensures
    (iteration_begins c.args.line c.args.slots c.args.body c.in_ok-iteration-in-Some.iteration c.take_value.result c.take_value-in-Some.result c.take_value-control.result c.in-Some.values.items c.take_value.new.values.items c.take_value-in-Some.new.values.items
    (here c.take_values.new.frames) (slots_of c.take_values.new.frames) c.in_ok-iteration-in-Some.ensures c.take_value.ensures.value c.take_value.ensures.left c.take_value-in-Some.ensures.value c.take_value-in-Some.ensures.left c.take_value-control.ensures.value))
