use Rattle.std.proofs.Common.{ℕ, List, ◌∙◌, ap, refl, Vec, Global}
use Rattle.lua_meaning.specs.Variables.{with_locals}
use Rattle.lua_frames.specs.declared.loops.Iteration.{Iteration}
use Rattle.lua_frames.specs.Frames.{slots_of}
use Rattle.lua_frames.proofs.FollowLemmas.{enters_spent}
use Rattle.lua_vm_loops.specs.Iterations.{pass_of}
use Rattle.lua_vm_loops.proofs.IterationForms.{run_passes}
use Rattle.lua_vm_loops.proofs.iterating.enter_pass.Goals as goal

pub returns-then-not-count : goal.returns-then-not-count
returns-then-not-count c = λ S. enters_spent S (pass_of c.args.iteration c.args.values.items) c.args.frames.now _ c.args.store.now _ c.count.result c.count.ensures.below c.if-not-count.true

pub returns : goal.returns
returns c = λ S.
    run_passes S c.args.iteration c.args.control c.args.values.items c.in_ok-block.block c.args.frames.now _ c.wait.new.frames c.begin_block.new.frames c.args.store.now c.count.new.self c.count.new.self c.count.result c.begin_block.result
    c.count.ensures.counted c.count.ensures.below c.if-not-count.false c.requires (record { below = refl; kind = refl; function = refl; cells = refl; extras = refl; items = refl })
    (c.set_locals.ensures ∙ ap (λ (places : List ℕ). with_locals places c.args.values.items (slots_of c.args.frames.now)) (c.deref-2.ensures.value ∙ ap (λ (v : Vec ℕ Global). v.items) (c.deref.ensures ∙ ap (λ (it : Iteration). it.slots.value) c.get.ensures)))
    (c.in_ok-block.ensures ∙ ap (λ (it : Iteration). it.body.value) c.get-2.ensures) c.in_ok-wait.ensures (c.begin_block.ensures S c.count.new.self)
