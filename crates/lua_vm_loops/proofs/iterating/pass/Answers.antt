use Rattle.std.proofs.Common.{List, [], ◌∙◌, ap, refl}
use Rattle.lua_frames.specs.Frames.{here, slots_of}
use Rattle.lua_meaning.specs.Works.{Values}
use Rattle.lua_values.specs.declared.values.Value.{Value}
use Rattle.lua_meaning.specs.Signs.{first, give}
use Rattle.lua_frames.proofs.FollowLemmas.{works_as, works_from, ends_works, enters_works}
use Rattle.lua_vm_loops.specs.Iterations.{pass_of}
use Rattle.lua_vm_loops.proofs.IterationForms.{passing_ends, passing_goes}
use Rattle.lua_vm_loops.proofs.iterating.pass.Goals as goal

pub returns-then-is_nil : goal.returns-then-is_nil
returns-then-is_nil c = λ S.
    works_as S _ (give [] (slots_of c.args.frames.now)) c.args.frames.now c.give_nothing.new.frames c.args.store.now c.args.store.now c.give_nothing.result
    (works_from S (give [] (slots_of c.args.frames.now)) c.args.frames.now _ c.give_nothing.new.frames c.args.store.now c.args.store.now c.give_nothing.result refl refl
    (ends_works S (Values []) _ c.give_nothing.new.frames c.args.store.now c.give_nothing.result c.give_nothing.ensures))
    (passing_ends c.args.iteration c.in_ok-control.control c.is_nil.result c.args.values.items (here c.args.frames.now) (slots_of c.args.frames.now) (c.in_ok-control.ensures ∙ ap (λ (vs : List Value). first vs) c.deref.ensures.value) c.is_nil.ensures c.if-is_nil.true)

pub returns-else-is_nil : goal.returns-else-is_nil
returns-else-is_nil c = λ S.
    works_as S _ _ c.args.frames.now c.enter_pass.new.frames c.args.store.now c.enter_pass.new.store c.enter_pass.result
    (enters_works S (pass_of c.args.iteration c.args.values.items) c.args.frames.now c.enter_pass.new.frames c.args.store.now c.enter_pass.new.store c.enter_pass.result (c.enter_pass.ensures S))
    (passing_goes c.args.iteration c.in_ok-control.control c.is_nil.result c.args.values.items (here c.args.frames.now) (slots_of c.args.frames.now) (c.in_ok-control.ensures ∙ ap (λ (vs : List Value). first vs) c.deref.ensures.value) c.is_nil.ensures c.if-is_nil.false)
