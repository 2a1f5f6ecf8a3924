use Rattle.std.proofs.Common.{◌∷◌, [], ◌∙◌, ap, refl}
use Rattle.lua_values.specs.declared.values.Value.{Value}
use Rattle.lua_frames.specs.Frames.{here, slots_of}
use Rattle.lua_frames.specs.declared.loops.Iteration.{Iteration}
use Rattle.lua_frames.specs.Items.{iterating}
use Rattle.lua_frames.proofs.FollowLemmas.{works_from}
use Rattle.lua_vm_loops.proofs.IterationForms.{iteration_calls}
use Rattle.lua_vm_loops.proofs.iterating.call_next.Goals as goal

pub returns : goal.returns
returns g c =
    works_from (g.H.Host.setting c.args.host.now) (iterating c.args.iteration c.args.control (here c.args.frames.now) (slots_of c.args.frames.now)) c.args.frames.now _ c.enter_call.new.frames c.args.store.now c.enter_call.new.store c.enter_call.result refl refl
    (iteration_calls (g.H.Host.setting c.args.host.now) c.args.iteration c.args.control c.get.result.now.line c.in_ok-function.function c.in_ok-args.args.items _ c.wait.new.frames c.enter_call.new.frames c.args.store.now c.enter_call.new.store c.enter_call.result
    (ap (λ (it : Iteration). it.line) c.get.ensures) (c.in_ok-function.ensures.cases ∙ ap (λ (it : Iteration). it.function) c.get-2.ensures)
    (c.in_ok-args.ensures ∙ ap (λ (v : Value). v ∷ c.args.control ∷ []) (c.in_ok-state.ensures.cases ∙ ap (λ (it : Iteration). it.state) c.get-3.ensures)) c.in_ok-wait.ensures c.enter_call.ensures)
