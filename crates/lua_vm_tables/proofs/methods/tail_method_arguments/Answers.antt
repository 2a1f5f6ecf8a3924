use Rattle.std.proofs.Common.{◌∷◌, List, ap, sym}
use Rattle.lua_values.specs.declared.values.Value.{Value}
use Rattle.lua_meaning.specs.Positions.{callers_at}
use Rattle.lua_meaning.specs.Calls.{tail_call}
use Rattle.lua_frames.specs.Frames.{here, slots_of}
use Rattle.lua_frames.proofs.FollowLemmas.{works_as}
use Rattle.lua_frames.proofs.TakeForms.{takes_all}
use Rattle.lua_vm_tables.proofs.methods.tail_method_arguments.Goals as goal

pub returns-in_ok-all-in-Some : goal.returns-in_ok-all-in-Some
returns-in_ok-all-in-Some g c =
    takes_all (g.H.Host.setting c.args.host.now) (λ p vs s. tail_call (callers_at p c.args.line) c.args.function (c.args.object ∷ vs) s) c.in-Some.args.items
    c.args.frames.now c.take_values.new.frames c.enter_tail_call.new.frames c.args.store.now c.enter_tail_call.new.store c.enter_tail_call.result
    (rw c.in-Some.is at c.in_ok-take_values.ensures.values) c.in_ok-take_values.ensures.below c.in_ok-take_values.ensures.top
    (works_as _ _ _ _ _ _ _ _ c.enter_tail_call.ensures (ap (λ (vs : List Value). tail_call (callers_at (here c.take_values.new.frames) c.args.line) c.args.function vs (slots_of c.take_values.new.frames)) (sym c.in_ok-all-in-Some.ensures)))
