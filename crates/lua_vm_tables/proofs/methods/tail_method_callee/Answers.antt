use Rattle.std.proofs.Common.{ap, sym, ◌∷◌, []}
use Rattle.lua_values.specs.declared.values.Value.{Value}
use Rattle.lua_frames.specs.Frames.{here, slots_of}
use Rattle.lua_frames.proofs.FollowLemmas.{works_as}
use Rattle.lua_meaning.specs.Statements.{tail_work}
use Rattle.lua_frames.proofs.TakeForms.{takes_one}
use Rattle.lua_vm_tables.proofs.methods.tail_method_callee.Goals as goal

pub returns-in_ok-function-in-Some : goal.returns-in_ok-function-in-Some
returns-in_ok-function-in-Some g c =
    takes_one (g.H.Host.setting c.args.host.now) (λ p f s. tail_work c.args.line f (c.args.object ∷ []) c.args.args.value.items p s) c.in-Some.function
    c.args.frames.now c.take_first.new.frames c.list_under.new.frames c.args.store.now c.list_under.new.store c.list_under.result
    (rw c.in-Some.is at c.take_first.ensures.value) c.take_first.ensures.below c.take_first.ensures.top
    (works_as _ _ _ _ _ _ _ _ c.list_under.ensures (ap (λ (f : Value). tail_work c.args.line f (c.args.object ∷ []) c.args.args.value.items (here c.take_first.new.frames) (slots_of c.take_first.new.frames)) (sym c.in_ok-function-in-Some.ensures)))
