use Rattle.std.proofs.Common.{◌≡◌, ◌∷◌, [], ap, sym}
use Rattle.lua_values.specs.declared.values.Value.{Value}
use Rattle.lua_values.specs.declared.values.Value.TheVariants.{Text}
use Rattle.lua_meaning.specs.Works.{and_then}
use Rattle.lua_meaning.specs.Indexing.{index_work}
use Rattle.lua_meaning.specs.Statements.{tail_work}
use Rattle.lua_frames.specs.declared.items.Item.TheVariants as i
use Rattle.lua_frames.specs.Items.{on_value}
use Rattle.lua_frames.specs.Frames.{here, slots_of}
use Rattle.lua_frames.proofs.FollowLemmas.{works_as}
use Rattle.lua_frames.proofs.TakeForms.{takes_one}
use Rattle.lua_vm_tables.specs.Methods.{method_then}
use Rattle.lua_vm_tables.proofs.methods.tail_method.Goals as goal

pub returns-in_ok-called-in-Some : goal.returns-in_ok-called-in-Some
returns-in_ok-called-in-Some g c =
    let same : c.in_ok-called-in-Some.called ≡ c.in-Some.object = cc (c.in_ok-called-in-Some.ensures, c.in_ok-clone-in-Some.ensures.cases) in
    takes_one (g.H.Host.setting c.args.host.now) (λ p object s. and_then (index_work (g.H.Host.setting c.args.host.now) c.args.line object (Text c.args.name) p s) (on_value (λ f s'. tail_work c.args.line f (object ∷ []) c.args.args.value.items p s'))) c.in-Some.object
    c.args.frames.now c.take_first.new.frames c.look_up.new.frames c.args.store.now c.look_up.new.store c.look_up.result
    (rw c.in-Some.is at c.take_first.ensures.value) c.take_first.ensures.below c.take_first.ensures.top
    (works_as _ _ _ _ _ _ _ _ c.look_up.ensures (ap (λ (o : Value). method_then (g.H.Host.setting c.args.host.now) c.args.line c.in-Some.object c.args.name (i.TailMethodCallee c.args.line o c.args.args) (here c.take_first.new.frames) (slots_of c.take_first.new.frames)) (sym same)))
