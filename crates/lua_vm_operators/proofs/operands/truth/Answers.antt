use Rattle.std.proofs.Common.{[], ◌∷◌, ◌∙◌, sym, ap, if◌then◌else◌, Bool}
use Rattle.std.specs.Prelude.{not}
use Rattle.lua_values.specs.declared.values.Value.TheVariants.{Truth}
use Rattle.lua_operators.specs.Types.{is_truthy}
use Rattle.lua_meaning.specs.Works.{Values}
use Rattle.lua_meaning.specs.Signs.{give_one}
use Rattle.lua_meaning.specs.Comparison.{give_truth}
use Rattle.lua_frames.specs.Frames.{slots_of}
use Rattle.lua_frames.proofs.FollowLemmas.{works_as, ends_works}
use Rattle.lua_frames.proofs.TakeForms.{takes_one}
use Rattle.lua_vm_operators.proofs.operands.truth.Goals as goal

pub returns-in-Some : goal.returns-in-Some
returns-in-Some c = λ S store.
    takes_one S (λ p v s. give_truth c.args.wanted (is_truthy v) s) c.in-Some.value c.args.frames.now c.take_first.new.frames c.give_one.new.frames store store c.give_one.result
    (rw c.in-Some.is at c.take_first.ensures.value) c.take_first.ensures.below c.take_first.ensures.top
    (works_as S (give_truth c.args.wanted (is_truthy c.in-Some.value) (slots_of c.take_first.new.frames)) (give_one (Truth c.holds_as.result) (slots_of c.take_first.new.frames)) c.take_first.new.frames c.give_one.new.frames store store c.give_one.result
    (ends_works S (Values (Truth c.holds_as.result ∷ [])) c.take_first.new.frames c.give_one.new.frames store c.give_one.result c.give_one.ensures)
    (ap (λ (t : Bool). give_one (Truth t) (slots_of c.take_first.new.frames)) (sym (c.holds_as.ensures ∙ ap (λ (t : Bool). if c.args.wanted then t else not t) c.is_truthy.ensures))))
