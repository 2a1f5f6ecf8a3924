use Rattle.std.proofs.Common.{sym, ◌∙◌, [], if◌then◌else◌}
use Rattle.lua_operators.specs.Types.{is_truthy}
use Rattle.lua_meaning.specs.Works.{ATurn}
use Rattle.lua_meaning.specs.Signs.{give}
use Rattle.lua_meaning.specs.Loops.{again}
use Rattle.lua_frames.specs.Frames.{here, slots_of}
use Rattle.lua_frames.proofs.FollowLemmas.{enters_works}
use Rattle.lua_vm_loops.proofs.RunForms.{by_truth}
use Rattle.lua_frames.proofs.TakeForms.{takes_one}
use Rattle.lua_vm_loops.proofs.whiles.while_test.Goals as goal

pub returns-then-is_truthy : goal.returns-then-is_truthy
returns-then-is_truthy c = λ S.
    takes_one S (λ p v s. if is_truthy v then again (ATurn c.args.test.value c.args.body.value.items) p s else give [] s) c.in-Some.value
    c.args.frames.now c.take_first.new.frames c.enter_turn.new.frames c.args.store.now c.enter_turn.new.store c.enter_turn.result
    (rw c.in-Some.is at c.take_first.ensures.value) c.take_first.ensures.below c.take_first.ensures.top
    (by_truth S (is_truthy c.in-Some.value) (again (ATurn c.args.test.value c.args.body.value.items) (here c.take_first.new.frames) (slots_of c.take_first.new.frames)) (give [] (slots_of c.take_first.new.frames)) c.take_first.new.frames c.enter_turn.new.frames c.args.store.now c.enter_turn.new.store c.enter_turn.result
    (sym c.is_truthy.ensures ∙ c.if-is_truthy.true)
    (enters_works S (ATurn c.args.test.value c.args.body.value.items) c.take_first.new.frames c.enter_turn.new.frames c.args.store.now c.enter_turn.new.store c.enter_turn.result (c.enter_turn.ensures S)))
