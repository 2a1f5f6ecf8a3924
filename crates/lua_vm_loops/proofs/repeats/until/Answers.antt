use Rattle.std.proofs.Common.{sym, ◌∙◌, []}
use Rattle.lua_operators.specs.Types.{is_truthy}
use Rattle.lua_meaning.specs.Works.{ARepeat}
use Rattle.lua_meaning.specs.Signs.{give}
use Rattle.lua_meaning.specs.Loops.{again}
use Rattle.lua_frames.specs.Frames.{here, slots_of}
use Rattle.lua_frames.specs.Items.{until}
use Rattle.lua_frames.proofs.TakeForms.{takes_one}
use Rattle.lua_vm_loops.proofs.RunForms.{by_untruth}
use Rattle.lua_vm_loops.proofs.repeats.until.Goals as goal

pub returns-else-is_truthy : goal.returns-else-is_truthy
returns-else-is_truthy c = λ S.
    takes_one S (λ p v s. until c.args.body.value.items c.args.test.value p v s) c.in-Some.value
    c.args.frames.now c.take_first.new.frames c.begin_repeat.new.frames c.args.store.now c.begin_repeat.new.store c.begin_repeat.result
    (rw c.in-Some.is at c.take_first.ensures.value) c.take_first.ensures.below c.take_first.ensures.top
    (by_untruth S (is_truthy c.in-Some.value) (give [] (slots_of c.take_first.new.frames)) (again (ARepeat c.args.body.value.items c.args.test.value) (here c.take_first.new.frames) (slots_of c.take_first.new.frames)) c.take_first.new.frames c.begin_repeat.new.frames c.args.store.now c.begin_repeat.new.store c.begin_repeat.result
    (sym c.is_truthy.ensures ∙ c.if-is_truthy.false) (c.begin_repeat.ensures S))
