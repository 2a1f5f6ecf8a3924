use Rattle.std.proofs.Common.{sym, ◌∙◌}
use Rattle.lua_vm_fast.proofs.RunLemmas.{test_is}
use Rattle.lua_vm_fast.proofs.tests.take_test.Goals as goal

pub returns : goal.returns
returns c =
    test_is c.args.x.now c.args.slots.now c.in_ok-test.test.holds c.in_ok-test.test.steps c.steps_of-steps.result c.args.store.now c.count.new.self
    c.in_ok-test.ensures.tells c.steps_of-steps.ensures (sym c.affords.ensures ∙ c.if-not-affords.false) c.count.ensures.counted
