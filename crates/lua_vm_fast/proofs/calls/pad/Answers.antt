use Rattle.std.proofs.Common.{arith}
use Rattle.lua_vm_fast.proofs.CallLemmas.{padded_more}
use Rattle.lua_vm_fast.proofs.calls.pad.Goals as goal

pub loop-slots-preserved : goal.loop-slots-preserved
loop-slots-preserved c =
    padded_more c.args.slots.now.items c.loop-slots.slots.items c.push.new.slots.items c.args.count (omega (arith, c.len.ensures, c.loop-slots-test.true)) (c.push.ensures (c.if-not-push.false)) c.loop-slots.invariant
