use Rattle.std.proofs.Common.{arith}
use Rattle.lua_vm_fast.proofs.CallLemmas.{filled}
use Rattle.lua_vm_fast.proofs.calls.fill.Goals as goal

pub returns : goal.returns
returns c = λ vs ok plain.
    filled c.args.slots.now.items c.args.f.now.slots c.args.f.now.params vs c.pad.new.slots.items plain (omega (arith, c.len.ensures, c.if-len-f.false)) (omega (arith, c.if-f.false)) (c.pad.ensures ok)
