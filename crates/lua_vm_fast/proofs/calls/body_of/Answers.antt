use Rattle.std.proofs.Common.{refl}
use Rattle.std.proofs.lemmas.Option.{slice_get_read}
use Rattle.lua_vm_fast.proofs.calls.body_of.Goals as goal

pub returns : goal.returns
returns c =
    let got = rw c.deref.ensures.value at c.in_ok-function.ensures.lookup in
    record {
      number = c.in_ok-number.number;
      closure = c.in_ok-number.ensures;
      there = slice_get_read _ _ _ _ refl got.3.0 got.1;
    }
