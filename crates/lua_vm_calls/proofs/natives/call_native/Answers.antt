use Rattle.std.proofs.Common.{sym, arith}
use Rattle.lua_vm_calls.proofs.CountLemmas.{number_of_library, lent_length, own_goes, own_spent}
use Rattle.lua_vm_calls.proofs.TextLemmas.{number_of_tostring}
use Rattle.lua_vm_calls.proofs.natives.call_native.Goals as goal

pub returns-then-number-ge-LIBRARY : goal.returns-then-number-ge-LIBRARY
returns-then-number-ge-LIBRARY g c = number_of_library _ c.args.number c.args.args.items _ c.args.frames.now _ c.args.store.now _ _ c.if-number-ge-LIBRARY.true c.call_library.ensures

pub returns-then-not-count : goal.returns-then-not-count
returns-then-not-count g c =
    own_spent _ c.args.number _ c.args.args.items _ _ c.args.frames.now _ c.args.store.now _ (omega (arith, c.if-number-ge-LIBRARY.false)) (λ e. c.if-number-eq-TOSTRING.false e) (lent_length _ _ _ c.deref.ensures.value c.texts_length.ensures) c.count.ensures.below c.if-not-count.true

pub returns : goal.returns
returns g c =
    own_goes _ c.args.number _ c.args.args.items _ _ c.args.frames.now _ c.args.store.now _ _ (omega (arith, c.if-number-ge-LIBRARY.false)) (λ e. c.if-number-eq-TOSTRING.false e) (lent_length _ _ _ c.deref.ensures.value c.texts_length.ensures) c.count.ensures.counted c.count.ensures.below c.if-not-count.false
    (c.call_own.ensures _ _ (sym c.program-2.ensures))

pub returns-then-number-eq-TOSTRING : goal.returns-then-number-eq-TOSTRING
returns-then-number-eq-TOSTRING g c =
    number_of_tostring (g.H.Host.setting c.args.host.now) c.args.number c.args.args.items _ c.args.frames.now _ c.args.store.now _ _ c.if-number-eq-TOSTRING.true (c.tostring_call.ensures (g.H.Host.setting c.args.host.now) (sym c.program.ensures))
