use Rattle.std.proofs.Common.{sym, arith, refl}
use Rattle.lua_vm_calls.proofs.NativeLemmas.{is_there, is_missing, library_missing, library_spends, library_gives, library_faults, library_asks}
use Rattle.lua_vm_calls.proofs.library.call_library.Goals as goal

pub returns-then-number-count : goal.returns-then-number-count
returns-then-number-count g c =
    library_missing (g.H.Host.setting c.args.host.now) c.args.number c.args.args.items _ c.args.frames.now _ c.args.store.now _ (is_missing _ _ _ c.count.ensures c.if-number-count.true)
    (c.raise_operand.ensures (g.H.Host.setting c.args.host.now) c.args.store.now (sym c.program.ensures))

pub returns-then-steps-ge-STEP_LIMIT : goal.returns-then-steps-ge-STEP_LIMIT
returns-then-steps-ge-STEP_LIMIT g c =
    library_spends (g.H.Host.setting c.args.host.now) c.args.number c.args.args.items _ c.call-out.result c.args.frames.now _ c.args.store.now _ _
    (is_there _ _ _ c.count.ensures (omega (arith, c.if-number-count.false))) c.spend.ensures.answered c.spend.ensures.spent (rw c.deref.ensures.value at c.call-out.ensures) (omega (arith, c.steps.ensures.steps, c.if-steps-ge-STEP_LIMIT.true))

pub returns-in-Values : goal.returns-in-Values
returns-in-Values g c =
    library_gives (g.H.Host.setting c.args.host.now) c.args.number c.args.args.items _ c.in-Values.values _ c.args.frames.now _ c.args.store.now _ _
    (is_there _ _ _ c.count.ensures (omega (arith, c.if-number-count.false))) (rw (c.in-Values.is, c.deref.ensures.value) at c.call-out.ensures) (omega (arith, c.steps.ensures.steps, c.if-steps-ge-STEP_LIMIT.false)) c.into_vec.ensures c.give_many.ensures

pub returns-in-Fault : goal.returns-in-Fault
returns-in-Fault g c =
    library_faults (g.H.Host.setting c.args.host.now) c.args.number c.args.args.items _ c.in-Fault.value c.args.frames.now _ c.args.store.now _ _
    (is_there _ _ _ c.count.ensures (omega (arith, c.if-number-count.false))) (rw (c.in-Fault.is, c.deref.ensures.value) at c.call-out.ensures) (omega (arith, c.steps.ensures.steps, c.if-steps-ge-STEP_LIMIT.false)) (c.raise_given.ensures (g.H.Host.setting c.args.host.now) _ (sym c.program-in-Fault.ensures))

pub returns-in-Outside : goal.returns-in-Outside
returns-in-Outside g c =
    library_asks (g.H.Host.setting c.args.host.now) c.args.number c.args.args.items _ _ c.args.frames.now _ c.args.store.now _
    (is_there _ _ _ c.count.ensures (omega (arith, c.if-number-count.false))) (rw (c.in-Outside.is, c.deref.ensures.value) at c.call-out.ensures) (omega (arith, c.steps.ensures.steps, c.if-steps-ge-STEP_LIMIT.false)) refl c.of.ensures (c.position_at-position.ensures (g.H.Host.setting c.args.host.now) (sym c.program-in-Outside.ensures)) refl refl refl
