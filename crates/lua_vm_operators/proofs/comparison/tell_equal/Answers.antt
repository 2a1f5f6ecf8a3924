use Rattle.std.proofs.Common.{sym, ap, ◌∙◌}
use Rattle.std.specs.Prelude.{Bool, not, if◌then◌else◌}
use Rattle.lua_values.specs.declared.values.Value.TheVariants.{Truth}
use Rattle.lua_vm_operators.proofs.CompareLemmas.{truth_gives, truth_faults, truth_event, unequal, equal_by_handler}
use Rattle.lua_vm_operators.proofs.comparison.tell_equal.Goals as goal

pub returns-in-Gives : goal.returns-in-Gives
returns-in-Gives g c =
    truth_gives (g.H.Host.setting c.args.host.now) _ c.args.wanted _ _ c.in-Gives.value _ c.args.frames.now _ c.args.store.now _ (sym c.in-Gives.ensures)
    (c.truth_as.ensures ∙ ap (λ (t : Bool). Truth (if c.args.wanted then t else not t)) c.is_truthy.ensures) c.give_one.ensures

pub returns-in-Faults : goal.returns-in-Faults
returns-in-Faults g c =
    truth_faults (g.H.Host.setting c.args.host.now) _ c.args.wanted _ c.in-Faults.fault _ c.args.frames.now _ c.args.store.now _ (sym c.in-Faults.ensures) (c.raise_fault.ensures (g.H.Host.setting c.args.host.now) c.args.store.now (sym c.program.ensures))

pub returns-then-is_nil : goal.returns-then-is_nil
returns-then-is_nil g c =
    truth_event (g.H.Host.setting c.args.host.now) _ c.args.wanted _ _ c.args.frames.now _ c.args.store.now _ _ (sym c.in-NeedsEvent.ensures)
    (unequal (g.H.Host.setting c.args.host.now) _ c.args.wanted _ _ c.args.a c.args.b c.args.frames.now _ c.args.store.now _ c.in_ok-by-in-NeedsEvent.ensures (sym c.is_nil.ensures ∙ c.if-is_nil.true) c.truth_as-then-is_nil.ensures c.give_one-then-is_nil.ensures)

pub returns-else-is_nil : goal.returns-else-is_nil
returns-else-is_nil g c =
    truth_event (g.H.Host.setting c.args.host.now) _ c.args.wanted _ _ c.args.frames.now _ c.args.store.now _ _ (sym c.in-NeedsEvent.ensures)
    (equal_by_handler (g.H.Host.setting c.args.host.now) _ c.args.wanted _ c.args.a c.args.b c.args.frames.now _ c.args.store.now _ _ c.in_ok-by-in-NeedsEvent.ensures (sym c.is_nil.ensures ∙ c.if-is_nil.false) c.call_for_truth.ensures)
