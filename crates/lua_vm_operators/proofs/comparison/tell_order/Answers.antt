use Rattle.std.proofs.Common.{sym}
use Rattle.lua_vm_operators.proofs.OutcomeLemmas.{outcome_gives, outcome_faults, outcome_event}
use Rattle.lua_vm_operators.proofs.CompareLemmas.{order_as}
use Rattle.lua_vm_operators.proofs.comparison.tell_order.Goals as goal

pub returns-in-Gives : goal.returns-in-Gives
returns-in-Gives g c = outcome_gives (g.H.Host.setting c.args.host.now) _ _ c.in-Gives.value _ c.args.frames.now _ c.args.store.now _ (sym c.in-Gives.ensures) c.give_one.ensures

pub returns-in-Faults : goal.returns-in-Faults
returns-in-Faults g c =
    outcome_faults (g.H.Host.setting c.args.host.now) _ _ c.in-Faults.fault _ c.args.frames.now _ c.args.store.now _ (sym c.in-Faults.ensures) (c.raise_fault.ensures (g.H.Host.setting c.args.host.now) c.args.store.now (sym c.program.ensures))

pub returns-in-Less : goal.returns-in-Less
returns-in-Less g c =
    outcome_event (g.H.Host.setting c.args.host.now) _ _ _ c.args.frames.now _ c.args.store.now _ _ (sym c.in-NeedsEvent.ensures)
    (order_as (g.H.Host.setting c.args.host.now) _ c.args.operator _ c.args.a c.args.b c.args.frames.now _ c.args.store.now _ _ c.in-Less.is c.less.ensures)

pub returns-in-LessOrEqual : goal.returns-in-LessOrEqual
returns-in-LessOrEqual g c =
    outcome_event (g.H.Host.setting c.args.host.now) _ _ _ c.args.frames.now _ c.args.store.now _ _ (sym c.in-NeedsEvent.ensures)
    (order_as (g.H.Host.setting c.args.host.now) _ c.args.operator _ c.args.a c.args.b c.args.frames.now _ c.args.store.now _ _ c.in-LessOrEqual.is c.at_most.ensures)
