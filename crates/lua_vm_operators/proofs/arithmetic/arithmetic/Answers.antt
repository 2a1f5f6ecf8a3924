use Rattle.std.proofs.Common.{[], ◌∷◌, sym, refl}
use Rattle.lua_values.specs.Heap.{Heap}
use Rattle.lua_operators.specs.ArithmeticOperators.{event_of}
use Rattle.lua_operators.specs.OperandFaults.{arithmetic_fault}
use Rattle.lua_meaning.specs.Metatables.{handler_of_two}
use Rattle.lua_vm_operators.proofs.OutcomeLemmas.{outcome_gives, outcome_faults, outcome_event, event_handled}
use Rattle.lua_vm_operators.proofs.arithmetic.arithmetic.Goals as goal

pub returns-in-Gives : goal.returns-in-Gives
returns-in-Gives g c = outcome_gives (g.H.Host.setting c.args.host.now) _ _ c.in-Gives.value _ c.args.frames.now _ c.args.store.now _ (sym c.in-Gives.ensures) c.give_one.ensures

pub returns-in-Faults : goal.returns-in-Faults
returns-in-Faults g c =
    outcome_faults (g.H.Host.setting c.args.host.now) _ _ c.in-Faults.fault _ c.args.frames.now _ c.args.store.now _ (sym c.in-Faults.ensures) (c.raise_fault.ensures (g.H.Host.setting c.args.host.now) c.args.store.now (sym c.program.ensures))

pub returns-in_ok-operands-in-NeedsEvent : goal.returns-in_ok-operands-in-NeedsEvent
returns-in_ok-operands-in-NeedsEvent g c =
    outcome_event (g.H.Host.setting c.args.host.now) _ _ _ c.args.frames.now _ c.args.store.now _ _ (sym c.in-NeedsEvent.ensures)
    (event_handled (g.H.Host.setting c.args.host.now) c.args.line (λ (h : Heap). handler_of_two h c.args.a c.args.b (event_of c.args.operator)) _ c.in_ok-operands-in-NeedsEvent.operands.items (c.args.a ∷ c.args.b ∷ []) _ (arithmetic_fault c.args.a c.args.b)
    c.args.frames.now _ c.handle.new.frames c.args.store.now c.handle.new.store c.handle.result (rw c.event.ensures at c.in_ok-by-in-NeedsEvent.ensures) c.in_ok-operands-in-NeedsEvent.ensures c.arithmetic_fault-fault.ensures refl refl c.handle.ensures)
