use Rattle.std.proofs.Common.{[], ◌∷◌, sym, ◌∙◌, refl}
use Rattle.lua_values.specs.Heap.{Heap}
use Rattle.lua_operators.specs.declared.events.Event.TheVariants.{Concat}
use Rattle.lua_operators.specs.OperandFaults.{concatenation_fault}
use Rattle.lua_meaning.specs.Metatables.{handler_of_two}
use Rattle.lua_vm_operators.proofs.OutcomeLemmas.{event_handled}
use Rattle.lua_vm_operators.proofs.JoinLemmas.{joined_goes, joined_spent, joined_event, bytes_told}
use Rattle.lua_vm_operators.proofs.concatenation.concatenation.Goals as goal

pub returns-then-count : goal.returns-then-count
returns-then-count g c =
    joined_goes (g.H.Host.setting c.args.host.now) _ _ c.saturating_add-bytes.result _ c.in-Gives.value _ c.args.frames.now _ c.args.store.now c.count.new.self _ c.count.result _ (sym c.in_ok-value.ensures ∙ c.in-Gives.is)
    (bytes_told _ _ _ _ _ _ _ c.text_length.ensures c.text_length-in-Gives.ensures c.text_length-in-Gives-2.ensures c.saturating_add-bytes.ensures) c.count.ensures.counted c.count.ensures.below c.if-count.true
    (c.give_text.ensures (g.H.Host.setting c.args.host.now) (sym c.program.ensures))

pub returns-in-Gives : goal.returns-in-Gives
returns-in-Gives g c =
    joined_spent (g.H.Host.setting c.args.host.now) _ _ c.saturating_add-bytes.result _ c.in-Gives.value _ c.args.frames.now _ c.args.store.now _ c.count.result (sym c.in_ok-value.ensures ∙ c.in-Gives.is)
    (bytes_told _ _ _ _ _ _ _ c.text_length.ensures c.text_length-in-Gives.ensures c.text_length-in-Gives-2.ensures c.saturating_add-bytes.ensures) c.count.ensures.below c.if-count.false

pub returns : goal.returns
returns g c =
    joined_event (g.H.Host.setting c.args.host.now) _ _ _ _ c.args.frames.now _ c.args.store.now _ _ (sym c.in_ok-value.ensures ∙ c.in-NeedsEvent.is)
    (event_handled (g.H.Host.setting c.args.host.now) c.args.line (λ (h : Heap). handler_of_two h c.args.a c.args.b Concat) _ c.in_ok-operands-in-NeedsEvent.operands.items (c.args.a ∷ c.args.b ∷ []) _ (concatenation_fault c.args.a c.args.b)
    c.args.frames.now _ c.handle.new.frames c.args.store.now c.handle.new.store c.handle.result c.in_ok-by-in-NeedsEvent.ensures c.in_ok-operands-in-NeedsEvent.ensures c.concatenation_fault-fault.ensures refl refl c.handle.ensures)
