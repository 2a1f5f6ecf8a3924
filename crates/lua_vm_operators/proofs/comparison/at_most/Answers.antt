use Rattle.std.proofs.Common.{sym, ◌∙◌}
use Rattle.lua_vm_operators.proofs.CompareLemmas.{at_most_called, at_most_swapped, at_most_unordered}
use Rattle.lua_vm_operators.proofs.comparison.at_most.Goals as goal

pub returns-then-not-is_nil : goal.returns-then-not-is_nil
returns-then-not-is_nil g c = at_most_called (g.H.Host.setting c.args.host.now) _ c.in_ok-by.by c.args.a c.args.b c.args.frames.now _ c.args.store.now _ _ c.in_ok-by.ensures (sym c.is_nil.ensures ∙ c.if-not-is_nil.true) c.call_for_truth.ensures

pub returns-then-is_nil : goal.returns-then-is_nil
returns-then-is_nil g c =
    at_most_unordered (g.H.Host.setting c.args.host.now) _ c.in_ok-by.by c.in_ok-by-2.by c.args.a c.args.b c.args.frames.now _ c.args.store.now _ _ c.in_ok-by.ensures (sym c.is_nil.ensures ∙ c.if-not-is_nil.false)
    c.in_ok-by-2.ensures (sym c.is_nil-2.ensures ∙ c.if-is_nil.true) (rw c.comparison_fault.ensures at (c.raise_operand.ensures (g.H.Host.setting c.args.host.now) c.args.store.now (sym c.program.ensures)))

pub returns-else-is_nil : goal.returns-else-is_nil
returns-else-is_nil g c =
    at_most_swapped (g.H.Host.setting c.args.host.now) _ c.in_ok-by.by c.in_ok-by-2.by c.args.a c.args.b c.args.frames.now _ c.args.store.now _ _ c.in_ok-by.ensures (sym c.is_nil.ensures ∙ c.if-not-is_nil.false)
    c.in_ok-by-2.ensures (sym c.is_nil-2.ensures ∙ c.if-is_nil.false) c.call_for_truth-else-is_nil.ensures
