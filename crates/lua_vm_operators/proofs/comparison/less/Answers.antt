use Rattle.std.proofs.Common.{sym, ◌∙◌}
use Rattle.lua_vm_operators.proofs.CompareLemmas.{unordered, less_called}
use Rattle.lua_vm_operators.proofs.comparison.less.Goals as goal

pub returns-then-is_nil : goal.returns-then-is_nil
returns-then-is_nil g c =
    unordered (g.H.Host.setting c.args.host.now) _ c.in_ok-by.by c.args.a c.args.b c.args.frames.now _ c.args.store.now _ _ c.in_ok-by.ensures (sym c.is_nil.ensures ∙ c.if-is_nil.true)
    (rw c.comparison_fault.ensures at (c.raise_operand.ensures (g.H.Host.setting c.args.host.now) c.args.store.now (sym c.program.ensures)))

pub returns-else-is_nil : goal.returns-else-is_nil
returns-else-is_nil g c = less_called (g.H.Host.setting c.args.host.now) _ c.in_ok-by.by c.args.a c.args.b c.args.frames.now _ c.args.store.now _ _ c.in_ok-by.ensures (sym c.is_nil.ensures ∙ c.if-is_nil.false) c.call_for_truth.ensures
