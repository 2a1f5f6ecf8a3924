use Rattle.std.proofs.Common.{◌∙◌, sym}
use Rattle.lua_vm_operators.proofs.OutcomeLemmas.{no_handler, has_handler}
use Rattle.lua_vm_operators.proofs.handlers.handle.Goals as goal

pub returns-then-is_nil : goal.returns-then-is_nil
returns-then-is_nil g c =
    no_handler (g.H.Host.setting c.args.host.now) _ c.args.by c.args.operands.items c.args.fault c.args.frames.now _ c.args.store.now _ _ (sym c.is_nil.ensures ∙ c.if-is_nil.true) (c.raise_operand.ensures (g.H.Host.setting c.args.host.now) c.args.store.now (sym c.program.ensures))

pub returns-else-is_nil : goal.returns-else-is_nil
returns-else-is_nil g c = has_handler (g.H.Host.setting c.args.host.now) _ c.args.by c.args.operands.items c.args.fault c.args.frames.now _ c.args.store.now _ _ (sym c.is_nil.ensures ∙ c.if-is_nil.false) c.call_for_one.ensures
