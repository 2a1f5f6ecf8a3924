use Rattle.std.proofs.Common.{sym, subst}
use Rattle.lua_ast.specs.declared.expressions.Expr.{Expr}
use Rattle.lua_vm_fast.specs.Calls.{IsCall}
use Rattle.lua_vm_fast.proofs.CallLemmas.{call_kind}
use Rattle.lua_vm_fast.proofs.calls.run_call.Goals as goal

pub returns-in-Call : goal.returns-in-Call
returns-in-Call c =
    c.run_called.ensures c.args.stmt.now
    (subst (λ (y : Expr). IsCall y c.in-Call.xs.value.items c.args.stmt.now) (sym c.deref.ensures) (call_kind c.args.stmt.now c.args.x.now c.in-Call.f c.in-Call.xs c.requires c.in-Call.is))
