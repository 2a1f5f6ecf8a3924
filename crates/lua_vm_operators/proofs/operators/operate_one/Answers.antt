use Rattle.std.proofs.Common.{sym}
use Rattle.lua_vm_operators.proofs.OperatorLemmas.{unary_as}
use Rattle.lua_vm_operators.proofs.operators.operate_one.Goals as goal

pub returns-in-Length : goal.returns-in-Length
returns-in-Length g c =
    unary_as (g.H.Host.setting c.args.host.now) _ _ _ c.args.a c.args.frames.now _ c.args.store.now _ _ c.in-Length.is (c.length_of.ensures (g.H.Host.setting c.args.host.now) (sym c.program.ensures))

pub returns-in-Minus : goal.returns-in-Minus
returns-in-Minus g c = unary_as (g.H.Host.setting c.args.host.now) _ _ _ c.args.a c.args.frames.now _ c.args.store.now _ _ c.in-Minus.is c.negation.ensures
