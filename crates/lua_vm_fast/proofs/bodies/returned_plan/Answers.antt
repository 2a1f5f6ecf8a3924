use Rattle.std.proofs.Common.{◌≡◌, ◌∙◌, ap, sym, arith, Vec, Global}
use Rattle.lua_ast.specs.declared.expressions.Expr.{Expr}
use Rattle.lua_vm_fast.proofs.BodyLemmas.{none_of, nothing_follows}
use Rattle.lua_vm_fast.proofs.bodies.returned_plan.Goals as goal

pub returns-in-empty-clause-follows : goal.returns-in-empty-clause-follows
returns-in-empty-clause-follows c = λ st is s h.
    let same : c.as_slice.result.now ≡ c.args.xs.now.value.items = c.as_slice.ensures.value ∙ ap (λ (v : Vec Expr Global). v.items) c.deref.ensures in
    nothing_follows c.args.xs.now.value.items st s h (sym same ∙ none_of c.as_slice.result.now (omega (arith, c.in-empty.len_below))) is
