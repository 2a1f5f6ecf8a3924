use Rattle.std.proofs.Common.{◌≡◌, ◌∙◌, ◌+◌, ap, sym, refl, ℕ, Vec, Global}
use Rattle.lua_ast.specs.declared.expressions.Expr.{Expr}
use Rattle.lua_vm_fast.proofs.BodyLemmas.{local_changes}
use Rattle.lua_vm_fast.proofs.bodies.local_plan.Goals as goal

pub returns-clause-follows : goal.returns-clause-follows
returns-clause-follows c = λ st is s h site levels u n g.
    let places : c.as_slice.result.now ≡ c.args.places.now.value.items = c.as_slice.ensures.value ∙ ap (λ (v : Vec ℕ Global). v.items) c.deref.ensures in
    let values : c.as_slice-2.result.now ≡ c.args.xs.now.value.items = c.as_slice-2.ensures.value ∙ ap (λ (v : Vec Expr Global). v.items) c.deref-2.ensures in
    local_changes site levels st c.args.places.now.value.items c.args.xs.now.value.items c.in_ok-x.x.now c.in_ok-i.i.now n (n + 1) u s h (sym places ∙ c.in_ok-i.ensures) (sym values ∙ c.in_ok-x.ensures) is g refl
