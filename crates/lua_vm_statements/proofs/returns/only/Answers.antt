use Rattle.std.proofs.Common.{◌≡◌, ◌∙◌, ap, sym, length, List, Vec, Global}
use Rattle.std.proofs.lemmas.Bool.{eqb-true, eq-eqb, true≢false}
use Rattle.lua_ast.specs.declared.expressions.Expr.{Expr}
use Rattle.lua_vm_statements.proofs.ReturnForms.{only_found}
use Rattle.lua_vm_statements.proofs.returns.only.Goals as goal

pub returns-then-is_one : goal.returns-then-is_one
returns-then-is_one c =
    let same : c.as_slice.result.now ≡ c.args.xs.now.value.items = c.as_slice.ensures.value ∙ ap (λ (v : Vec Expr Global). v.items) c.deref.ensures in
    only_found c.args.xs.now.value.items c.element.result (ap (λ (ys : List Expr). length ys) (sym same) ∙ eqb-true _ 1 (sym c.is_one.ensures ∙ c.if-is_one.true)) c.element.ensures

pub returns-else-is_one : goal.returns-else-is_one
returns-else-is_one c = λ one.
    let same : c.as_slice.result.now ≡ c.args.xs.now.value.items = c.as_slice.ensures.value ∙ ap (λ (v : Vec Expr Global). v.items) c.deref.ensures in
    true≢false (sym (eq-eqb _ 1 (ap (λ (ys : List Expr). length ys) same ∙ one)) ∙ sym c.is_one.ensures ∙ c.if-is_one.false)
