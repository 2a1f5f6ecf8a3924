use Rattle.std.proofs.Common.{◌≡◌, ◌∷◌, [], ◌∙◌, ap, sym, refl, arith, Vec, Global}
use Rattle.lua_ast.specs.declared.expressions.Expr.{Expr}
use Rattle.lua_vm_fast.proofs.RunLemmas.{one_of, same_assignments}
use Rattle.lua_vm_fast.proofs.statements.run_assignments.Goals as goal

pub returns-in-len1 : goal.returns-in-len1
returns-in-len1 c =
    let same : c.as_slice.result.now ≡ c.args.targets.now.value.items = c.as_slice.ensures.value ∙ ap (λ (v : Vec Expr Global). v.items) c.deref.ensures in
    same_assignments c.args.targets.now.value.items (c.target-item.result ∷ []) c.args.xs.now.value.items c.args.xs.now.value.items c.run_aimed.result c.args.slots.now.items c.run_aimed.new.slots.items c.args.store.now c.run_aimed.new.store
    (sym same ∙ one_of c.as_slice.result.now c.target-item.result (omega (arith, c.in-len1.len_at_least, c.in-len1.len_below)) c.target-item.is) refl c.run_aimed.ensures
