use Rattle.std.proofs.Common.{◌≡◌, ◌∷◌, [], ◌∙◌, ap, sym, refl, arith, Vec, Global}
use Rattle.lua_ast.specs.declared.expressions.Expr.{Expr}
use Rattle.lua_vm_fast.proofs.RunLemmas.{one_of, same_locals}
use Rattle.lua_vm_fast.proofs.statements.run_listed.Goals as goal

pub returns-in-len1 : goal.returns-in-len1
returns-in-len1 c =
    let same : c.as_slice.result.now ≡ c.args.xs.now.value.items = c.as_slice.ensures.value ∙ ap (λ (v : Vec Expr Global). v.items) c.deref.ensures in
    same_locals (c.args.i.now ∷ []) (c.args.i.now ∷ []) c.args.xs.now.value.items (c.x-item.result ∷ []) c.run_local.result c.args.slots.now.items c.run_local.new.slots.items c.args.store.now c.run_local.new.store
    refl (sym same ∙ one_of c.as_slice.result.now c.x-item.result (omega (arith, c.in-len1.len_at_least, c.in-len1.len_below)) c.x-item.is) c.run_local.ensures
