use Rattle.std.proofs.Common.{◌≡◌, ◌∙◌, ap, sym, refl, arith, Vec, Global}
use Rattle.lua_ast.specs.declared.expressions.Expr.{Expr}
use Rattle.lua_frames.proofs.DropLemmas.{one_of}
use Rattle.lua_vm_expressions.proofs.ListForms.{list_of_one, list_from_start}
use Rattle.lua_vm_expressions.proofs.lists.begin_list.Goals as goal

pub returns-in-len1 : goal.returns-in-len1
returns-in-len1 g c =
    let same : c.as_slice.result.now ≡ c.args.xs.now.value.items = c.as_slice.ensures.value ∙ ap (λ (v : Vec Expr Global). v.items) c.deref.ensures in
    list_of_one (g.H.Host.setting c.args.host.now) c.x-item.result c.args.xs.now.value.items c.args.frames.now c.enter_expr.new.frames c.args.store.now c.enter_expr.new.store c.enter_expr.result
    (sym same ∙ one_of c.as_slice.result.now c.x-item.result (omega (arith, c.in-len1.len_at_least, c.in-len1.len_below)) c.x-item.is) c.enter_expr.ensures

pub returns-in_default : goal.returns-in_default
returns-in_default g c =
    list_from_start (g.H.Host.setting c.args.host.now) c.args.xs.now.value.items c.fresh-done.result.items c.args.frames.now _ c.enter_next.new.frames c.args.store.now c.enter_next.new.store c.enter_next.result c.fresh-done.ensures refl refl c.enter_next.ensures
