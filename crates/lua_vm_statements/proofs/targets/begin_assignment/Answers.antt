use Rattle.std.proofs.Common.{◌≡◌, ◌∙◌, ap, sym, arith, Vec, Global}
use Rattle.lua_ast.specs.declared.expressions.Expr.{Expr}
use Rattle.lua_frames.proofs.DropLemmas.{one_of}
use Rattle.lua_vm_statements.proofs.targets.begin_assignment.Goals as goal

pub begin_one-requires : goal.begin_one-requires
begin_one-requires g c =
    let same : c.as_slice.result.now ≡ c.args.targets.now.value.items = c.as_slice.ensures.value ∙ ap (λ (v : Vec Expr Global). v.items) c.deref.ensures in
    sym same ∙ one_of c.as_slice.result.now c.target-item.result (omega (arith, c.in-len1.len_at_least, c.in-len1.len_below)) c.target-item.is
