use Rattle.std.proofs.Common.{◌≡◌, ◌∙◌, ap, Vec, Global}
use Rattle.lua_ast.specs.declared.statements.Stmt.{Stmt}
use Rattle.lua_vm_fast.proofs.CountLemmas.{same_run}
use Rattle.lua_vm_fast.proofs.counting.run_for.Goals as goal

pub returns : goal.returns
returns c =
    let same : c.as_slice.result.now ≡ c.args.body.now.value.items = c.as_slice.ensures.value ∙ ap (λ (v : Vec Stmt Global). v.items) c.deref.ensures in
    same_run c.args.site.now c.args.site.now.levels c.args.count.now c.args.from c.as_slice.result.now c.args.body.now.value.items c.run_counts.result c.args.slots.now.items c.run_counts.new.slots.items c.args.store.now c.run_counts.new.store same c.run_counts.ensures
