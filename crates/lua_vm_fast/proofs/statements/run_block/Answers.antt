use Rattle.std.proofs.Common.{◌≡◌, ◌∙◌, ap, Vec, Global}
use Rattle.lua_ast.specs.declared.statements.Stmt.{Stmt}
use Rattle.lua_vm_fast.proofs.RunLemmas.{same_block}
use Rattle.lua_vm_fast.proofs.statements.run_block.Goals as goal

pub returns : goal.returns
returns c =
    let same : c.as_slice.result.now ≡ c.args.stmts.now.value.items = c.as_slice.ensures.value ∙ ap (λ (v : Vec Stmt Global). v.items) c.deref.ensures in
    same_block c.args.site.now c.args.site.now.levels c.as_slice.result.now c.args.stmts.now.value.items c.args.from c.run_simple.result c.args.slots.now.items c.run_simple.new.slots.items c.args.store.now c.run_simple.new.store same c.run_simple.ensures
