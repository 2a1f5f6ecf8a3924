use Rattle.std.proofs.Common.{◌≡◌, ◌∙◌, ap, Vec, Global}
use Rattle.lua_ast.specs.declared.statements.Stmt.{Stmt}
use Rattle.lua_vm_fast.proofs.RunLemmas.{same_body}
use Rattle.lua_vm_fast.proofs.loops.run_loop.Goals as goal

pub returns : goal.returns
returns c =
    let same : c.as_slice.result.now ≡ c.args.body.now.value.items = c.as_slice.ensures.value ∙ ap (λ (v : Vec Stmt Global). v.items) c.deref.ensures in
    same_body c.args.site.now c.args.site.now.levels c.args.test.now.value c.as_slice.result.now c.args.body.now.value.items c.run_turns.result c.args.slots.now.items c.run_turns.new.slots.items c.args.store.now c.run_turns.new.store same c.run_turns.ensures
