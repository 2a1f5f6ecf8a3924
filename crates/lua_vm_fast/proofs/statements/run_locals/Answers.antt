use Rattle.std.proofs.Common.{◌≡◌, ◌∷◌, [], ◌∙◌, ap, sym, refl, ℕ, Vec, Global}
use Rattle.lua_vm_fast.proofs.RunLemmas.{same_locals}
use Rattle.lua_vm_fast.proofs.statements.run_locals.Goals as goal

pub returns-in-Some : goal.returns-in-Some
returns-in-Some c =
    let same : c.as_slice.result.now ≡ c.args.places.now.value.items = c.as_slice.ensures.value ∙ ap (λ (v : Vec ℕ Global). v.items) c.deref.ensures in
    same_locals c.args.places.now.value.items (c.in-Some.i.now ∷ []) c.args.xs.now.value.items c.args.xs.now.value.items c.run_listed.result c.args.slots.now.items c.run_listed.new.slots.items c.args.store.now c.run_listed.new.store
    (sym same ∙ rw c.in-Some.is at c.only.ensures) refl c.run_listed.ensures
