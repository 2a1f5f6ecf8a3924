use Rattle.std.proofs.Common.{◌≡◌, ◌-◌, length, slice_get, sym, ap, ◌∙◌}
use Rattle.lua_values.proofs.FreezableLemmas.{get-before, get-after, lent}
use Rattle.lua_values.proofs.freezable.FreezableList.get.Goals as goal

pub returns-then-index-shared : goal.returns-then-index-shared
returns-then-index-shared g c =
    let base = c.self.inside.base.value in
    let own = c.self.inside.own in
    let len : length base.items ≡ c.len-shared.result = sym base.ok.0 ∙ ap (λ v. v.len) (sym c.deref.ensures) ∙ sym c.len-shared.ensures in
    let items = c.deref-then-index-shared-2.ensures.value ∙ ap (λ v. v.items) c.deref-then-index-shared.ensures in
    rw (← c.self.view_is)
    (lent _ c.args.index c.get.result c.get.ensures.lookup ∙ ap (λ xs. slice_get xs c.args.index) items ∙ sym (get-before base.items own.items c.len-shared.result c.args.index len c.if-index-shared.true))

pub returns-else-index-shared : goal.returns-else-index-shared
returns-else-index-shared g c =
    let base = c.self.inside.base.value in
    let own = c.self.inside.own in
    let shared = c.len-shared.result in
    let len : length base.items ≡ shared = sym base.ok.0 ∙ ap (λ v. v.len) (sym c.deref.ensures) ∙ sym c.len-shared.ensures in
    rw (← c.self.view_is)
    (lent _ (c.args.index - shared) c.get-else-index-shared.result c.get-else-index-shared.ensures.lookup
    ∙ ap (λ xs. slice_get xs (c.args.index - shared)) c.deref-else-index-shared.ensures.value
    ∙ sym (get-after base.items own.items shared c.args.index len c.if-index-shared.false))
