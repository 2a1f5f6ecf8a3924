use Rattle.std.proofs.Common.{arith, ◌≡◌, ◌-◌, ◌<◌, ◌≤◌, length, ◌++◌, refl, sym, ap, ◌∙◌}
use Rattle.std.proofs.lemmas.Option.{slice_get_read}
use Rattle.std.proofs.lemmas.List.{length-append}
use Rattle.lua_values.proofs.FreezableLemmas.{set-after, get-after}
use Rattle.lua_values.proofs.freezable.FreezableList.item_mut.Goals as goal

pub returns : goal.returns
returns g c =
    let base = c.self.inside.base.value in
    let own = c.self.inside.own in
    let shared = c.len-shared.result in
    let len : length base.items ≡ shared = sym base.ok.0 ∙ ap (λ v. v.len) (sym c.deref.ensures) ∙ sym c.len-shared.ensures in
    let unfrozen : c.self.inside.frozen ≤ c.args.index = rw (← c.self.view_is) at c.requires.unfrozen in
    let there : c.args.index < length (base.items ++ own.items) = rw (← c.self.view_is) at c.requires.there in
    let after : shared ≤ c.args.index = omega (arith, len, unfrozen, c.self.invariant) in
    let within : c.args.index - shared < length own.items = omega (arith, len, there, length-append base.items own.items, after) in (
      (refl {a = c.index_mut.result.ghost_name}, λ w. rw (← c.self.view_is) (sym (set-after base.items own.items shared c.self.inside.frozen c.args.index w len after))),
      record {
        writes_back = tt;
        item = rw (← c.self.view_is) (get-after base.items own.items shared c.args.index len after ∙ slice_get_read own.items (length own.items) (c.args.index - shared) c.index_mut.result.now refl within c.index_mut.ensures.value);
      },
    )
